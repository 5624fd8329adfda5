-- Laws of the answer for a boot image: what the tests say of it, that no refusal has the number 0 or one above 27, and
-- that it tells the cases of the code's answer apart. Assumes nothing.
use mathlib.Core.Path.{◌≡◌, refl, sym, ap, ◌∙◌}
use mathlib.Core.Bool.{true, false}
use mathlib.Core.List.{List, [], ◌∷◌}
use Prim.Native.Nat.{ℕ, ◌-◌, ◌<◌, zero-le}
use native.Mathlib.Omega.{arith}
use lib.Dec.{lit<}
use lib.ListN.{length, get_or}
use Rattle.std.specs.Prelude.{Result, Ok, Err}
use Rattle.rules.specs.Answer.{Answer, accepted, refused, unless}
use Rattle.rules.specs.First.{first}
use Rattle.rules.proofs.Answer.{unless_refused, unless_passed, unless_accepted, accepted_same, unless_number, unless_most}
use Rattle.rules.proofs.Tests.{first_most}
use Rattle.boot_rules.specs.declared.Layout.{Layout}
use Rattle.boot_rules.specs.declared.Refusal.{Refusal}
use Rattle.boot_rules.specs.declared.Refusal.TheVariants.{TooShort, Magic, Version, HeaderSize, PageSize, SectionEnd, RecoveryOffset}
use Rattle.boot_rules.specs.Pages.{is_page}
use Rattle.boot_rules.specs.Sections.{version_in, page_in, sections_of, any_of, layout_of}
use Rattle.boot_rules.specs.Tests.{overruns, head_tests, section_tests, answer, refusal_number, found_number, answer_of, RefusalNumbers, NumbersTo27}
use Rattle.boot_rules.proofs.Tests.{head_page, sections_end}

-- the refusal that has a number
abbrev pub refusal_at : ℕ → Refusal
refusal_at n = get_or (TooShort ∷ Magic ∷ Version ∷ HeaderSize ∷ PageSize ∷ SectionEnd ∷ RecoveryOffset ∷ []) (n - 21) TooShort

pub refusal_one : (r : Refusal) → refusal_at (refusal_number r) ≡ r
refusal_one TooShort = refl
refusal_one Magic = refl
refusal_one Version = refl
refusal_one HeaderSize = refl
refusal_one PageSize = refl
refusal_one SectionEnd = refl
refusal_one RecoveryOffset = refl

-- each has a number
pub refusal_numbered : (r : Refusal) → 0 < refusal_number r
refusal_numbered TooShort = lit< tt
refusal_numbered Magic = lit< tt
refusal_numbered Version = lit< tt
refusal_numbered HeaderSize = lit< tt
refusal_numbered PageSize = lit< tt
refusal_numbered SectionEnd = lit< tt
refusal_numbered RecoveryOffset = lit< tt

-- the case of the code's answer that an answer is
abbrev case : Answer Layout → Result Layout Refusal
case (accepted l) = Ok l
case (refused n place) = Err (refusal_at n)

case_answer : (a : Result Layout Refusal) → case (answer_of a) ≡ a
case_answer (Ok l) = refl
case_answer (Err r) = ap Err (refusal_one r)

-- two cases with the same answer are the same, so a contract that fixes the answer fixes the case
pub answer_one : (a b : Result Layout Refusal) → answer_of a ≡ answer_of b → a ≡ b
answer_one a b e = sym (case_answer a) ∙ ap case e ∙ case_answer b

-- no refusal of a boot image has the number 0
pub refusal_numbers : RefusalNumbers
unfolding answer
refusal_numbers s =
    let found : Answer Layout = accepted (layout_of (version_in s) (sections_of s)) in
    unless_number (first (head_tests s)) 0 (unless (first (section_tests s)) 0 found) (unless_number (first (section_tests s)) 0 found tt)

-- nor one above 27
pub numbers_to_27 : NumbersTo27
unfolding head_tests section_tests answer
numbers_to_27 s =
    unless_most (first (head_tests s)) 0 27 _ (first_most 27 (head_tests s) (tt, (tt, (tt, (tt, (tt, (tt, tt)))))))
    (unless_most (first (section_tests s)) 0 27 _ (first_most 27 (section_tests s) (tt, (tt, tt))) zero-le)

module _ (s : List ℕ) where
  -- a refusal of the header is the answer
  head_refuses : (n : ℕ) → n ≡ first (head_tests s) → 0 < n → refused n 0 ≡ answer s
  unfolding answer
  head_refuses n e h = ap (λ (k : ℕ). refused k 0) e ∙ sym (unless_refused (first (head_tests s)) 0 _ (omega arith))

  -- what the header's tests find is the answer, or they find nothing
  module _ {T : Type 0} (r : Result T Refusal) (e : found_number r ≡ first (head_tests s)) where
    pub head_err : (f : Refusal) → r ≡ Err f → refused (refusal_number f) 0 ≡ answer s
    head_err f h = head_refuses (refusal_number f) (sym (ap found_number h) ∙ e) (refusal_numbered f)

    pub head_ok : (x : T) → r ≡ Ok x → first (head_tests s) ≡ 0
    head_ok x h = sym e ∙ ap found_number h

  -- a header that is not refused leaves the answer to the sections
  head_passes : first (head_tests s) ≡ 0 → answer s ≡ unless (first (section_tests s)) 0 (accepted (layout_of (version_in s) (sections_of s)))
  unfolding answer
  head_passes e = unless_passed (first (head_tests s)) 0 _ e

  -- and a refusal of the sections is then the answer, or else the layout
  module _ (h : first (head_tests s) ≡ 0) where
    pub sections_refuse : (n : ℕ) → n ≡ first (section_tests s) → 0 < n → refused n 0 ≡ answer s
    sections_refuse n e p = ap (λ (k : ℕ). refused k 0) e ∙ sym (head_passes h ∙ unless_refused (first (section_tests s)) 0 _ (omega arith))

    pub sections_pass : 0 ≡ first (section_tests s) → accepted (layout_of (version_in s) (sections_of s)) ≡ answer s
    sections_pass e = sym (head_passes h ∙ unless_passed (first (section_tests s)) 0 _ (sym e))

-- what an accepted image's tests say of its page and of where its sections end, and the layout that it is answered
pub record Passed (s : List ℕ) (l : Layout) : Type 0 where
  pub page : is_page (page_in s) ≡ true
  pub ends : any_of (overruns (length s)) (sections_of s) ≡ false
  pub layout : layout_of (version_in s) (sections_of s) ≡ l

pub passed : (s : List ℕ) (l : Layout) → answer s ≡ accepted l → Passed s l
unfolding answer
passed s l e =
    let h = unless_accepted (first (head_tests s)) 0 (unless (first (section_tests s)) 0 (accepted (layout_of (version_in s) (sections_of s)))) l e in
    let t = unless_accepted (first (section_tests s)) 0 (accepted (layout_of (version_in s) (sections_of s))) l h.1 in
    record { page = head_page s h.0; ends = sections_end s t.0; layout = accepted_same t.1 }
