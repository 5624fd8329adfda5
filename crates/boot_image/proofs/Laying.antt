-- Laws of laying sections out, one after another. Assumes nothing.
use mathlib.Core.Path.{◌≡◌, sym, ap, ◌∙◌, subst}
use mathlib.Core.Bool.{Bool, true, false, cond}
use mathlib.Core.List.{List}
use Prim.Native.Nat.{ℕ, suc, ◌+◌, ◌<◌}
use native.Mathlib.Omega.{arith}
use mir.Val.{Fits}
use mir.Syntax.{w8}
use lib.ListN.{get_or, set, length, length-set}
use Rattle.std.proofs.Common.{get_or-set_same, get_or-set_other}
use borrow.Author.Count.{below_more}
use Rattle.std.specs.Prelude.{Option, Some, None, unwrap_or, MatchOption, IsSomeAnd}
use Rattle.boot_rules.specs.declared.Row.{Row}
use Rattle.boot_rules.specs.declared.Section.{Section}
use Rattle.boot_rules.specs.Pages.{is_page, round_up}
use Rattle.boot_rules.specs.Positions.{position_bound}
use Rattle.boot_rules.specs.Sections.{version_in, row_in, page_in, no_section, section_at, starts_of, sections_of}
use Rattle.boot_rules.specs.Table.{has, number, read_at, lacking, size_fields}
use Rattle.boot_image.specs.Steps.{Ready}
use Rattle.boot_rules.proofs.Placing.{start_first, start_next, section-at}
use Rattle.boot_rules.proofs.Positions.{near}
use Rattle.boot_rules.proofs.Reading.{stated, number_read, stated_or_0}
use Rattle.boot_rules.proofs.Widths.{numbers}
use Rattle.fields_rules.specs.Number.{Bytes}

-- the first i sections of an image are laid out, and the next one begins at a position
pub record Laid (s : List ℕ) (i next : ℕ) (rooms : List (Option Section)) : Type 0 where
  pub start : i < 6 → next ≡ get_or (starts_of s) i 0
  pub done : (k : ℕ) → k < i → get_or rooms k no_section ≡ get_or (sections_of s) k no_section
  pub six : length rooms ≡ 6

-- what is known of an image before its sections are laid out: that it is bytes, its page, which is right, and its row
pub record Known (s : List ℕ) (k : ℕ) (r : Row) : Type 0 where
  pub small : Bytes s
  pub page : k ≡ page_in s
  pub right : is_page (page_in s) ≡ true
  pub row : r ≡ row_in s

-- the step over section i from where it begins
pub ready : {s : List ℕ} {k : ℕ} {r : Row} → Known s k r → (i x : ℕ) → x ≡ get_or (starts_of s) i 0 → Ready k (get_or (size_fields r) i lacking) x
ready {s} {k} {r} known i x e = (
  ap is_page known.page ∙ known.right,
  (numbers r (version_in s) known.row).sizes i,
  subst (λ (n : ℕ). n < position_bound) (sym e) ((near s known.small).starts i),
)

-- a slice's elements are bytes
pub bytes : (s : List ℕ) → ((i : ℕ) → Fits w8 (get_or s i 0)) → Bytes s
bytes s b = λ i. omega (arith, b i)

-- before the first section
pub first_laid : (s : List ℕ) (page : ℕ) (rooms : List (Option Section)) → page ≡ page_in s → length rooms ≡ 6 → Laid s 0 page rooms
first_laid s page rooms e h = record { start = λ l. e ∙ start_first s; done = λ k l. absurd (omega arith); six = h }

-- a section of the version, or none where the version lacks it
room : (b : Bool) (n p : ℕ) (P : ℕ → Section → Type 0) (o : Option ℕ) (m : Option Section) → o ≡ cond b (Some n) None → MatchOption o (m ≡ None) (λ x. IsSomeAnd m (P x))
    → ((x : ℕ) (y : Section) → P x y → y ≡ record { position = p; size = x }) → m ≡ section_at b p n
room true n p P o m e h t = some m (subst (λ (x : Option ℕ). MatchOption x (m ≡ None) (λ x. IsSomeAnd m (P x))) e h)
  where
    some : (m : Option Section) → IsSomeAnd m (P n) → m ≡ Some (record { position = p; size = n })
    some (Some y) q = ap Some (t n y q)
    some None q = absurd q
room false n p P o m e h t = subst (λ (x : Option ℕ). MatchOption x (m ≡ None) (λ x. IsSomeAnd m (P x))) e h

module _ (s : List ℕ) (b : Bytes s) (r : Row) (re : r ≡ row_in s) (i next : ℕ) (rooms : List (Option Section)) (laid : Laid s i next rooms) (l : i < 6) where
  module _ (o : Option ℕ) (oe : o ≡ read_at 4 s (get_or (size_fields r) i lacking)) where
    found : o ≡ stated s (get_or (size_fields (row_in s)) i lacking)
    found = oe ∙ number_read s (get_or (size_fields r) i lacking) 4 ((numbers r (version_in s) re).sizes i) ∙ ap (λ (x : Row). stated s (get_or (size_fields x) i lacking)) re

    -- one section more
    pub one_more : (page : ℕ) → page ≡ page_in s → (P : ℕ → Section → Type 0) (m : Option Section) → MatchOption o (m ≡ None) (λ x. IsSomeAnd m (P x))
        → ((x : ℕ) (y : Section) → P x y → y ≡ record { position = next; size = x }) → (after : ℕ) → after ≡ round_up (next + unwrap_or o 0) page → Laid s (i + 1) after (set rooms i m)
    one_more page pe P m h t after ae =
        let f = get_or (size_fields (row_in s)) i lacking in
        let e : unwrap_or o 0 ≡ number s f = ap (λ (x : Option ℕ). unwrap_or x 0) found ∙ stated_or_0 s f in
        let p : next ≡ get_or (starts_of s) i 0 = laid.start l in
        record {
          start = λ k. ae ∙ rw (e, p, pe) (start_next s i (omega arith) ∙ ap (λ (n : ℕ). get_or (starts_of s) n 0) (let z : suc i ≡ i + 1 = omega arith in z));
          done = below_more (λ k. get_or (set rooms i m) k no_section ≡ get_or (sections_of s) k no_section) i
              (λ k q. get_or-set_other rooms i k m no_section (λ z. omega arith) ∙ laid.done k q)
              (get_or-set_same rooms i m no_section (let t = laid.six in omega arith) ∙ room (has f) (number s f) next P o m found h t ∙ ap (λ (n : ℕ). section_at (has f) n (number s f)) p ∙ section-at s i l);
          six = length-set rooms i m ∙ laid.six;
        }
