-- Laws of the text: of each input by what the boot part answers, the lines release after release, and how long it can be.
-- Assumes nothing.
use mathlib.Core.Path.{◌≡◌, refl, sym, ap, ◌∙◌}
use mathlib.Core.Bool.{Bool, true, false, cond}
use mathlib.Core.List.{List, [], ◌∷◌, ◌++◌, flatten, append_assoc}
use Prim.Native.Nat.{ℕ, zero, suc, ◌*◌, ◌≤◌, ◌<◌}
use native.Mathlib.Nat.{le_of_suc-le-suc, not-suc-le-zero}
use native.Mathlib.Omega.{arith}
use lib.Dec.{leb, eqb}
use lib.ListN.{length, get_or, take, length-append}
use borrow.Author.Tests.{leb-true, leb-false, lt-ltb, le-ltb}
use Rattle.rules.specs.Answer.{Answer, accepted, refused}
use Rattle.text_rules.specs.Input.{longest, too_long}
use Rattle.text_rules.specs.Put.{Put}
use Rattle.text_rules.specs.Words.{ascii}
use Rattle.text_rules.proofs.Digits.{decimal_most, labelled_most}
use Rattle.boot_rules.specs.declared.Layout.{Layout}
use Rattle.boot_rules.specs.Tests as boot
use Rattle.boot_launch_rules.specs.Rules.{Pair, plain, generic, with_each, pairs_of, pairs}
use Rattle.boot_launch_rules.specs.Tests.{answer}
use Rattle.boot_launch_rules.specs.Text.{pair_line, line_by, taken_line, taken_lines, refused_line, text_of, text, most, TextMost}

-- the last of four lists
outward : (a b x y : List ℕ) → a ++ (b ++ (x ++ y)) ≡ a ++ (b ++ x) ++ y
outward a b x y = ap (λ (l : List ℕ). a ++ l) (sym (append_assoc b x y)) ∙ sym (append_assoc a (b ++ x) y)

module _ (s : List ℕ) where
  -- an input that is too long
  pub text_long : longest < length s → text s ≡ too_long
  unfolding text
  text_long p = rw (lt-ltb longest (length s) p)

  -- any other by what the boot part answers
  pub text_found : length s ≤ longest → (a : Answer Layout) → a ≡ boot.answer s → text s ≡ text_of s a
  unfolding text
  text_found p a e = rw (le-ltb longest (length s) p) (ap (text_of s) (sym e))

  -- a pair that takes the image, and one that does not
  pub line_there : (release kernel : ℕ) (l : Layout) → accepted l ≡ answer release kernel s → taken_line s (record { release = release; kernel = kernel }) ≡ pair_line (record { release = release; kernel = kernel })
  unfolding taken_line
  line_there release kernel l e = ap (line_by (record { release = release; kernel = kernel })) (sym e)

  pub line_none : (release kernel n place : ℕ) → refused n place ≡ answer release kernel s → taken_line s (record { release = release; kernel = kernel }) ≡ []
  unfolding taken_line
  line_none release kernel n place e = ap (line_by (record { release = release; kernel = kernel })) (sym e)

  -- the lines of the first releases, and then those of the next
  pub lines_next : (rs : List ℕ) (k : ℕ) → k < length rs → taken_lines s (pairs_of (take (suc k) rs)) ≡ taken_lines s (pairs_of (take k rs)) ++ taken_lines s (with_each (get_or rs k 0))
  unfolding flatten
  lines_next [] k h = absurd (not-suc-le-zero h)
  lines_next (r ∷ rs) zero h = refl
  lines_next (r ∷ rs) (suc k) h =
      ap (λ (l : List ℕ). plain_line r ++ (generic_line r ++ l)) (lines_next rs k (le_of_suc-le-suc h))
      ∙ outward (plain_line r) (generic_line r) (taken_lines s (pairs_of (take k rs))) (taken_lines s (with_each (get_or rs k 0)))
    where
      plain_line : ℕ → List ℕ
      plain_line release = taken_line s (record { release = release; kernel = plain })

      generic_line : ℕ → List ℕ
      generic_line release = taken_line s (record { release = release; kernel = generic })

-- a pair's line
line_most : (p : Pair) → length (pair_line p) ≤ 29
unfolding pair_line
line_most p = simp length-append (omega (arith, decimal_most p.release, word (eqb p.kernel 0)))
  where
    word : (b : Bool) → length (cond b (ascii " plain") (ascii " generic")) ≤ 8
    word true = omega arith
    word false = omega arith

taken_most : (p : Pair) (a : Answer Layout) → length (line_by p a) ≤ 29
taken_most p (accepted l) = line_most p
taken_most p (refused n place) = omega arith

-- the lines of some pairs
lines_most : (s : List ℕ) (ps : List Pair) → length (taken_lines s ps) ≤ 29 * length ps
unfolding taken_line flatten
lines_most s [] = omega arith
lines_most s (p ∷ ps) =
    omega (arith, length-append (taken_line s p) (taken_lines s ps), taken_most p (answer p.release p.kernel s), lines_most s ps)

refused_most : (n : ℕ) → length (refused_line n) ≤ 29
unfolding refused_line
refused_most n = simp length-append (omega (arith, labelled_most (ascii "refused ") n))

found_most : (s : List ℕ) (a : Answer Layout) → length (text_of s a) ≤ most
unfolding text_of flatten
found_most s (accepted l) = lines_most s pairs
found_most s (refused n place) = omega (arith, refused_most n)

-- no text is longer
pub text_most : TextMost
unfolding too_long
text_most s = go (leb (length s) longest) refl
  where
    go : (x : Bool) → leb (length s) longest ≡ x → length (text s) ≤ most
    go true e = rw (text_found s (leb-true (length s) longest e) (boot.answer s) refl) (found_most s (boot.answer s))
    go false e = rw (text_long s (leb-false (length s) longest e)) (omega arith)

-- so the place after a text that has been put from the start on lies in such a buffer
pub text_fits : (s : List ℕ) {a b : List ℕ} {n : ℕ} → Put a 0 (text s) b n → n ≤ most
text_fits s p = omega (arith, p.past, text_most s)
