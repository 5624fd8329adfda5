-- Laws of the text: the lines of refusals one after the other, and how long it can be.
-- Assumes nothing.
use mathlib.Core.Path.{◌≡◌, refl, sym, ap, ◌∙◌}
use mathlib.Core.Bool.{Bool, true, false, cond}
use mathlib.Core.List.{List, [], ◌∷◌, ◌++◌, append_assoc, append-nil}
use Prim.Native.Nat.{ℕ, zero, suc, ◌+◌, ◌-◌, ◌≤◌}
use native.Mathlib.Nat.{add-zero, suc-add, add-suc}
use native.Mathlib.Omega.{arith}
use lib.Dec.{eqb}
use lib.ListN.{length, get_or, length-append}
use borrow.Author.Tests.{ne_eqb}
use Rattle.text_rules.specs.Put.{Put}
use Rattle.text_rules.specs.Words.{ascii, digits_up_to, decimal, labelled, line}
use Rattle.text_rules.proofs.Digits.{decimal_most, labelled_most}
use Rattle.report_rules.specs.declared.Report.{Report}
use Rattle.report_rules.specs.Text.{total_lines, refused_line, refused_lines, text, most, TextMost}

-- no line for a count of 0
pub line_none : (n c : ℕ) → c ≡ 0 → refused_line n c ≡ []
unfolding refused_line
line_none n c e = rw e

-- and one for any other
pub line_there : (n c : ℕ) → (c ≡ 0 → ⊥) → refused_line n c ≡ line (labelled (ascii "refused ") n ∷ labelled (ascii " ") c ∷ [])
unfolding refused_line
line_there n c h = rw (ne_eqb c 0 h)

-- the lines of one number more
pub lines_next : (cs : List ℕ) (n k : ℕ) → refused_lines cs n (suc k) ≡ refused_lines cs n k ++ refused_line (n + k) (get_or cs (n + k - 1) 0)
unfolding refused_lines
lines_next cs n zero = rw (add-zero n) (append-nil _)
lines_next cs n (suc k) =
    ap (λ (l : List ℕ). refused_line n (get_or cs (n - 1) 0) ++ l) (lines_next cs (suc n) k ∙ rw (suc-add n k, ← add-suc n k))
    ∙ sym (append_assoc (refused_line n (get_or cs (n - 1) 0)) (refused_lines cs (suc n) k) _)

-- of none there is no line
pub lines_none : (cs : List ℕ) (n : ℕ) → refused_lines cs n 0 ≡ []
unfolding refused_lines
lines_none cs n = refl

-- ---- lengths

-- the line of a number of so many digits
refused_most : (k n c : ℕ) → length (decimal n) ≤ k → length (refused_line n c) ≤ 30 + k
unfolding refused_line labelled
refused_most k n c h = go (eqb c 0)
  where
    go : (b : Bool) → length (cond b [] (line (labelled (ascii "refused ") n ∷ labelled (ascii " ") c ∷ []))) ≤ 30 + k
    go true = omega arith
    go false = simp length-append (omega (arith, h, decimal_most c))

-- all lines of refusals: nine numbers have a digit, and two have two
lines_most : (cs : List ℕ) → length (refused_lines cs 1 11) ≤ 343
unfolding refused_lines decimal digits_up_to
lines_most cs =
    simp length-append
    (omega (
      arith,
      refused_most 1 1 (get_or cs 0 0) (omega arith),
      refused_most 1 2 (get_or cs 1 0) (omega arith),
      refused_most 1 3 (get_or cs 2 0) (omega arith),
      refused_most 1 4 (get_or cs 3 0) (omega arith),
      refused_most 1 5 (get_or cs 4 0) (omega arith),
      refused_most 1 6 (get_or cs 5 0) (omega arith),
      refused_most 1 7 (get_or cs 6 0) (omega arith),
      refused_most 1 8 (get_or cs 7 0) (omega arith),
      refused_most 1 9 (get_or cs 8 0) (omega arith),
      refused_most 2 10 (get_or cs 9 0) (omega arith),
      refused_most 2 11 (get_or cs 10 0) (omega arith),
    ))

totals_most : (r : Report) → length (total_lines r) ≤ 143
unfolding total_lines
totals_most r =
    simp length-append
    (omega (
      arith,
      labelled_most (ascii "accepted ") r.accepted,
      labelled_most (ascii "blocks ") r.blocks,
      labelled_most (ascii "bytes ") r.bytes,
      labelled_most (ascii "skipped ") r.skipped,
      labelled_most (ascii "largest ") r.largest,
    ))

-- no text is longer
pub text_most : TextMost
unfolding text
text_most r = omega (arith, length-append (total_lines r) (refused_lines r.refused 1 11), totals_most r, lines_most r.refused)

-- so the place after a text that has been put from the start on lies in such a buffer
pub text_fits : (r : Report) {a b : List ℕ} {n : ℕ} → Put a 0 (text r) b n → n ≤ most
text_fits r p = omega (arith, p.past, text_most r)
