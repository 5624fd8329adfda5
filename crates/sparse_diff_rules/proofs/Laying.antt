-- Runs put into space one after the other.
-- Assumes nothing.
use mathlib.Core.Path.{◌≡◌, refl, sym, ◌∙◌}
use mathlib.Core.Bool.{Bool, true}
use mathlib.Core.List.{List, [], ◌∷◌}
use Prim.Native.Nat.{ℕ, suc, ◌+◌, ◌*◌, ◌≤◌}
use native.Mathlib.Omega.{arith}
use borrow.Author.Tests.{leb-true}
use lib.Dec.{leb}
use lib.ListN.{length, set}
use lib.Seq.{sets, length-sets}
use Rattle.fields_rules.specs.Number.{placed}
use Rattle.fields_rules.proofs.Laws.{placed_whole, length_placed}
use Rattle.fields_rules.proofs.Sets.{sets-append}
use Rattle.sparse_write_rules.specs.Runs.{Run}
use Rattle.sparse_diff_rules.specs.Diff.{run_numbers, numbers}
use Rattle.sparse_diff_rules.specs.Laid.{laid}

-- each run has three numbers
pub length_numbers : (first : ℕ) (rs : List (Run ℕ)) → length (numbers first rs) ≡ 3 * length rs
unfolding numbers
length_numbers first [] = refl
length_numbers first (r ∷ rs) = omega (arith, length_numbers (first + r.many) rs)

-- runs that have room stand one after the other
pub laid_whole : (space : List ℕ) (n first : ℕ) (rs : List (Run ℕ)) → 3 * n + 3 * length rs ≤ length space → laid space n first rs ≡ sets space (3 * n) (numbers first rs)
unfolding laid numbers
laid_whole space n first [] h = refl
laid_whole space n first (r ∷ rs) h =
    let put : placed space (3 * n) (run_numbers first r) ≡ sets space (3 * n) (run_numbers first r) = placed_whole space (3 * n) (run_numbers first r) (omega arith) in
    let long : length (sets space (3 * n) (run_numbers first r)) ≡ length space = length-sets space (3 * n) (run_numbers first r) in
    let z : 3 * suc n ≡ 3 * n + 3 = omega arith in
    rw put
    (laid_whole (sets space (3 * n) (run_numbers first r)) (suc n) (first + r.many) rs (omega arith)
    ∙ rw z (sym (sets-append (run_numbers first r) (numbers (first + r.many) rs) space (3 * n))))

-- three numbers have room where the test says so
pub room_three : (at : ℕ) (space : List ℕ) {x : Bool} → x ≡ leb (at + 3) (length space) → x ≡ true → at + 3 ≤ length space
room_three at space e h = leb-true (at + 3) (length space) (sym e ∙ h)

-- and are put one after the other
pub put_three : (space : List ℕ) (at x y z : ℕ) → at + 3 ≤ length space
    → set (set (set space at x) (at + 1) y) (at + 2) z ≡ placed space at (x ∷ y ∷ z ∷ [])
put_three space at x y z h =
    let p : at + 1 ≡ suc at = omega arith in
    let q : at + 2 ≡ suc (suc at) = omega arith in
    rw (p, q) (sym (placed_whole space at (x ∷ y ∷ z ∷ []) (omega arith)))

-- the space stays as long as it was
pub length_laid : (space : List ℕ) (n first : ℕ) (rs : List (Run ℕ)) → length (laid space n first rs) ≡ length space
unfolding laid
length_laid space n first [] = refl
length_laid space n first (r ∷ rs) =
    length_laid (placed space (3 * n) (run_numbers first r)) (suc n) (first + r.many) rs ∙ length_placed space (3 * n) (run_numbers first r)
