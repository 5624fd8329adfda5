-- Bytes compared one after the other. Assumes nothing.
use mathlib.Core.Path.{◌≡◌, sym, ap₂, ◌∙◌}
use mathlib.Core.Bool.{Bool, ◌&&◌, and_assoc, and-true}
use mathlib.Core.List.{List, [], ◌∷◌}
use Prim.Native.Nat.{ℕ, suc, ◌+◌, ◌≤◌, ◌<◌}
use native.Mathlib.Numerals.{add-one}
use native.Mathlib.Omega.{arith}
use lib.Dec.{eqb}
use lib.ListN.{length, get_or, drop, drop_of_length-le}
use lib.Seq.{drop-cons}
use Rattle.sparse_blocks_rules.specs.Same.{alike}

-- what is still to be compared decides, where all before it are the same
pub record Comparing (xs ys : List ℕ) (same : Bool) (i : ℕ) : Type 0 where
  pub inside : i ≤ length xs
  pub goes : (same && alike (drop i xs) (drop i ys)) ≡ alike xs ys

module _ {xs ys : List ℕ} where
  -- one more
  pub compare_on : {same : Bool} {i : ℕ} → length ys ≡ length xs → i < length xs → Comparing xs ys same i
      → Comparing xs ys (same && eqb (get_or xs i 0) (get_or ys i 0)) (i + 1)
  unfolding alike
  compare_on {same} {i} l h w =
      let p : drop i xs ≡ get_or xs i 0 ∷ drop (suc i) xs = drop-cons xs i 0 h in
      let q : drop i ys ≡ get_or ys i 0 ∷ drop (suc i) ys = drop-cons ys i 0 (omega arith) in
      record {
        inside = omega arith;
        goes =
            rw add-one
            (and_assoc same (eqb (get_or xs i 0) (get_or ys i 0)) (alike (drop (suc i) xs) (drop (suc i) ys))
            ∙ sym (ap₂ (λ (u v : List ℕ). same && alike u v) p q) ∙ w.goes);
      }

  -- all are compared
  pub compare_done : {same : Bool} {i : ℕ} → length ys ≡ length xs → length xs ≤ i → Comparing xs ys same i → same ≡ alike xs ys
  unfolding alike
  compare_done {same} {i} l h w =
      let p : drop i xs ≡ [] = drop_of_length-le xs h in
      let q : drop i ys ≡ [] = drop_of_length-le ys {i = i} (omega arith) in
      sym (and-true same) ∙ sym (ap₂ (λ (u v : List ℕ). same && alike u v) p q) ∙ w.goes
