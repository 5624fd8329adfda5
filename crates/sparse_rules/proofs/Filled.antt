-- The turns of a loop that fills a list from its front.
-- Assumes nothing.
use mathlib.Core.Path.{◌≡◌, refl, sym, ◌∙◌}
use mathlib.Core.List.{List}
use Prim.Native.Nat.{ℕ, ◌+◌, ◌≤◌, ◌<◌}
use native.Mathlib.Nat.{zero-add}
use native.Mathlib.Omega.{arith}
use borrow.Author.Count.{below_none, below_more}
use lib.ListN.{length, get_or, set, length-set}
use lib.Seq.{ext_get_or, get_or-set_same, get_or-set_other}
use Rattle.sparse_rules.specs.Cells.{tab}
use Rattle.sparse_rules.proofs.Cells.{length-tab, get_or-tab}

-- a list of n numbers holds what f says, up to place i
pub record Filled (f : ℕ → ℕ) (n : ℕ) (part : List ℕ) (i : ℕ) : Type 0 where
  pub size : length part ≡ n
  pub below : (k : ℕ) → k < i → k < n → get_or part k 0 ≡ f k

-- before the first nothing is said
pub filled_none : (f : ℕ → ℕ) (part : List ℕ) → Filled f (length part) part 0
filled_none f part = record { size = refl; below = below_none _ }

module _ (f : ℕ → ℕ) (n : ℕ) (part : List ℕ) (i : ℕ) (filled : Filled f n part i) where
  -- one more
  pub filled_more : (v : ℕ) → i < n → v ≡ f i → Filled f n (set part i v) (i + 1)
  filled_more v h e =
      record {
        size = length-set part i v ∙ filled.size;
        below = below_more (λ (k : ℕ). k < n → get_or (set part i v) k 0 ≡ f k) i
            (λ k l m. get_or-set_other part i k v 0 (λ q. let z : ⊥ = omega arith in z) ∙ filled.below k l m)
            (λ m. get_or-set_same part i v 0 (omega (arith, filled.size)) ∙ e);
      }

  -- after the last, the table
  pub filled_all : n ≤ i → part ≡ tab f 0 n
  filled_all h =
      ext_get_or 0 part (tab f 0 n) (filled.size ∙ sym (length-tab f 0 n))
      (λ k l.
      let l' : k < n = omega (arith, filled.size) in
      filled.below k (omega arith) l' ∙ sym (get_or-tab f 0 n k l' ∙ rw zero-add))
