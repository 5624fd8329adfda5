-- The turns of a loop over bytes that come again 16 further on.
-- Assumes nothing.
use mathlib.Core.Path.{◌≡◌, refl, sym, ap, ◌∙◌}
use mathlib.Core.List.{List}
use Prim.Native.Nat.{ℕ, ◌+◌, ◌-◌, ◌%◌, ◌≤◌, ◌<◌}
use native.Mathlib.Omega.{arith}
use lib.ListN.{length, get_or, set, length-set}
use Rattle.sparse_rules.specs.Cells.{fill_byte}
use Rattle.sparse_rules.proofs.Filled.{Filled, filled_more}

-- the repeated bytes do
pub fill_again : (s : List ℕ) (at k : ℕ) → fill_byte s at (k + 16) ≡ fill_byte s at k
fill_again s at k = let n : (k + 16) % 4 ≡ k % 4 = omega arith in rw n

-- one byte more, as the one 16 before it
filled_again : (f : ℕ → ℕ) (n : ℕ) (part : List ℕ) (i : ℕ) → Filled f n part i → 16 ≤ i → i < n → ((k : ℕ) → f (k + 16) ≡ f k)
    → Filled f n (set part i (get_or part (i - 16) 0)) (i + 1)
filled_again f n part i filled l h again =
    let back : i - 16 + 16 ≡ i = omega arith in
    filled_more f n part i filled (get_or part (i - 16) 0) h (filled.below (i - 16) (omega arith) (omega arith) ∙ sym (again (i - 16)) ∙ ap f back)

-- a part that began as part₀ holds what every such f says of its first 16 bytes, up to byte i
pub record Spreading (part₀ part : List ℕ) (i : ℕ) : Type 0 where
  pub size : length part ≡ length part₀
  pub past : 16 ≤ i
  pub holds : (f : ℕ → ℕ) → ((k : ℕ) → k < 16 → k < length part₀ → get_or part₀ k 0 ≡ f k) → ((k : ℕ) → f (k + 16) ≡ f k)
      → Filled f (length part₀) part i

pub spreading_none : (part : List ℕ) → Spreading part part 16
spreading_none part = record { size = refl; past = omega arith; holds = λ f b again. record { size = refl; below = b } }

pub spreading_more : (part₀ part : List ℕ) (i : ℕ) → Spreading part₀ part i → i < length part₀
    → Spreading part₀ (set part i (get_or part (i - 16) 0)) (i + 1)
spreading_more part₀ part i s h =
    record {
      size = length-set part i (get_or part (i - 16) 0) ∙ s.size;
      past = omega (arith, s.past);
      holds = λ f b again. filled_again f (length part₀) part i (s.holds f b again) s.past h again;
    }
