-- How many whole blocks stand from a place on.
-- Assumes nothing.
use mathlib.Core.Path.{◌≡◌, refl, ap, ◌∙◌}
use mathlib.Core.Bool.{Bool, true, false, cond}
use Prim.Native.Nat.{ℕ, ◌+◌, ◌-◌, ◌*◌, ◌/◌, ◌%◌, ◌≤◌, ◌<◌}
use native.Mathlib.Nat.{zero-div, div-mul-le_self, div-eq_of_eq-mul_left}
use native.Mathlib.Omega.{arith}
use Rattle.sparse_rules.specs.Header.{block_size_right}
use Rattle.sparse_write_rules.proofs.Runs.{at_least}
use Rattle.sparse_write_rules.proofs.FlatImage.{block_good}
use Rattle.sparse_scan.specs.Scan.{whole_blocks}

module _ (len b at : ℕ) where
  -- past the end there is none
  pub whole_past : len < at → whole_blocks len b at ≡ 0
  whole_past h = let z : len - at ≡ 0 = omega arith in go (block_size_right b) (ap (λ (x : ℕ). x / b) z ∙ zero-div b)
    where
      go : (x : Bool) → (len - at) / b ≡ 0 → cond x ((len - at) / b) 0 ≡ 0
      go true e = e
      go false e = refl

  -- where there is one, the size is right, and they lie within
  pub whole_some : (n : ℕ) → n ≡ whole_blocks len b at → 0 < n → (at + n * b ≤ len) × (4 ≤ b) × (b ≤ 65536) × (b % 4 ≡ 0)
  whole_some n e h = go (block_size_right b) refl e
    where
      go : (x : Bool) → block_size_right b ≡ x → n ≡ cond x ((len - at) / b) 0 → (at + n * b ≤ len) × (4 ≤ b) × (b ≤ 65536) × (b % 4 ≡ 0)
      go true r q =
          let good = block_good b r in
          let l : n * b ≤ len - at = rw (← q) at (div-mul-le_self (len - at) b) in
          (omega (arith, at_least n b h), good.0, good.1, good.2)
      go false r q = absurd (omega arith)

  -- blocks up to the end are all that stand there
  pub whole_all : (n : ℕ) → block_size_right b ≡ true → at + n * b ≡ len → whole_blocks len b at ≡ n
  whole_all n r e =
      let q : len - at ≡ n * b = omega arith in
      rw r (div-eq_of_eq-mul_left (omega (arith, (block_good b r).0)) q)
