-- The blocks of chunks: how many there are, and what is left of them.
-- Assumes nothing.
use mathlib.Core.Path.{◌≡◌, refl, ap, ◌∙◌}
use mathlib.Core.List.{List, [], ◌∷◌, ◌++◌}
use Prim.Native.Nat.{ℕ, zero, suc, ◌+◌, ◌-◌, ◌*◌, ◌≤◌}
use native.Mathlib.Nat.{suc-mul, sub-zero, not-suc-le-zero, le_of_suc-le-suc}
use native.Mathlib.Omega.{arith}
use lib.ListN.{length, take, drop}
use Rattle.rules.specs.Answer.{accepted}
use Rattle.sparse_rules.specs.declared.Kind.{Kind}
use Rattle.sparse_rules.specs.declared.Chunk.{Chunk}
use Rattle.sparse_rules.specs.Walk.{Finding}
use Rattle.sparse_write_rules.specs.Blocks.{Block}
use Rattle.sparse_blocks_rules.specs.Blocks.{block_from, pace, stretch, blocks_of, blocks_found}

-- a stretch has as many blocks as it says
pub length_stretch : (s : List ℕ) (b : ℕ) (k : Kind) (n at : ℕ) → length (stretch s b k n at) ≡ n
unfolding stretch
length_stretch s b k zero at = refl
length_stretch s b k (suc n) at = ap suc (length_stretch s b k n (at + pace b k))

-- what is left of a stretch is the stretch from further on
pub stretch_drop : (s : List ℕ) (b : ℕ) (k : Kind) (n m at : ℕ) → drop n (stretch s b k m at) ≡ stretch s b k (m - n) (at + n * pace b k)
unfolding stretch
stretch_drop s b k zero m at = let z : at + 0 * pace b k ≡ at = omega arith in rw (z, sub-zero)
stretch_drop s b k (suc n) zero at = let z : 0 - suc n ≡ 0 = omega arith in rw z
stretch_drop s b k (suc n) (suc m) at =
    let z : at + pace b k + n * pace b k ≡ at + suc n * pace b k = omega (arith, suc-mul n (pace b k)) in
    let y : suc m - suc n ≡ m - n = omega arith in
    stretch_drop s b k n m (at + pace b k) ∙ rw (z, y)

-- its first blocks are a stretch
pub stretch_take : (s : List ℕ) (b : ℕ) (k : Kind) (n m at : ℕ) → n ≤ m → take n (stretch s b k m at) ≡ stretch s b k n at
unfolding stretch
stretch_take s b k zero m at h = refl
stretch_take s b k (suc n) zero at h = absurd (not-suc-le-zero h)
stretch_take s b k (suc n) (suc m) at h = ap (λ (r : List Block). block_from s b k at ∷ r) (stretch_take s b k n m (at + pace b k) (le_of_suc-le-suc h))

-- no blocks
pub stretch_none : (s : List ℕ) (b : ℕ) (k : Kind) (n at : ℕ) → n ≡ 0 → stretch s b k n at ≡ []
unfolding stretch
stretch_none s b k n at e = rw e

-- the blocks of accepted chunks
pub blocks_accepted : (s : List ℕ) (b : ℕ) {f : Finding} (ks : List Chunk) → f ≡ accepted ks → blocks_found s b f ≡ blocks_of s b ks
unfolding blocks_found
blocks_accepted s b ks e = rw e

-- the first chunk's blocks stand before the others
pub blocks_cons : (s : List ℕ) (b : ℕ) (k : Chunk) (ks : List Chunk)
    → blocks_of s b (k ∷ ks) ≡ stretch s b k.kind k.blocks k.body ++ blocks_of s b ks
unfolding blocks_of
blocks_cons s b k ks = refl

-- no chunks have none
pub blocks_nil : (s : List ℕ) (b : ℕ) → blocks_of s b [] ≡ []
unfolding blocks_of
blocks_nil s b = refl
