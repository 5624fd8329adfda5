-- Laws of the counts of blocks.
-- Assumes nothing.
use mathlib.Core.Path.{◌≡◌, refl, sym, ap, ◌∙◌}
use mathlib.Core.Logic.{◌⊎◌, inl, inr}
use mathlib.Core.Bool.{Bool, true, false, cond}
use mathlib.Core.List.{List, [], ◌∷◌, ◌++◌}
use Prim.Native.Nat.{ℕ, ◌+◌, ◌^◌, ◌<◌}
use native.Mathlib.Nat.{zero-add, add_assoc}
use native.Mathlib.Omega.{arith}
use Rattle.sparse_rules.specs.declared.Kind.{Kind}
use Rattle.sparse_rules.specs.declared.Kind.TheVariants.{Raw, Fill, DontCare, Unknown}
use Rattle.sparse_rules.specs.declared.Chunk.{Chunk}
use Rattle.sparse_rules.specs.declared.Counts.{Counts}
use Rattle.sparse_rules.specs.Counts.{writes, is_dont_care, is_unknown, blocks_where, written, dont_care_of, unknown, counts_of, no_counts, counted_on}

-- ---- the kinds that write, and those that do not

pub writing : {k : Kind} → (k ≡ Raw) ⊎ (k ≡ Fill) → writes k ≡ true
writing (inl e) = ap writes e
writing (inr e) = ap writes e

pub skipping : {k : Kind} → (k ≡ DontCare) ⊎ (k ≡ Unknown) → writes k ≡ false
skipping (inl e) = ap writes e
skipping (inr e) = ap writes e

-- ---- the chunks of some kinds

-- no chunks hold no blocks
pub where_nil : (f : Kind → Bool) → blocks_where f [] ≡ 0
unfolding blocks_where
where_nil f = refl

-- one chunk more
pub where_cons : (f : Kind → Bool) (k : Chunk) (ks : List Chunk) → blocks_where f (k ∷ ks) ≡ cond (f k.kind) k.blocks 0 + blocks_where f ks
unfolding blocks_where
where_cons f k ks = refl

-- blocks of chunks that are joined
where_append : (f : Kind → Bool) (ks ls : List Chunk) → blocks_where f (ks ++ ls) ≡ blocks_where f ks + blocks_where f ls
unfolding blocks_where
where_append f [] ls = sym (zero-add _)
where_append f (k ∷ ks) ls = rw (where_append f ks ls) (sym (add_assoc (cond (f k.kind) k.blocks 0) (blocks_where f ks) (blocks_where f ls)))

-- and one chunk after others
where_one : (f : Kind → Bool) (ks : List Chunk) (k : Chunk) → blocks_where f (ks ++ (k ∷ [])) ≡ blocks_where f ks + cond (f k.kind) k.blocks 0
where_one f ks k = omega (arith, where_append f ks (k ∷ []), where_cons f k [], where_nil f)

-- ---- all chunks

-- the blocks of chunks
abbrev pub blocks_in : List Chunk → ℕ
blocks_in [] = 0
blocks_in (k ∷ ks) = k.blocks + blocks_in ks

-- one chunk after others
pub blocks_one : (ks : List Chunk) (k : Chunk) → blocks_in (ks ++ (k ∷ [])) ≡ blocks_in ks + k.blocks
blocks_one [] k = omega arith
blocks_one (j ∷ ks) k = omega (arith, blocks_one ks k)

-- every block is counted, and by one count only
pub three_parts : (ks : List Chunk) → written ks + dont_care_of ks + unknown ks ≡ blocks_in ks
unfolding blocks_where
three_parts [] = refl
three_parts (k ∷ ks) = go k.kind (three_parts ks)
  where
    go : (x : Kind) → written ks + dont_care_of ks + unknown ks ≡ blocks_in ks
        → (cond (writes x) k.blocks 0 + written ks) + (cond (is_dont_care x) k.blocks 0 + dont_care_of ks) + (cond (is_unknown x) k.blocks 0 + unknown ks)
        ≡ k.blocks + blocks_in ks
    go Raw e = omega arith
    go Fill e = omega arith
    go DontCare e = omega arith
    go Unknown e = omega arith

-- ---- the three counts

-- counts that agree one by one are the same
pub counts_same : {w d u w₁ d₁ u₁ : ℕ} → w ≡ w₁ → d ≡ d₁ → u ≡ u₁
    → ◌≡◌ {A = Counts} (record { written = w; dont_care = d; unknown = u }) (record { written = w₁; dont_care = d₁; unknown = u₁ })
counts_same p q r = rw (p, q, r)

-- no chunks count nothing
pub counts_none : counts_of [] ≡ no_counts
counts_none = counts_same (where_nil writes) (where_nil is_dont_care) (where_nil is_unknown)

-- one chunk more is counted on, where all blocks fit in 32 bits
pub counted-on : (ks : List Chunk) (k : Chunk) → blocks_in ks + k.blocks < 2 ^ 32 → counts_of (ks ++ (k ∷ [])) ≡ counted_on (counts_of ks) k.kind k.blocks
unfolding counted_on
counted-on ks k h =
    counts_same (where_one writes ks k) (where_one is_dont_care ks k) (where_one is_unknown ks k)
    ∙ go k.kind
  where
    all : written ks + dont_care_of ks + unknown ks ≡ blocks_in ks
    all = three_parts ks

    go : (x : Kind)
        → ◌≡◌ {A = Counts}
        (record {
          written = written ks + cond (writes x) k.blocks 0;
          dont_care = dont_care_of ks + cond (is_dont_care x) k.blocks 0;
          unknown = unknown ks + cond (is_unknown x) k.blocks 0;
        })
        (counted_on (counts_of ks) x k.blocks)
    go Raw = counts_same (omega (arith, all)) (omega arith) (omega arith)
    go Fill = counts_same (omega (arith, all)) (omega arith) (omega arith)
    go DontCare = counts_same (omega arith) (omega (arith, all)) (omega arith)
    go Unknown = counts_same (omega arith) (omega arith) (omega (arith, all))
