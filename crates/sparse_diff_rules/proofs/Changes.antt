-- The kind of change of the first blocks of two chunks.
-- Assumes nothing.
use mathlib.Core.Path.{◌≡◌, refl, sym, ap, ap₂, ◌∙◌}
use mathlib.Core.Bool.{Bool, true, false, ◌||◌, cond}
use mathlib.Core.List.{List}
use Prim.Native.Nat.{ℕ, ◌+◌, ◌*◌, min, ◌≤◌, ◌<◌}
use native.Mathlib.Nat.{mul-zero}
use native.Mathlib.Omega.{arith}
use Rattle.rules.proofs.Tests.{or_left, or_right}
use Rattle.sparse_rules.specs.declared.Kind.{Kind}
use Rattle.sparse_rules.specs.declared.Kind.TheVariants.{Raw, Fill, DontCare, Unknown}
use Rattle.sparse_rules.specs.Counts.{writes}
use Rattle.sparse_rules.specs.Facts.{Summable}
use Rattle.sparse_blocks_rules.specs.declared.Reader.{Reader}
use Rattle.sparse_blocks_rules.specs.Blocks.{block_from, pace}
use Rattle.sparse_blocks_rules.specs.Beside.{Beside, InFront}
use Rattle.sparse_blocks_rules.specs.Same.{alike, is_raw, same_block}
use Rattle.sparse_blocks_rules.proofs.Comparing.{written, kept, block_alike}
use Rattle.sparse_blocks_rules.proofs.SideBySide.{both_have}
use Rattle.sparse_diff_rules.specs.Diff.{change}

-- only the data of raw blocks stand apart
stays : (b : ℕ) (k : Kind) → is_raw k ≡ false → pace b k ≡ 0
stays b Raw e = cc
stays b Fill e = refl
stays b DontCare e = refl
stays b Unknown e = refl

-- so the data of blocks that are not raw stand in one place
one_place : (b : ℕ) (k : Kind) (body j : ℕ) → is_raw k ≡ false → body + j * pace b k ≡ body
one_place b k body j e = rw (stays b k e, mul-zero) (omega arith)

-- as many blocks as both chunks have
module _ {s t : List ℕ} {a b : Reader} (w : Beside s t a b) (some_left : 0 < a.chunk.blocks) {n : ℕ}
    (least : n ≡ min a.chunk.blocks b.chunk.blocks) where
  lesser : (0 < n) × (n ≤ a.chunk.blocks) × (n ≤ b.chunk.blocks)
  lesser = let h = both_have w some_left in (omega arith, omega arith, omega arith)

  all_front : {kind : ℕ}
      → ((j : ℕ) → change (block_from s a.header.block a.chunk.kind (a.chunk.body + j * pace a.header.block a.chunk.kind))
      (block_from t b.header.block b.chunk.kind (b.chunk.body + j * pace b.header.block b.chunk.kind)) ≡ kind)
      → InFront change s t a b kind n
  all_front alike = record { some = lesser.0; first = lesser.1; second = lesser.2; alike = λ j l. alike j }

  -- neither image writes
  pub front_neither : writes a.chunk.kind ≡ false → writes b.chunk.kind ≡ false → InFront change s t a b 0 n
  front_neither e f = all_front (λ j. ap₂ change (kept s _ a.chunk.kind _ e) (kept t _ b.chunk.kind _ f))

  -- only the first
  pub front_first : writes a.chunk.kind ≡ true → writes b.chunk.kind ≡ false → InFront change s t a b 1 n
  front_first e f = all_front (λ j. ap₂ change (written s _ a.chunk.kind _ e).is (kept t _ b.chunk.kind _ f))

  -- only the second
  pub front_second : writes a.chunk.kind ≡ false → writes b.chunk.kind ≡ true → InFront change s t a b 2 n
  front_second e f = all_front (λ j. ap₂ change (kept s _ a.chunk.kind _ e) (written t _ b.chunk.kind _ f).is)

module _ {s t : List ℕ} {a b : Reader} (w : Beside s t a b) (some_left : 0 < a.chunk.blocks) (e : writes a.chunk.kind ≡ true)
    (f : writes b.chunk.kind ≡ true) {kind : ℕ} (is : kind ≡ cond (same_block s a.chunk t b.chunk a.header.block) 3 4) where
  -- the first blocks of both: their bytes decide
  first_change : change (block_from s a.header.block a.chunk.kind a.chunk.body) (block_from t b.header.block b.chunk.kind b.chunk.body) ≡ kind
  first_change =
      let size = a.header.block in
      let u = written s size a.chunk.kind a.chunk.body e in
      let v = written t size b.chunk.kind b.chunk.body f in
      let other : Summable t size b.chunk = rw w.size w.second.reads.here in
      let same = block_alike w.first.reads.least w.first.reads.here other some_left (both_have w some_left) e f in
      rw (← w.size) (ap₂ change u.is v.is ∙ ap (λ (z : Bool). cond z 3 4) (sym same) ∙ sym is)

  -- one block, where the data of the next may stand elsewhere
  pub front_one : InFront change s t a b kind 1
  front_one =
      record {
        some = omega arith;
        first = some_left;
        second = both_have w some_left;
        alike = λ j l.
            let z : j ≡ 0 = omega arith in
            let p : a.chunk.body + 0 * pace a.header.block a.chunk.kind ≡ a.chunk.body = omega arith in
            let q : b.chunk.body + 0 * pace b.header.block b.chunk.kind ≡ b.chunk.body = omega arith in
            rw z (rw (p, q) first_change);
      }

  -- all blocks that both chunks have, where neither is raw
  pub front_all : {n : ℕ} → n ≡ min a.chunk.blocks b.chunk.blocks → (is_raw a.chunk.kind || is_raw b.chunk.kind) ≡ false
      → InFront change s t a b kind n
  front_all least none-raw =
      all_front w some_left least
      (λ j.
      rw (
        one_place a.header.block a.chunk.kind a.chunk.body j (or_left (is_raw a.chunk.kind) (is_raw b.chunk.kind) none-raw),
        one_place b.header.block b.chunk.kind b.chunk.body j (or_right (is_raw a.chunk.kind) (is_raw b.chunk.kind) none-raw),
      )
      first_change)
