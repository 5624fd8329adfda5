-- `sparse_judge::sum::sum_chunk` meets its contract: each kind's cells are what the checksum goes over.
-- Assumes nothing.
use Prim.Native.Nat.{ℕ, ◌<◌}
use native.Mathlib.Omega.{arith}
use lib.ListN.{get_or}
use Rattle.sparse_rules.proofs.Counting.{skipping}
use Rattle.sparse_rules.proofs.SumLaws.{product, raw_inside}
use Rattle.sparse_judge.proofs.Pending.{summed_raw, summed_fill, summed_kept}
use borrow.Author.Rules.{rules}
use Rattle.sparse_judge.proofs.sum.sum_chunk.Goals as goal

pub overflow_mul-n : goal.overflow_mul-n
overflow_mul-n c =
    let p = product c.args.chunk.blocks c.args.block (search rules) c.requires.0.most in
    omega arith

pub overflow_add-end : goal.overflow_add-end
overflow_add-end c =
    omega (arith, raw_inside 0 c.args.image.now c.args.block c.args.chunk c.requires.0 c.in-Raw.is)

pub slice_bounds-update-end : goal.slice_bounds-update-end
slice_bounds-update-end c =
    raw_inside 0 c.args.image.now c.args.block c.args.chunk c.requires.0 c.in-Raw.is

pub returns-in-Raw : goal.returns-in-Raw
returns-in-Raw c =
    summed_raw c.args.sum c.args.image.now c.args.block c.args.chunk c.requires.0
    c.in-Raw.is c.settled.result c.update-state.result
    c.settled.ensures c.update-state.ensures

pub returns-in-Fill : goal.returns-in-Fill
returns-in-Fill c =
    let bytes : (i : ℕ) → get_or c.args.image.now i 0 < 256 = λ i. omega (arith, c.type_inv.image i) in
    summed_fill c.args.sum c.args.image.now c.args.block c.args.chunk c.requires.0 bytes
    c.in-Fill.is c.read32-word.result c.settled-in-Fill.result
    c.update_word-state.result c.read32-word.ensures c.settled-in-Fill.ensures c.update_word-state.ensures

pub returns-in-DontCare : goal.returns-in-DontCare
returns-in-DontCare c =
    summed_kept c.args.sum c.args.image.now c.args.block c.args.chunk c.requires.0 (skipping c.in-DontCare.is)
