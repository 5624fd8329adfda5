-- `sparse_store_chunk::store_chunk` meets its contract: a raw or fill chunk's stretch comes back with its cells, and the others
-- touch nothing. Assumes nothing.
use Prim.Native.Nat.{◌+◌, ◌-◌}
use native.Mathlib.Omega.{arith}
use Rattle.sparse_rules.proofs.Counting.{skipping}
use Rattle.sparse_store_chunk.proofs.Lending.{stored_raw, stored_fill, stored_past, stored_none}
use Rattle.sparse_store_chunk.proofs.store_chunk.Goals as goal

pub returns-then-size-from : goal.returns-then-size-from
returns-then-size-from c =
    stored_past c.args.image.now c.args.partition.now c.args.chunk.kind c.args.chunk.body c.args.from c.args.bytes c.if-size-from.true

pub returns-in-Raw : goal.returns-in-Raw
returns-in-Raw c =
    stored_raw c.args.image.now c.args.partition.now c.args.chunk.kind c.args.chunk.body c.args.from c.args.bytes _ (c.args.from + c.min.result - c.args.from)
    c.if-size-from.false (omega (arith, c.min.ensures)) c.in-Raw.is c.put_raw.ensures

pub returns-in-Fill : goal.returns-in-Fill
returns-in-Fill c =
    stored_fill c.args.image.now c.args.partition.now c.args.chunk.kind c.args.chunk.body c.args.from c.args.bytes _ (c.args.from + c.min.result - c.args.from)
    c.if-size-from.false (omega (arith, c.min.ensures)) c.in-Fill.is c.put_fill.ensures

pub returns-in-DontCare : goal.returns-in-DontCare
returns-in-DontCare c =
    stored_none c.args.image.now c.args.partition.now c.args.chunk.kind c.args.chunk.body c.args.from c.args.bytes (skipping c.in-DontCare.is)
