-- `sparse_write::write` meets its contract: one law for each of its answers.
-- Assumes nothing.
use mathlib.Core.Path.{◌≡◌, sym, ◌∙◌}
use mathlib.Core.Bool.{true, false}
use Prim.Native.Nat.{◌/◌}
use native.Mathlib.Omega.{arith}
use lib.ListN.{length}
use Rattle.sparse_rules.specs.Header.{block_size_right}
use Rattle.sparse_write_rules.specs.Write.{length_wrong}
use Rattle.sparse_write_rules.proofs.Runs.{blocks_small}
use Rattle.sparse_write_rules.proofs.FlatImage.{block_good, length_good, refuse_5, refuse_13}
use Rattle.sparse_write.proofs.Written.{too_short, image_put}
use Rattle.sparse_write.proofs.write.Goals as goal
use Rattle.sparse_write.proofs.write.Goals.{Else-flat-block, Else-not-block_right}

-- test 5 is passed
right : (c : Else-not-block_right) → block_size_right c.args.block_size ≡ true
right c = sym c.block_right.ensures ∙ c.if-not-block_right.false

-- and test 13
whole : (c : Else-flat-block) → length_wrong (length c.args.flat.now) c.args.block_size ≡ false
whole c = c.if-flat-block.false

pub returns-then-not-block_right : goal.returns-then-not-block_right
returns-then-not-block_right c =
    rw c.refusal.ensures
    (refuse_5 c.args.flat.now c.args.block_size c.args.out.now
    (sym c.block_right.ensures ∙ c.if-not-block_right.true))

pub nonzero_rem-flat : goal.nonzero_rem-flat
nonzero_rem-flat c = omega (arith, (block_good c.args.block_size (right (goal.at.nonzero_rem-flat c).Else-not-block_right)).0)

pub returns-then-flat-block : goal.returns-then-flat-block
returns-then-flat-block c =
    rw c.refusal-then-flat-block.ensures (refuse_13 c.args.flat.now c.args.block_size c.args.out.now (right (goal.at.returns-then-flat-block c).Else-not-block_right) c.if-flat-block.true)

pub nonzero_div-n : goal.nonzero_div-n
nonzero_div-n c = omega (arith, (block_good c.args.block_size (right (goal.at.nonzero_div-n c).Else-not-block_right)).0)

pub measure-m-requires : goal.measure-m-requires
measure-m-requires c =
    let l = length_good (length c.args.flat.now) c.args.block_size (whole (goal.at.measure-m-requires c).Else-flat-block) in
    record { whole = l.1; right = right (goal.at.measure-m-requires c).Else-not-block_right; small = l.0 }

pub returns-then-out-m : goal.returns-then-out-m
returns-then-out-m c =
    rw c.refusal-then-out-m.ensures
    (too_short c.args.flat.now c.args.block_size c.args.out.now (right (goal.at.returns-then-out-m c).Else-not-block_right) (whole (goal.at.returns-then-out-m c).Else-flat-block)
    c.measure-m.result.bytes c.measure-m.ensures.0 (omega (arith, c.if-out-m.true)))

pub put_chunks-state-requires : goal.put_chunks-state-requires
put_chunks-state-requires c =
    let l = length_good (length c.args.flat.now) c.args.block_size (whole (goal.at.put_chunks-state-requires c).Else-flat-block) in
    (omega (arith, c.measure-m.ensures.0, c.if-out-m.false), record { whole = l.1; right = right (goal.at.put_chunks-state-requires c).Else-not-block_right; small = l.0 })

pub overflow_cast-n : goal.overflow_cast-n
overflow_cast-n c =
    let b = block_good c.args.block_size (right (goal.at.overflow_cast-n c).Else-not-block_right) in
    let l = length_good (length c.args.flat.now) c.args.block_size (whole (goal.at.overflow_cast-n c).Else-flat-block) in
    omega (arith, blocks_small (length c.args.flat.now / c.args.block_size) c.args.block_size b.0)

pub returns : goal.returns
returns c =
    image_put c.args.flat.now c.args.block_size c.args.out.now (right (goal.at.returns c).Else-not-block_right) (whole (goal.at.returns c).Else-flat-block)
    c.measure-m.result.bytes c.measure-m.result.chunks c.put_chunks-state.result c.finish.result
    c.measure-m.ensures.0 c.measure-m.ensures.1 c.put_chunks-state.ensures.0 c.finish.ensures
    (omega (arith, c.if-out-m.false)) c.put_chunks-state.ensures.1 c.put_header.ensures
