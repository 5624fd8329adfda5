-- `sparse_diff::list` meets its contract. The loop's invariant: what is put, what is not yet and the blocks that are left come to the whole list.
-- Assumes nothing.
use mathlib.Core.Path.{◌∙◌}
use native.Mathlib.Omega.{arith}
use Rattle.fields_rules.proofs.Laws.{number_bound}
use Rattle.sparse_blocks_rules.specs.Beside.{InFront}
use Rattle.sparse_diff_rules.specs.Diff.{change, kind_number}
use Rattle.sparse_diff_rules.proofs.Lists.{lists_start, lists_few, lists_done, lists_less, lists_fits, lists_on}
use Rattle.sparse_diff.proofs.list.Goals as goal
use Rattle.sparse_diff.proofs.list.Goals.{After-front-f}

-- the blocks in front, of the two images
ahead : (c : After-front-f) → InFront change c.args.first.now c.args.second.now c.loop-pair.pair.a c.loop-pair.pair.b (kind_number c.front-f.result.kind) c.front-f.result.blocks
ahead c =
    let w = c.loop-pair.invariant in
    rw (← w.0, ← w.1) c.front-f.ensures

pub loop-pair-init : goal.loop-pair-init
loop-pair-init c =
    let r = c.open-pair.ensures.readers in
    (c.open-pair.ensures.images.0, c.open-pair.ensures.images.1, rw (r.0, r.1) (lists_start c.args.space.now c.requires))

pub front-f-requires : goal.front-f-requires
front-f-requires c =
    let w = c.loop-pair.invariant in
    (rw (w.0, w.1) w.2.beside, c.loop-pair-test.true)

pub grow-growing-requires : goal.grow-growing-requires
grow-growing-requires c =
    let small = number_bound c.args.first.now (λ i. omega (arith, c.type_inv.first i)) 16 4 in
    (omega (arith, lists_few c.loop-pair.invariant.2), omega (arith, lists_fits c.loop-pair.invariant.2 (ahead (goal.at.grow-growing-requires c).After-front-f)), c.front-f.ensures.some)

pub loop-pair-smaller : goal.loop-pair-smaller
loop-pair-smaller c =
    let w = c.loop-pair.invariant in
    rw (c.pass.ensures.readers.0, w.0) (lists_less w.2 (ahead (goal.at.loop-pair-smaller c).After-front-f))

pub loop-pair-preserved : goal.loop-pair-preserved
loop-pair-preserved c =
    let w = c.loop-pair.invariant in
    let r = c.pass.ensures in
    (r.images.0 ∙ w.0, r.images.1 ∙ w.1, rw (r.readers.0, r.readers.1, w.0, w.1) (lists_on w.2 (ahead (goal.at.loop-pair-preserved c).After-front-f) c.grow-growing.ensures))

pub put_run-requires : goal.put_run-requires
put_run-requires c =
    let small = number_bound c.args.first.now (λ i. omega (arith, c.type_inv.first i)) 16 4 in
    omega (arith, lists_few c.loop-pair.invariant.2)

pub returns : goal.returns
returns c =
    let r = lists_done c.loop-pair.invariant.2 (omega (arith, c.loop-pair-test.false)) c.put_run.ensures.contents c.put_run.ensures.answer in
    record { answer = r.0; contents = r.1 }
