-- `sparse_write::measure` meets its contract. The loop's invariant: what is counted and what is left make up the image.
-- Assumes nothing.
use mathlib.Core.Path.{subst}
use Prim.Native.Nat.{◌+◌, ◌/◌, ◌≤◌}
use native.Mathlib.Omega.{arith}
use lib.ListN.{length}
use Rattle.std.specs.Prelude.{Some}
use Rattle.sparse_write_rules.specs.Kinds.{stored_kind}
use Rattle.sparse_write_rules.specs.KindOf.{kind_of}
use Rattle.sparse_write_rules.proofs.Chunks.{size_most}
use Rattle.sparse_write_rules.proofs.FlatImage.{block_good}
use Rattle.sparse_scan.proofs.Scanning.{FirstRun}
use Rattle.sparse_write.proofs.Passes.{Ahead, ahead_start, ahead_none, ahead_some, ahead_run, ahead_inside, ahead_least, Measured, measure_start, measure_step, measure_done}
use Rattle.sparse_write.proofs.measure.Goals as goal
use Rattle.sparse_write.proofs.measure.Goals.{After-first_run-run}

-- so far, where something is stored of the next block
far : (c : After-first_run-run) → Measured c.args.flat.now c.args.block (length c.args.flat.now / c.args.block) c.loop-kind.bytes c.loop-kind.count c.loop-kind.at c.loop-kind.invariant.0 (Some c.in-Some.stored)
far c =
    subst (Measured c.args.flat.now c.args.block (length c.args.flat.now / c.args.block) c.loop-kind.bytes c.loop-kind.count c.loop-kind.at c.loop-kind.invariant.0)
    c.in-Some.is c.loop-kind.invariant.1

-- what is found is the first run of the blocks left
run : (c : After-first_run-run) → FirstRun (stored_kind c.args.flat.now c.args.block) c.args.block c.loop-kind.invariant.0 c.loop-kind.at (Some c.in-Some.stored) c.first_run-run.result.blocks c.first_run-run.result.len c.first_run-run.result.next
run c =
    let a = (far c).ahead in
    ahead_run a c.requires.right (ahead_some a) c.first_run-run.ensures.0 c.first_run-run.ensures.1 c.first_run-run.ensures.2

-- it lies within the flat data
inside : (c : After-first_run-run) → c.loop-kind.at + c.first_run-run.result.len ≤ length c.args.flat.now
inside c = ahead_inside (far c).ahead (run c)

pub loop-kind-init : goal.loop-kind-init
loop-kind-init c =
    (_, measure_start _ _ _ _ (ahead_start c.args.flat.now c.args.block (length c.args.flat.now / c.args.block) c.first_kind-kind.result c.requires.right c.requires.whole c.first_kind-kind.ensures))

pub overflow_cast-run : goal.overflow_cast-run
overflow_cast-run c = omega (arith, inside (goal.at.overflow_cast-run c).After-first_run-run, c.requires.small)

pub overflow_add-bytes : goal.overflow_add-bytes
overflow_add-bytes c = omega (arith, inside (goal.at.overflow_add-bytes c).After-first_run-run, c.requires.small, c.loop-kind.invariant.1.small, c.chunk_size.ensures, size_most (kind_of (Some c.in-Some.stored)) c.first_run-run.result.len)

pub overflow_add-count : goal.overflow_add-count
overflow_add-count c = omega (arith, inside (goal.at.overflow_add-count c).After-first_run-run, c.requires.small, c.loop-kind.invariant.1.few)

pub overflow_add-at : goal.overflow_add-at
overflow_add-at c = omega (arith, inside (goal.at.overflow_add-at c).After-first_run-run, c.requires.small)

pub loop-kind-smaller : goal.loop-kind-smaller
loop-kind-smaller c =
    let n = (goal.at.loop-kind-smaller c).After-first_run-run in
    omega (arith, inside n, ahead_least (far n).ahead (run n), (block_good c.args.block c.requires.right).0)

pub loop-kind-preserved : goal.loop-kind-preserved
loop-kind-preserved c =
    let n = (goal.at.loop-kind-preserved c).After-first_run-run in
    (_, measure_step c.chunk_size.result c.requires.right (far n) (run n) c.chunk_size.ensures)

pub returns : goal.returns
returns c =
    measure_done (ahead_none (subst (Ahead c.args.flat.now c.args.block c.loop-kind.at c.loop-kind.invariant.0) c.in_default.is c.loop-kind.invariant.1.ahead)) c.loop-kind.invariant.1
