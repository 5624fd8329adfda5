-- `sparse_write::put_chunks` meets its contract. The loop's invariant: what is put and what is left make up the image, and its checksum.
-- Assumes nothing.
use mathlib.Core.Path.{subst}
use Prim.Native.Nat.{◌+◌, ◌/◌, ◌≤◌}
use native.Mathlib.Omega.{arith}
use lib.ListN.{length}
use Rattle.std.specs.Prelude.{Some}
use Rattle.fields_rules.specs.Number.{Bytes}
use Rattle.sparse_write_rules.specs.Kinds.{stored_kind}
use Rattle.sparse_write_rules.proofs.FlatImage.{block_good}
use Rattle.sparse_scan.proofs.Scanning.{FirstRun}
use Rattle.sparse_write.proofs.Passes.{Ahead, ahead_start, ahead_none, ahead_some, ahead_run, ahead_inside, ahead_least, ahead_few, Put, put_start, put_long, put_fits, put_holds, put_step, put_done}
use Rattle.sparse_write.proofs.put_chunks.Goals as goal
use Rattle.sparse_write.proofs.put_chunks.Goals.{After-first_run-run}

-- so far, where something is stored of the next block
far : (c : After-first_run-run) → Put c.args.flat.now c.args.block (length c.args.flat.now / c.args.block) c.args.out.now c.loop-kind.out c.loop-kind.state c.loop-kind.pos c.loop-kind.at c.loop-kind.invariant.0 (Some c.in-Some.stored)
far c =
    subst (Put c.args.flat.now c.args.block (length c.args.flat.now / c.args.block) c.args.out.now c.loop-kind.out c.loop-kind.state c.loop-kind.pos c.loop-kind.at c.loop-kind.invariant.0)
    c.in-Some.is c.loop-kind.invariant.1

-- what is found is the first run of the blocks left
run : (c : After-first_run-run) → FirstRun (stored_kind c.args.flat.now c.args.block) c.args.block c.loop-kind.invariant.0 c.loop-kind.at (Some c.in-Some.stored) c.first_run-run.result.blocks c.first_run-run.result.len c.first_run-run.result.next
run c =
    let a = (far c).ahead in
    ahead_run a c.requires.1.right (ahead_some a) c.first_run-run.ensures.0 c.first_run-run.ensures.1 c.first_run-run.ensures.2

-- it lies within the flat data
inside : (c : After-first_run-run) → c.loop-kind.at + c.first_run-run.result.len ≤ length c.args.flat.now
inside c = ahead_inside (far c).ahead (run c)

pub loop-kind-init : goal.loop-kind-init
loop-kind-init c = (
  _,
  put_start _ _ _ c.args.out.now c.start-state.result _
      (ahead_start c.args.flat.now c.args.block (length c.args.flat.now / c.args.block) c.first_kind-kind.result c.requires.1.right c.requires.1.whole c.first_kind-kind.ensures)
      c.requires.0 c.start-state.ensures,
)

pub overflow_add-end : goal.overflow_add-end
overflow_add-end c = omega (arith, inside (goal.at.overflow_add-end c).After-first_run-run, c.requires.1.small)

pub slice_bounds-put_chunk-count : goal.slice_bounds-put_chunk-count
slice_bounds-put_chunk-count c = omega (arith, inside (goal.at.slice_bounds-put_chunk-count c).After-first_run-run)

pub slice_bounds-put_chunk-start : goal.slice_bounds-put_chunk-start
slice_bounds-put_chunk-start c = omega (arith, inside (goal.at.slice_bounds-put_chunk-start c).After-first_run-run)

pub slice_bounds-put_chunk-end : goal.slice_bounds-put_chunk-end
slice_bounds-put_chunk-end c = omega (arith, inside (goal.at.slice_bounds-put_chunk-end c).After-first_run-run)

pub overflow_cast-run : goal.overflow_cast-run
overflow_cast-run c =
    let n = (goal.at.overflow_cast-run c).After-first_run-run in
    omega (arith, inside n, c.requires.1.small, ahead_few (far n).ahead (run n) c.requires.1.right)

pub put_chunk-state-requires : goal.put_chunk-state-requires
put_chunk-state-requires c =
    let n = (goal.at.put_chunk-state-requires c).After-first_run-run in
    let small : Bytes c.args.flat.now = λ i. omega (arith, c.type_inv.flat i) in
    let long = put_long (far n) (run n) in (
      rw long (put_fits (far n) (run n)),
      omega (arith, inside n, c.requires.1.small, long),
      put_holds (far n) (run n) small c.requires.1.right (ahead_some (far n).ahead),
    )

pub overflow_cast-run-in-Some : goal.overflow_cast-run-in-Some
overflow_cast-run-in-Some c = omega (arith, inside (goal.at.overflow_cast-run-in-Some c).After-first_run-run, c.requires.1.small)

pub overflow_add-pos : goal.overflow_add-pos
overflow_add-pos c =
    let n = (goal.at.overflow_add-pos c).After-first_run-run in
    omega (arith, c.chunk_size.ensures, put_fits (far n) (run n))

pub loop-kind-smaller : goal.loop-kind-smaller
loop-kind-smaller c =
    let n = (goal.at.loop-kind-smaller c).After-first_run-run in
    omega (arith, inside n, ahead_least (far n).ahead (run n), (block_good c.args.block c.requires.1.right).0)

pub loop-kind-preserved : goal.loop-kind-preserved
loop-kind-preserved c =
    let n = (goal.at.loop-kind-preserved c).After-first_run-run in
    (_, put_step (far n) (run n) c.chunk_size.result _ _ c.chunk_size.ensures c.put_chunk-state.ensures.0 c.put_chunk-state.ensures.1)

pub shape_of-out : goal.shape_of-out
shape_of-out c = c.loop-kind.invariant.1.long

pub returns : goal.returns
returns c =
    put_done (ahead_none (subst (Ahead c.args.flat.now c.args.block c.loop-kind.at c.loop-kind.invariant.0) c.in_default.is c.loop-kind.invariant.1.ahead)) c.loop-kind.invariant.1
