-- `sparse_structure::structure` meets its contract. The loop's invariant: the chunks that were passed are counted, and the rest of the walk follows them.
-- Assumes nothing.
use mathlib.Core.Path.{sym}
use Prim.Native.Nat.{◌-◌}
use native.Mathlib.Omega.{arith}
use borrow.Author.Rules.{rules}
use Rattle.std.proofs.lemmas.Result.{err_from_is_err_and}
use Rattle.sparse_structure.proofs.Tally.{tally_start, tally_step, tally_refused, tally_short, tally_more_bytes, tally_done}
use Rattle.sparse_structure.proofs.structure.Goals as goal

pub loop-turn-init : goal.loop-turn-init
loop-turn-init c = tally_start c.args.image.now c.args.header (omega arith)

pub returns-in_err-chunk : goal.returns-in_err-chunk
returns-in_err-chunk c =
    let p = err_from_is_err_and c.from_residual.result c.from_residual.ensures.1 in
    rw (p.1, p.2)
    (tally_refused c.args.image.now c.args.header (c.args.header.chunks - c.loop-turn._turn) c.loop-turn.cursor c.loop-turn.counts c.loop-turn.invariant _ _ (omega arith) (sym c.in_err-chunk.ensures))

pub loop-turn-preserved : goal.loop-turn-preserved
loop-turn-preserved c =
    rw c.count_on-counts.ensures
    (tally_step c.args.image.now c.args.header (c.args.header.chunks - c.loop-turn._turn) c.loop-turn.cursor c.loop-turn.counts c.loop-turn.invariant c.in_ok-chunk.chunk c.in_ok-chunk.next (omega arith) (search rules) (sym c.in_ok-chunk.ensures))

pub returns-then-cursor-header : goal.returns-then-cursor-header
returns-then-cursor-header c =
    rw c.refusal.ensures
    (tally_short c.args.image.now c.args.header (c.args.header.chunks - c.loop-turn._turn) c.loop-turn.cursor c.loop-turn.counts c.loop-turn.invariant (omega arith) c.if-cursor-header.true)

pub returns-then-cursor-image : goal.returns-then-cursor-image
returns-then-cursor-image c =
    rw c.refusal-then-cursor-image.ensures
    (tally_more_bytes c.args.image.now c.args.header (c.args.header.chunks - c.loop-turn._turn) c.loop-turn.cursor c.loop-turn.counts c.loop-turn.invariant (omega arith) c.if-cursor-header.false c.if-cursor-image.true)

pub returns : goal.returns
returns c =
    tally_done c.args.image.now c.args.header (c.args.header.chunks - c.loop-turn._turn) c.loop-turn.cursor c.loop-turn.counts c.loop-turn.invariant (omega arith)
    c.if-cursor-header.false c.if-cursor-image.false
