-- `sparse_judge::checked::checked` meets its contract. The loop's invariant: the state, with the cells of the chunks left, gives the whole checksum.
-- Assumes nothing.
use mathlib.Core.Path.{◌≡◌, sym}
use Prim.Native.Nat.{◌-◌}
use native.Mathlib.Nat.{le_trans}
use native.Mathlib.Omega.{arith}
use lib.ListN.{length}
use borrow.Author.Rules.{rules}
use Rattle.sparse_rules.specs.Chunks.{chunk, reading}
use Rattle.sparse_rules.proofs.Facts.{chunk_facts}
use Rattle.sparse_judge.specs.Pending.{state_of}
use Rattle.sparse_judge.proofs.Sums.{turn_start, turn_step, fits, summing_refused, none_is_stated, summing_differs, summing_agrees}
use Rattle.sparse_judge.proofs.checked.checked.Goals as goal
use Rattle.sparse_judge.proofs.checked.checked.Goals.{In_ok-chunk}

-- the chunk of this turn is the one that is read at the cursor
read : (c : In_ok-chunk) → reading c.args.image.now (length c.args.image.now) c.args.header c.loop-turn.cursor
    ≡ chunk c.in_ok-chunk.chunk c.in_ok-chunk.next
read c = sym c.in_ok-chunk.ensures

-- no checksum is stated
pub returns-then-header-eq0 : goal.returns-then-header-eq0
returns-then-header-eq0 c = λ ks e.
    none_is_stated c.args.image.now c.args.header ks c.requires.0 c.args.counts c.if-header-eq0.true

pub loop-turn-init : goal.loop-turn-init
loop-turn-init c =
    turn_start c.args.image.now c.args.header c.start.result c.requires.0 c.start.ensures (omega arith)

pub returns-in_err-chunk : goal.returns-in_err-chunk
returns-in_err-chunk c = λ ks e.
    absurd
    (summing_refused c.args.image.now c.args.header (c.args.header.chunks - c.loop-turn._turn) c.loop-turn.cursor (state_of c.loop-turn.sum) c.loop-turn.invariant.goes _ _ (omega arith) (sym c.in_err-chunk.ensures) ks e)

pub sum_chunk-sum-requires : goal.sum_chunk-sum-requires
sum_chunk-sum-requires c =
    let f = chunk_facts _ _ _ _ _ _ (read (goal.at.sum_chunk-sum-requires c).In_ok-chunk) in (
      record { most = c.requires.1; fours = c.requires.2; inside = le_trans f.data_inside f.inside },
      fits c.args.image.now c.args.header (c.args.header.chunks - c.loop-turn._turn) c.loop-turn.cursor c.loop-turn.sum c.loop-turn.invariant c.in_ok-chunk.chunk c.in_ok-chunk.next (read (goal.at.sum_chunk-sum-requires c).In_ok-chunk) (search rules) c.requires.1,
    )

pub loop-turn-preserved : goal.loop-turn-preserved
loop-turn-preserved c =
    turn_step c.args.image.now c.args.header (c.args.header.chunks - c.loop-turn._turn) c.loop-turn.cursor c.loop-turn.sum c.loop-turn.invariant c.in_ok-chunk.chunk
    c.in_ok-chunk.next (read (goal.at.loop-turn-preserved c).In_ok-chunk) (omega arith) c.sum_chunk-sum.result
    c.sum_chunk-sum.ensures

pub returns-then-finish-header : goal.returns-then-finish-header
returns-then-finish-header c = λ ks e.
    rw c.refusal.ensures
    (summing_differs c.args.image.now c.args.header (c.args.header.chunks - c.loop-turn._turn) c.loop-turn.cursor (state_of c.loop-turn.sum) c.loop-turn.invariant.goes (omega arith) c.finish.result (rw c.settled.ensures at c.finish.ensures) ks e c.requires.0 c.args.counts c.if-header-eq0.false c.if-finish-header.true)

pub returns : goal.returns
returns c = λ ks e.
    summing_agrees c.args.image.now c.args.header (c.args.header.chunks - c.loop-turn._turn) c.loop-turn.cursor (state_of c.loop-turn.sum) c.loop-turn.invariant.goes
    (omega arith) c.finish.result
    (rw c.settled.ensures at c.finish.ensures) ks e c.requires.0
    c.args.counts c.if-finish-header.false
