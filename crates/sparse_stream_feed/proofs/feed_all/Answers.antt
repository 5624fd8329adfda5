-- `sparse_stream_feed::feed_all` meets its contract. Assumes nothing.
use native.Mathlib.Omega.{arith}
use Rattle.sparse_stream_feed.proofs.Loop.{going_some, going_turn, going_fits, going_less, going_on, going_stuck, going_done}
use Rattle.sparse_stream_feed.proofs.feed_all.Goals as goal

pub returns-then-is_stuck-clause-answer : goal.returns-then-is_stuck-clause-answer
returns-then-is_stuck-clause-answer c =
    (going_stuck c.args.x c.args.piece.now c.args.partition.now c.loop-left.partition c.loop-left.y c.loop-left.left.now c.loop-left.invariant c.is_stuck.result c.is_stuck.ensures c.if-is_stuck.true).0

pub returns-then-is_stuck-clause-contents : goal.returns-then-is_stuck-clause-contents
returns-then-is_stuck-clause-contents c =
    (going_stuck c.args.x c.args.piece.now c.args.partition.now c.loop-left.partition c.loop-left.y c.loop-left.left.now c.loop-left.invariant c.is_stuck.result c.is_stuck.ensures c.if-is_stuck.true).1

pub split_at-requires : goal.split_at-requires
split_at-requires c =
    (going_less c.args.x c.args.piece.now c.args.partition.now c.loop-left.partition c.loop-left.y c.loop-left.left.now c.loop-left.invariant c.next_stretch.result c.next_stretch.ensures (going_some c.args.x c.args.piece.now c.args.partition.now c.loop-left.partition c.loop-left.y c.loop-left.left.now c.loop-left.invariant c.is_empty.result c.is_empty.ensures c.loop-left-test.true)).1

pub turn-y-requires : goal.turn-y-requires
turn-y-requires c =
    let some = going_some c.args.x c.args.piece.now c.args.partition.now c.loop-left.partition c.loop-left.y c.loop-left.left.now c.loop-left.invariant c.is_empty.result c.is_empty.ensures c.loop-left-test.true in
    rw c.split_at.ensures.front
    (going_turn c.args.x c.args.piece.now c.args.partition.now c.loop-left.partition c.loop-left.y c.loop-left.left.now c.loop-left.invariant c.next_stretch.result c.next_stretch.ensures some c.is_stuck.result c.is_stuck.ensures c.if-is_stuck.false, going_fits c.args.x c.args.piece.now c.args.partition.now c.loop-left.partition c.loop-left.y c.loop-left.left.now c.loop-left.invariant c.next_stretch.result c.next_stretch.ensures some)

pub loop-left-smaller : goal.loop-left-smaller
loop-left-smaller c =
    let l = going_less c.args.x c.args.piece.now c.args.partition.now c.loop-left.partition c.loop-left.y c.loop-left.left.now c.loop-left.invariant c.next_stretch.result c.next_stretch.ensures (going_some c.args.x c.args.piece.now c.args.partition.now c.loop-left.partition c.loop-left.y c.loop-left.left.now c.loop-left.invariant c.is_empty.result c.is_empty.ensures c.loop-left-test.true) in
    omega (arith, l.0, l.1, c.split_at.ensures.back_len)

pub loop-left-preserved : goal.loop-left-preserved
loop-left-preserved c =
    let some = going_some c.args.x c.args.piece.now c.args.partition.now c.loop-left.partition c.loop-left.y c.loop-left.left.now c.loop-left.invariant c.is_empty.result c.is_empty.ensures c.loop-left-test.true in
    let t = going_turn c.args.x c.args.piece.now c.args.partition.now c.loop-left.partition c.loop-left.y c.loop-left.left.now c.loop-left.invariant c.next_stretch.result c.next_stretch.ensures some c.is_stuck.result c.is_stuck.ensures c.if-is_stuck.false in
    rw c.split_at.ensures.back
    (going_on c.args.x c.args.piece.now c.args.partition.now c.loop-left.partition c.loop-left.y c.loop-left.left.now c.loop-left.invariant c.next_stretch.result c.next_stretch.ensures some _ _ t (rw (← c.split_at.ensures.front) c.turn-y.ensures) (rw (← c.split_at.ensures.front) c.lay.ensures))

pub returns-clause-answer : goal.returns-clause-answer
returns-clause-answer c =
    (going_done c.args.x c.args.piece.now c.args.partition.now c.loop-left.partition c.loop-left.y c.loop-left.left.now c.loop-left.invariant c.is_empty.result c.is_empty.ensures c.loop-left-test.false).0

pub returns-clause-contents : goal.returns-clause-contents
returns-clause-contents c =
    (going_done c.args.x c.args.piece.now c.args.partition.now c.loop-left.partition c.loop-left.y c.loop-left.left.now c.loop-left.invariant c.is_empty.result c.is_empty.ensures c.loop-left-test.false).1
