-- `sparse_blocks::pass` meets its contract. The loop's invariant: what is still to be passed gives the same reader.
-- Assumes nothing.
use mathlib.Core.Path.{sym, ap, ◌∙◌}
use native.Mathlib.Omega.{arith}
use Rattle.sparse_blocks_rules.specs.Reading.{standing}
use Rattle.sparse_blocks_rules.proofs.Turns.{more_on, passed_on, passed_end, passed_here}
use Rattle.sparse_blocks.proofs.pass.Goals as goal

pub returns-in_default : goal.returns-in_default
returns-in_default c =
    sym
    (c.loop-chunk.invariant
    ∙ passed_end c.args.image.now c.args.reader.header c.loop-chunk.left c.loop-chunk.cursor c.loop-chunk.chunk c.loop-chunk.over _ _
    c.loop-chunk-test.true (sym c.in_default.ensures)
    ∙ ap (standing c.args.reader.header c.loop-chunk.cursor 0) (sym c.nothing.ensures))

pub overflow_sub-over : goal.overflow_sub-over
overflow_sub-over c = (more_on c.loop-chunk.chunk.blocks c.loop-chunk.over c.loop-chunk.left c.loop-chunk-test.true).0

pub overflow_sub-left : goal.overflow_sub-left
overflow_sub-left c = (more_on c.loop-chunk.chunk.blocks c.loop-chunk.over c.loop-chunk.left c.loop-chunk-test.true).1

pub loop-chunk-smaller : goal.loop-chunk-smaller
loop-chunk-smaller c = let some = (more_on c.loop-chunk.chunk.blocks c.loop-chunk.over c.loop-chunk.left c.loop-chunk-test.true).1 in omega arith

pub loop-chunk-preserved : goal.loop-chunk-preserved
loop-chunk-preserved c =
    c.loop-chunk.invariant
    ∙ passed_on c.args.image.now c.args.reader.header c.loop-chunk.left c.loop-chunk.cursor c.loop-chunk.chunk c.loop-chunk.over c.in-Ok.k c.in-Ok.next
    c.loop-chunk-test.true (sym c.in-Ok.ensures)

pub returns : goal.returns
returns c =
    sym
    (c.loop-chunk.invariant ∙ passed_here c.args.image.now c.args.reader.header c.loop-chunk.left c.loop-chunk.cursor c.loop-chunk.chunk c.loop-chunk.over c.loop-chunk-test.false
    ∙ ap (standing c.args.reader.header c.loop-chunk.cursor c.loop-chunk.left) (sym c.less.ensures))
