-- `sparse_blocks::pass` meets its contract. The loop's invariant: what is still to be passed gives the same reader.
-- Assumes nothing.
use mathlib.Core.Path.{◌≡◌}
use Rattle.sparse_blocks_rules.specs.Reading.{passed}
use Rattle.sparse_blocks.proofs.pass.Given as goal

abbrev pub invariant-loop-chunk : goal.invariant-loop-chunk
invariant-loop-chunk l =
    passed l.image l.header l.initial.left l.initial.cursor l.initial.chunk l.initial.over ≡ passed l.image l.header l.left l.cursor l.chunk l.over

abbrev pub decreases-loop-chunk : goal.decreases-loop-chunk
decreases-loop-chunk l = l.left
