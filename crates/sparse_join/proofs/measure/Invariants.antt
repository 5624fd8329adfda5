-- `sparse_join::measure` meets its contract. The loop's invariant: what is measured and the blocks that are left make up the image.
-- Assumes nothing.
use mathlib.Core.Path.{◌≡◌}
use lib.ListN.{length}
use Rattle.sparse_blocks_rules.specs.Beside.{remaining}
use Rattle.sparse_join_rules.proofs.Joining.{Measures}
use Rattle.sparse_join.proofs.measure.Given as goal

abbrev pub invariant-loop-pair : goal.invariant-loop-pair
invariant-loop-pair l =
    (l.pair.first.now ≡ l.first) × (l.pair.second.now ≡ l.second) × Measures l.first l.second l.pair.a l.pair.b l.growing

abbrev pub decreases-loop-pair : goal.decreases-loop-pair
decreases-loop-pair l = length (remaining l.first l.pair.a)
