-- `sparse_diff::list` meets its contract. The loop's invariant: what is put, what is not yet and the blocks that are left come to the whole list.
-- Assumes nothing.
use mathlib.Core.Path.{◌≡◌}
use lib.ListN.{length}
use Rattle.sparse_blocks_rules.specs.Beside.{remaining}
use Rattle.sparse_diff_rules.proofs.Lists.{Lists}
use Rattle.sparse_diff.proofs.list.Given as goal

abbrev pub invariant-loop-pair : goal.invariant-loop-pair
invariant-loop-pair l =
    (l.pair.first.now ≡ l.first) × (l.pair.second.now ≡ l.second) × Lists l.first l.second l.initial.space l.space l.pair.a l.pair.b l.growing

abbrev pub decreases-loop-pair : goal.decreases-loop-pair
decreases-loop-pair l = length (remaining l.first l.pair.a)
