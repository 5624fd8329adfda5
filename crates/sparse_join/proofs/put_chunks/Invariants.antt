-- `sparse_join::put_chunks` meets its contract. The loop's invariant: what is laid and the blocks that are left make up the image.
-- Assumes nothing.
use mathlib.Core.Path.{◌≡◌}
use lib.ListN.{length}
use Rattle.sparse_blocks_rules.specs.Beside.{remaining}
use Rattle.sparse_join_rules.proofs.Joining.{Lays}
use Rattle.sparse_join.proofs.put_chunks.Given as goal

abbrev pub invariant-loop-pair : goal.invariant-loop-pair
invariant-loop-pair l =
    (l.pair.first.now ≡ l.first) × (l.pair.second.now ≡ l.second) × Lays l.first l.second l.initial.out l.out l.pair.a l.pair.b l.growing l.state

abbrev pub decreases-loop-pair : goal.decreases-loop-pair
decreases-loop-pair l = length (remaining l.first l.pair.a)
