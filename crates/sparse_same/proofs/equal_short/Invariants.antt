-- `sparse_same::equal_short` meets its contract. The loop's invariant: what is still to be compared decides.
-- Assumes nothing.
use Prim.Native.Nat.{◌-◌}
use Rattle.sparse_same.proofs.Comparing.{Comparing}
use Rattle.sparse_same.proofs.equal_short.Given as goal

abbrev pub invariant-loop-i : goal.invariant-loop-i
invariant-loop-i l = Comparing l.first l.second l.same l.i

abbrev pub decreases-loop-i : goal.decreases-loop-i
decreases-loop-i l = l.i-end - l.i
