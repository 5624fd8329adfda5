-- `sparse_store::store_blocks` meets its contract. The loop's invariant: what is left to store, laid over what the partition
-- holds, gives the whole. The measure is what is left of the image. Assumes nothing.
use Prim.Native.Nat.{◌-◌}
use lib.ListN.{length}
use Rattle.sparse_store.proofs.Turn.{Turn}
use Rattle.sparse_store.proofs.store_blocks.Given as goal

abbrev pub invariant-loop-left : goal.invariant-loop-left
invariant-loop-left l =
    Turn l.image l.header l.initial.partition l.count l.partition l.cursor l.left

abbrev pub decreases-loop-left : goal.decreases-loop-left
decreases-loop-left l = length l.image - l.cursor.at
