-- `sparse_write::measure` meets its contract. The loop's invariant: what is counted and what is left make up the image.
-- Assumes nothing.
use Prim.Native.Nat.{ℕ, ◌-◌, ◌/◌}
use lib.ListN.{length}
use Rattle.sparse_write.proofs.Passes.{Measured}
use Rattle.sparse_write.proofs.measure.Given as goal

abbrev pub invariant-loop-kind : goal.invariant-loop-kind
invariant-loop-kind l = (left : ℕ) × Measured l.flat l.block (length l.flat / l.block) l.bytes l.count l.at left l.kind

abbrev pub decreases-loop-kind : goal.decreases-loop-kind
decreases-loop-kind l = length l.flat - l.at
