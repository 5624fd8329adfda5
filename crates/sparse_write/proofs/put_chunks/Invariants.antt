-- `sparse_write::put_chunks` meets its contract. The loop's invariant: what is put and what is left make up the image, and its checksum.
-- Assumes nothing.
use Prim.Native.Nat.{ℕ, ◌-◌, ◌/◌}
use lib.ListN.{length}
use Rattle.sparse_write.proofs.Passes.{Put}
use Rattle.sparse_write.proofs.put_chunks.Given as goal

abbrev pub invariant-loop-kind : goal.invariant-loop-kind
invariant-loop-kind l = (left : ℕ) × Put l.flat l.block (length l.flat / l.block) l.initial.out l.out l.state l.pos l.at left l.kind

abbrev pub decreases-loop-kind : goal.decreases-loop-kind
decreases-loop-kind l = length l.flat - l.at
