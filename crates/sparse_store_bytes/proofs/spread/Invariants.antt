-- `sparse_store_bytes::spread` meets its contract. The loop's invariant: the part holds, up to byte i, what its first 16 bytes
-- say. Assumes nothing.
use Rattle.sparse_store_bytes.proofs.Spreading.{Spreading}
use Rattle.sparse_store_bytes.proofs.spread.Given as goal

abbrev pub invariant-loop-i : goal.invariant-loop-i
invariant-loop-i l = Spreading l.initial.part l.part l.i
