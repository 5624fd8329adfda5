-- `sparse_store_bytes::copy` meets its contract. The loop's invariant: the part holds the data up to byte i. Assumes nothing.
use lib.ListN.{length}
use Rattle.sparse_rules.specs.Cells.{raw_byte}
use Rattle.sparse_rules.proofs.Filled.{Filled}
use Rattle.sparse_store_bytes.proofs.copy.Given as goal

abbrev pub invariant-loop-i : goal.invariant-loop-i
invariant-loop-i l = Filled (raw_byte l.image l.at) (length l.initial.part) l.part l.i
