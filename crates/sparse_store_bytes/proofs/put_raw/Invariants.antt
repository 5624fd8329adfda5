-- `sparse_store_bytes::put_raw` meets its contract: data that the image holds whole are copied, others byte by byte. The
-- loop's invariant: the part holds the data up to byte i. Assumes nothing.
use lib.ListN.{length}
use Rattle.sparse_rules.specs.Cells.{raw_byte}
use Rattle.sparse_rules.proofs.Filled.{Filled}
use Rattle.sparse_store_bytes.proofs.put_raw.Given as goal

abbrev pub invariant-loop-i : goal.invariant-loop-i
invariant-loop-i l = Filled (raw_byte l.image l.at) (length l.initial.part) l.part l.i
