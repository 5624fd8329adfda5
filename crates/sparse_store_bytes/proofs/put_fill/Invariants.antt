-- `sparse_store_bytes::put_fill` meets its contract: the first 16 bytes one by one, then the others as those before them. The
-- loop's invariant: the part holds the repeated bytes up to byte i. Assumes nothing.
use lib.ListN.{length}
use Rattle.sparse_rules.specs.Cells.{fill_byte}
use Rattle.sparse_rules.proofs.Filled.{Filled}
use Rattle.sparse_store_bytes.proofs.put_fill.Given as goal

abbrev pub invariant-loop-i : goal.invariant-loop-i
invariant-loop-i l = Filled (fill_byte l.image l.at) (length l.initial.part) l.part l.i
