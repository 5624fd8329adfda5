-- `sparse_store_chunk::taken` meets its contract: the blocks of a raw or fill chunk are written, all other are skipped.
-- Assumes nothing.
use mathlib.Core.Path.{sym}
use native.Mathlib.Nat.{min-zero}
use Rattle.sparse_rules.proofs.Counting.{writing, skipping}
use Rattle.sparse_store_chunk.proofs.taken.Goals as goal

pub returns-in-Raw : goal.returns-in-Raw
returns-in-Raw c = rw (writing c.in-Raw.is) c.min.ensures

pub returns-in-DontCare : goal.returns-in-DontCare
returns-in-DontCare c = rw (skipping c.in-DontCare.is) (sym (min-zero _))
