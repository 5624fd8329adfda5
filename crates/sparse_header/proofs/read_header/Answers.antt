-- `sparse_header::read_header` meets its contract.
-- Assumes nothing.
use Rattle.sparse_rules.proofs.Refusals.{six}
use Rattle.sparse_header.proofs.read_header.Goals as goal

pub returns : goal.returns
returns c = six _ _ _ _ _ _ _ c.read32.ensures c.read32-2.ensures c.read32-3.ensures c.read32-4.ensures c.read16.ensures c.read16-2.ensures
