-- `sparse_header::sizes_right` meets its contract.
-- Assumes nothing.
use Rattle.sparse_header.proofs.sizes_right.Goals as goal

pub returns : goal.returns
returns c = rw (c.header_size.ensures, c.header_size-2.ensures)
