-- `sparse_stream_bytes::walk_of` meets its contract. Assumes nothing.
use Rattle.sparse_stream_bytes.proofs.walk_of.Goals as goal

pub returns : goal.returns
returns c =
    rw
    (c.read64.ensures, c.read32.ensures, c.read32-left.ensures, c.read32-2.ensures, c.read32-3.ensures, c.read32-4.ensures)
