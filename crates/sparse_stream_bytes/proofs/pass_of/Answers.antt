-- `sparse_stream_bytes::pass_of` meets its contract. Assumes nothing.
use Rattle.sparse_stream_bytes.specs.Layout.{pass_of}
use Rattle.sparse_stream_bytes.proofs.pass_of.Goals as goal

pub returns : goal.returns
unfolding pass_of
returns c =
    rw
    (c.read64.ensures, c.read64-2.ensures, c.read32.ensures, c.read64-3.ensures, c.read64-4.ensures, c.read32-2.ensures, c.walk_of-walk.ensures, c.kept_of-kept.ensures)
