-- `sparse_stream_feed::heads::await_chunks` meets its contract. Assumes nothing.
use Rattle.sparse_stream_feed.proofs.heads.await_chunks.Goals as goal

pub returns : goal.returns
returns c = rw c.header_of-header.ensures
