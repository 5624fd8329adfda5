-- `sparse_stream_feed::at_once` meets its contract. Assumes nothing.
use Rattle.sparse_stream_feed.proofs.at_once.Goals as goal

pub returns-then-here-n : goal.returns-then-here-n
returns-then-here-n c = rw c.if-here-n.true

pub returns-else-here-n : goal.returns-else-here-n
returns-else-here-n c = rw c.if-here-n.false
