-- `sparse_stream::is_over` meets its contract. Assumes nothing.
use Rattle.sparse_stream_rules.proofs.Calls.{over_past, over_more}
use Rattle.sparse_stream.proofs.is_over.Goals as goal

pub returns-then-x : goal.returns-then-x
returns-then-x c =
    over_past c.args.x.told.length c.args.x.come.bytes c.args.n c.if-x.true

pub returns : goal.returns
returns c =
    over_more c.args.x.told.length c.args.x.come.bytes c.args.n c.if-x.false
