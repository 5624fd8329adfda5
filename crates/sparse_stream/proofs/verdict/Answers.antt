-- `sparse_stream::verdict` meets its contract. Assumes nothing.
use Rattle.sparse_stream_rules.proofs.Calls.{answer_refused, answer_counts}
use Rattle.sparse_stream.proofs.verdict.Goals as goal

pub returns-then-x-gt0 : goal.returns-then-x-gt0
returns-then-x-gt0 c =
    answer_refused c.args.x c.if-x-gt0.true

pub returns : goal.returns
returns c =
    answer_counts c.args.x c.if-x-gt0.false
