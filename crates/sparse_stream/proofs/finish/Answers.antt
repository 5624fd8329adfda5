-- `sparse_stream::finish` meets its contract. Assumes nothing.
use Rattle.sparse_stream_rules.specs.States.{finish_tests}
use Rattle.sparse_stream_rules.proofs.Calls.{called_again, called_refused, called_on, end_short, end_fits}
use Rattle.sparse_stream.proofs.finish.Goals as goal

pub returns-then-x-gt0 : goal.returns-then-x-gt0
returns-then-x-gt0 c =
    called_again (finish_tests c.args.x) c.args.x _ c.if-x-gt0.true

pub returns-then-x : goal.returns-then-x
returns-then-x c =
    called_refused (finish_tests c.args.x) c.args.x c.if-x-gt0.false _ _ 14 (end_short c.args.x c.if-x.true)
    c.refuse.ensures

pub returns : goal.returns
returns c =
    called_on (finish_tests c.args.x) c.args.x c.if-x-gt0.false _ _ (end_fits c.args.x c.if-x.false) c.opening.ensures
