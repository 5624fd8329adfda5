-- `sparse_stream::finish_lent` meets its contract. Assumes nothing.
use mathlib.Core.Path.{◌∙◌}
use Rattle.sparse_stream_rules.specs.Steps.{opened}
use Rattle.sparse_stream_rules.specs.States.{lent_finish_tests}
use Rattle.sparse_stream_rules.proofs.Calls.{called_again, called_refused, lent_end_other, lent_end_same}
use Rattle.sparse_stream.proofs.finish_lent.Goals as goal

pub returns-then-x-gt0 : goal.returns-then-x-gt0
returns-then-x-gt0 c =
    called_again (lent_finish_tests c.args.x c.args.lent) c.args.x _ c.if-x-gt0.true

pub returns-then-lent-x : goal.returns-then-lent-x
returns-then-lent-x c =
    called_refused (lent_finish_tests c.args.x c.args.lent) c.args.x c.if-x-gt0.false _ _ 15
    (lent_end_other c.args.x c.args.lent c.if-lent-x.true) c.refuse.ensures

pub returns : goal.returns
returns c =
    c.finish.ensures ∙ lent_end_same c.args.x c.args.lent c.if-lent-x.false (opened c.args.x)
