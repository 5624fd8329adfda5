-- `sparse_stream_tests::settle` meets its contract. Assumes nothing.
use mathlib.Core.Path.{◌∙◌, sym}
use Rattle.sparse_stream_rules.proofs.StateLaws.{settled_there, settled_before}
use Rattle.sparse_stream_tests.proofs.settle.Goals as goal

pub returns-then-x : goal.returns-then-x
returns-then-x c =
    c.arrive.ensures ∙ sym (settled_there c.args.x c.if-x.true)

pub returns : goal.returns
returns c =
    sym (settled_before c.args.x c.if-x.false)
