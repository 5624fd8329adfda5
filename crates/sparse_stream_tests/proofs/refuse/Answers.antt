-- `sparse_stream_tests::refuse` meets its contract. Assumes nothing.
use mathlib.Core.Path.{sym}
use Rattle.sparse_stream_rules.proofs.StateLaws.{stop_number}
use Rattle.sparse_stream_tests.proofs.refuse.Goals as goal

pub returns : goal.returns
returns c =
    sym (stop_number c.args.number c.args.place c.args.x c.args.x c.if-number-eq0.false)
