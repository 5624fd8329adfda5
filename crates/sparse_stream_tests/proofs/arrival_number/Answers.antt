-- `sparse_stream_tests::arrival_number` meets its contract. Assumes nothing.
use mathlib.Core.Path.{sym, ◌∙◌}
use Rattle.sparse_stream_rules.proofs.StateLaws.{arrival_past, arrival_short, arrival_chunk, arrival_fell, arrival_more, arrival_last}
use Rattle.sparse_stream_tests.proofs.arrival_number.Goals as goal

pub returns-then-x : goal.returns-then-x
returns-then-x c =
    arrival_past c.args.x c.header_of-header.result c.header_of-header.ensures c.if-x-gt0.true c.if-x.true

pub returns-then-x-header : goal.returns-then-x-header
returns-then-x-header c =
    arrival_short c.args.x c.header_of-header.result c.header_of-header.ensures c.if-x-gt0.true c.if-x.false c.if-x-header.true

pub returns-then-x-gt0 : goal.returns-then-x-gt0
returns-then-x-gt0 c =
    arrival_chunk c.args.x c.header_of-header.result c.header_of-header.ensures c.if-x-gt0.true c.if-x.false c.if-x-header.false

pub returns-then-x-header-2 : goal.returns-then-x-header-2
returns-then-x-header-2 c =
    arrival_fell c.args.x c.header_of-header.result c.header_of-header.ensures c.if-x-gt0.false c.if-x-header-2.true

pub returns-then-x-2 : goal.returns-then-x-2
returns-then-x-2 c =
    arrival_more c.args.x c.header_of-header.result c.header_of-header.ensures c.if-x-gt0.false c.if-x-header-2.false c.if-x-2.true

pub returns : goal.returns
returns c =
    c.number_if.ensures
    ∙ sym (arrival_last c.args.x c.header_of-header.result c.header_of-header.ensures c.if-x-gt0.false c.if-x-header-2.false c.if-x-2.false c.finish.result c.finish.ensures)
