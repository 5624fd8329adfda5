-- `sparse_stream_tests::chunk_number` meets its contract. Assumes nothing.
use mathlib.Core.Path.{sym, ◌∙◌}
use Rattle.sparse_stream_rules.proofs.StateLaws.{chunk_past, chunk_short, chunk_last, chunk_wrong}
use Rattle.sparse_stream_tests.proofs.chunk_number.Goals as goal

pub returns-then-x : goal.returns-then-x
returns-then-x c =
    chunk_past c.args.x c.header_of-header.result c.kind_now.result c.blocks_now-blocks.result c.size_now-size.result c.header_of-header.ensures
    c.kind_now.ensures c.blocks_now-blocks.ensures c.size_now-size.ensures c.size_right.result c.size_right.ensures
    c.if-size_right.true c.if-x.true

pub returns-then-x-size : goal.returns-then-x-size
returns-then-x-size c =
    chunk_short c.args.x c.header_of-header.result c.kind_now.result c.blocks_now-blocks.result c.size_now-size.result c.header_of-header.ensures
    c.kind_now.ensures c.blocks_now-blocks.ensures c.size_now-size.ensures c.size_right.result c.size_right.ensures c.if-size_right.true
    c.if-x.false c.if-x-size.true

pub returns-then-size_right : goal.returns-then-size_right
returns-then-size_right c =
    c.number_if.ensures
    ∙ sym
    (chunk_last c.args.x c.header_of-header.result c.kind_now.result c.blocks_now-blocks.result c.size_now-size.result c.header_of-header.ensures
    c.kind_now.ensures c.blocks_now-blocks.ensures c.size_now-size.ensures c.size_right.result c.size_right.ensures c.if-size_right.true
    c.if-x.false c.if-x-size.false)

pub returns : goal.returns
returns c =
    chunk_wrong c.args.x c.header_of-header.result c.kind_now.result c.blocks_now-blocks.result c.size_now-size.result c.header_of-header.ensures
    c.kind_now.ensures c.blocks_now-blocks.ensures c.size_now-size.ensures c.size_right.result c.size_right.ensures c.if-size_right.false
