-- `sparse_stream_lay::lay_fill` meets its contract. Assumes nothing.
use mathlib.Core.Path.{◌∙◌}
use Rattle.sparse_stream_lay.proofs.Laying.{fill-laid}
use Rattle.sparse_stream_lay.proofs.lay_fill.Goals as goal

pub returns : goal.returns
returns c =
    c.store_chunk.ensures ∙ fill-laid c.args.x c.args.word.now c.args.partition.now c.span_now-span.result
    c.end_now.result c.saturating_sub-from.result c.span_now-span.ensures c.end_now.ensures c.saturating_sub-from.ensures
