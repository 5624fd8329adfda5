-- `sparse_stream_lay::lay` meets its contract. Assumes nothing.
use mathlib.Core.Path.{◌∙◌}
use Rattle.sparse_stream_lay.proofs.Laying.{word_four, lay_empty, lay_outside, lay_raw, lay_whole, lay_word, lay_early, lay_kept}
use Rattle.sparse_stream_lay.proofs.lay.Goals as goal

pub returns-then-n-eq0 : goal.returns-then-n-eq0
returns-then-n-eq0 c =
    lay_empty c.args.x c.args.bytes.now c.args.partition.now c.if-n-eq0.true

pub returns-then-not-is_in_data : goal.returns-then-not-is_in_data
returns-then-not-is_in_data c =
    lay_outside c.args.x c.args.bytes.now c.args.partition.now c.is_in_data.ensures c.if-not-is_in_data.true

pub returns-in-Raw : goal.returns-in-Raw
returns-in-Raw c =
    c.store_chunk.ensures ∙ lay_raw c.args.x c.args.bytes.now c.args.partition.now c.if-n-eq0.false
    c.is_in_data.ensures c.if-not-is_in_data.false c.kind_now-kind.ensures c.gap_now-gap.ensures c.end_now.result c.saturating_sub-from.result
    c.in-Raw.is
    c.end_now.ensures c.saturating_sub-from.ensures

pub returns-then-n-gap : goal.returns-then-n-gap
returns-then-n-gap c =
    lay_whole c.args.x c.args.bytes.now c.args.partition.now c.if-n-eq0.false c.is_in_data.ensures c.if-not-is_in_data.false
    c.kind_now-kind.ensures
    c.gap_now-gap.ensures c.in-Fill.is _ (word_four c.args.x _ c.well_formed.0) c.if-n-gap.true
    c.lay_fill.ensures

pub returns-then-gap-eq1 : goal.returns-then-gap-eq1
returns-then-gap-eq1 c =
    lay_word c.args.x c.args.bytes.now c.args.partition.now c.if-n-eq0.false c.is_in_data.ensures c.if-not-is_in_data.false c.kind_now-kind.ensures
    c.gap_now-gap.ensures c.in-Fill.is c.if-n-gap.false _ c.if-gap-eq1.true c.lay_last.ensures

pub returns-else-gap-eq1 : goal.returns-else-gap-eq1
returns-else-gap-eq1 c =
    lay_early c.args.x c.args.bytes.now c.args.partition.now c.if-n-eq0.false c.is_in_data.ensures c.if-not-is_in_data.false
    c.kind_now-kind.ensures
    c.gap_now-gap.ensures c.in-Fill.is c.if-n-gap.false c.if-gap-eq1.false

pub returns-in-DontCare : goal.returns-in-DontCare
returns-in-DontCare c =
    lay_kept c.args.x c.args.bytes.now c.args.partition.now c.if-n-eq0.false c.is_in_data.ensures c.if-not-is_in_data.false
    c.kind_now-kind.ensures c.gap_now-gap.ensures c.in-DontCare.is
