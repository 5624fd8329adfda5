-- `sparse_stream_feed::next_stretch` meets its contract. Assumes nothing.
use Rattle.sparse_rules.specs.declared.Kind.TheVariants.{Raw, Fill}
use Rattle.sparse_stream_feed.proofs.Turns.{stretch_is_head, stretch_is_chunk, stretch_is_pass, stretch_is_data, stretch_is_kept}
use Rattle.sparse_stream_feed.proofs.next_stretch.Goals as goal

pub returns-then-x-lt28 : goal.returns-then-x-lt28
returns-then-x-lt28 c =
    stretch_is_head c.args.x c.args.rest c.if-x-lt28.true

pub returns-then-data-gap : goal.returns-then-data-gap
returns-then-data-gap c =
    stretch_is_pass c.args.x c.args.rest c.kind_now-kind.result c.data_bytes-data.result c.kind_now-kind.ensures c.data_bytes-data.ensures
    c.if-x-lt28.false c.if-x.true c.min.result c.if-data-gap.true c.min.ensures

pub returns-in-Raw : goal.returns-in-Raw
returns-in-Raw c =
    stretch_is_data c.args.x c.args.rest c.kind_now-kind.result c.data_bytes-data.result c.kind_now-kind.ensures c.data_bytes-data.ensures
    c.if-x-lt28.false c.if-x.true c.min-in-Raw.result Raw c.if-data-gap.false c.in-Raw.is c.min-in-Raw.ensures

pub returns-in-Fill : goal.returns-in-Fill
returns-in-Fill c =
    stretch_is_data c.args.x c.args.rest c.kind_now-kind.result c.data_bytes-data.result c.kind_now-kind.ensures c.data_bytes-data.ensures
    c.if-x-lt28.false c.if-x.true c.at_once.result Fill c.if-data-gap.false c.in-Fill.is c.at_once.ensures

pub returns-in-DontCare : goal.returns-in-DontCare
returns-in-DontCare c =
    stretch_is_kept c.args.x c.args.rest c.kind_now-kind.result c.data_bytes-data.result c.kind_now-kind.ensures c.data_bytes-data.ensures
    c.if-x-lt28.false c.if-x.true c.if-data-gap.false c.in-DontCare.is

pub returns : goal.returns
returns c =
    stretch_is_chunk c.args.x c.args.rest c.at_once-2.result c.if-x-lt28.false c.if-x.false c.at_once-2.ensures
