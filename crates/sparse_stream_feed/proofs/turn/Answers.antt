-- `sparse_stream_feed::turn` meets its contract. Assumes nothing.
use mathlib.Core.Path.{◌∙◌}
use native.Mathlib.Omega.{arith}
use Rattle.sparse_stream_rules.proofs.Stretches.{free_near}
use Rattle.sparse_stream_feed.proofs.Turns.{turn_head, turn_gather, turn_whole, turn_pass, turn_raw, turn_fill, turn_word, turn_kept, word_near}
use Rattle.sparse_stream_feed.proofs.turn.Goals as goal

pub returns-then-x-lt28 : goal.returns-then-x-lt28
returns-then-x-lt28 c =
    c.take_header.ensures ∙ turn_head c.args.x c.args.bytes.now c.requires.0 c.if-x-lt28.true

pub returns-then-data_bytes-x : goal.returns-then-data_bytes-x
returns-then-data_bytes-x c =
    c.settle.ensures ∙ rw c.advance.ensures
    (turn_pass c.args.x c.args.bytes.now c.requires.0 c.if-x-lt28.false c.if-x.true c.kind_now-kind.result
    c.kind_now-kind.ensures c.data_bytes.result c.data_bytes.ensures c.if-data_bytes-x.true)

pub returns-in-Raw : goal.returns-in-Raw
returns-in-Raw c =
    c.settle-in-Raw.ensures ∙ rw c.take_raw.ensures
    (turn_raw c.args.x c.args.bytes.now c.requires.0 c.if-x-lt28.false c.if-x.true c.kind_now-kind.result
    c.kind_now-kind.ensures c.data_bytes.result c.data_bytes.ensures c.if-data_bytes-x.false c.in-Raw.is)

pub returns-then-n-eq4 : goal.returns-then-n-eq4
returns-then-n-eq4 c =
    c.settle-then-n-eq4.ensures ∙ rw c.take_fill.ensures
    (turn_fill c.args.x c.args.bytes.now c.requires.0 c.if-x-lt28.false c.if-x.true c.kind_now-kind.result
    c.kind_now-kind.ensures c.data_bytes.result c.data_bytes.ensures c.if-data_bytes-x.false c.in-Fill.is
    c.if-n-eq4.true)

pub take_word-requires : goal.take_word-requires
take_word-requires c = (
  c.if-x.true,
  word_near c.args.x c.args.bytes.now c.requires.0 c.if-x-lt28.false c.if-x.true c.kind_now-kind.result
      c.kind_now-kind.ensures c.data_bytes.result c.data_bytes.ensures c.if-data_bytes-x.false c.in-Fill.is,
  omega (arith, c.requires.1, c.requires.0.some),
)

pub returns-in-Fill : goal.returns-in-Fill
returns-in-Fill c =
    c.settle-in-Fill.ensures ∙ rw c.take_word.ensures
    (turn_word c.args.x c.args.bytes.now c.requires.0 c.if-x-lt28.false c.if-x.true c.kind_now-kind.result
    c.kind_now-kind.ensures c.data_bytes.result c.data_bytes.ensures c.if-data_bytes-x.false c.in-Fill.is
    c.if-n-eq4.false)

pub returns-in-DontCare : goal.returns-in-DontCare
returns-in-DontCare c =
    turn_kept c.args.x c.args.bytes.now c.requires.0 c.if-x-lt28.false c.if-x.true c.kind_now-kind.result
    c.kind_now-kind.ensures c.data_bytes.result c.data_bytes.ensures c.if-data_bytes-x.false c.in-DontCare.is

pub returns-then-n-eq12 : goal.returns-then-n-eq12
returns-then-n-eq12 c =
    c.take_head.ensures ∙ turn_whole c.args.x c.args.bytes.now c.requires.0 c.if-x-lt28.false
    c.if-x.false c.if-n-eq12.true

pub gather-requires : goal.gather-requires
gather-requires c = (
  c.if-x.false,
  free_near c.args.x c.requires.0.free c.if-x-lt28.false,
  omega (arith, c.requires.1, c.requires.0.some),
)

pub returns : goal.returns
returns c =
    c.gather.ensures ∙ turn_gather c.args.x c.args.bytes.now c.requires.0 c.if-x-lt28.false
    c.if-x.false c.if-n-eq12.false
