-- `tarpaulark_starter::start` meets its contract. Assumes nothing.
use mathlib.Core.Path.{sym, ◌∙◌}
use Rattle.tarpaulark_starter.proofs.OnBytes.{on_record, on_none}
use Rattle.tarpaulark_starter.proofs.start.Goals as goal

pub returns-then-is_record : goal.returns-then-is_record
returns-then-is_record c =
    on_record c.args.bytes.now _ c.args.misc.now c.args.loader.now c.args.space.now (sym c.is_record.ensures ∙ c.if-is_record.true) c.record_of.result c.record_of.ensures c.start-answer.result.answer c.start-answer.result.after c.start-answer.ensures
    c.start_number.ensures c.start_answer.ensures c.record_bytes.ensures

pub returns : goal.returns
returns c =
    on_none c.args.bytes.now _ c.args.misc.now c.args.loader.now c.args.space.now (sym c.is_record.ensures ∙ c.if-is_record.false) c.start_number-2.ensures c.start_answer-2.ensures
