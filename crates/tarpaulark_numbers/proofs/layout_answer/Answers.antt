-- `tarpaulark_numbers::layout_answer` meets its contract. Assumes nothing.
use Rattle.tarpaulark_numbers.proofs.Layouts.{five}
use Rattle.tarpaulark_numbers.proofs.layout_answer.Goals as goal

pub returns : goal.returns
returns c =
    five c.args.l _ _ _ _ _ _ c.section_answer-a.ensures c.section_answer-b.ensures c.section_answer-c.ensures c.section_answer-d.ensures c.section_answer-e.ensures c.flag_byte-retired.ensures
