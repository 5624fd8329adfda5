-- `tarpaulark_numbers::located_answer` meets its contract. Assumes nothing.
use Rattle.tarpaulark_numbers.proofs.located_answer.Goals as goal

pub returns-in-Some : goal.returns-in-Some
returns-in-Some c = rw c.in-Some.is c.layout_answer.ensures
