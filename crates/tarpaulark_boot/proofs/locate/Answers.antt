-- `tarpaulark_boot::locate` meets its contract. Assumes nothing.
use mathlib.Core.Path.{sym, ap, ◌∙◌}
use Rattle.rules.specs.Answer.{number_of}
use Rattle.boot_rules.specs.Tests.{answer_of}
use Rattle.tarpaulark_numbers.specs.Numbers.{layout_numbers, offered_numbers}
use Rattle.tarpaulark_boot.proofs.Found.{located}
use Rattle.tarpaulark_boot.proofs.locate.Goals as goal

pub returns-in-Ok : goal.returns-in-Ok
returns-in-Ok c =
    (ap number_of (sym (ap answer_of c.in-Ok.is) ∙ c.locate-found.ensures), c.located_answer.ensures ∙ ap offered_numbers c.ok.ensures.value ∙ located _ ∙ ap layout_numbers c.locate-found.ensures)

pub returns-in-Err : goal.returns-in-Err
returns-in-Err c =
    (c.number.ensures ∙ ap number_of (sym (ap answer_of c.in-Err.is) ∙ c.locate-found.ensures), c.located_answer.ensures ∙ ap offered_numbers c.ok.ensures.value ∙ located _ ∙ ap layout_numbers c.locate-found.ensures)
