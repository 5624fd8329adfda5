-- `boot_launch_text::put_taken` meets its contract.
-- Assumes nothing.
use mathlib.Core.Path.{sym, ap, ◌∙◌}
use Rattle.text.proofs.Growing.{puts_nothing}
use Rattle.boot_launch_rules.specs.Tests.{answer_of}
use Rattle.boot_launch_rules.proofs.Texts.{line_there, line_none}
use Rattle.boot_launch_text.proofs.put_taken.Goals as goal

pub returns-in-Ok : goal.returns-in-Ok
returns-in-Ok c =
    rw (line_there _ _ _ _ (sym (ap answer_of c.in-Ok.is) ∙ c.locate_for.ensures)) c.put_pair.ensures

pub returns-in-Err : goal.returns-in-Err
returns-in-Err c =
    rw (line_none _ _ _ _ _ (sym (ap answer_of c.in-Err.is) ∙ c.locate_for.ensures)) puts_nothing
