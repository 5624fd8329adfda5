-- `boot_launch_text::put_input` meets its contract.
-- Assumes nothing.
use mathlib.Core.Path.{sym, ap, ◌∙◌}
use Rattle.text_rules.specs.Input.{too_long}
use Rattle.boot_rules.specs.Tests.{answer_of}
use Rattle.boot_launch_rules.specs.Text.{text_of}
use Rattle.boot_launch_rules.proofs.Texts.{text_long, text_found}
use Rattle.boot_launch_text.proofs.put_input.Goals as goal

pub returns-then-input-gt-LONGEST : goal.returns-then-input-gt-LONGEST
unfolding too_long
returns-then-input-gt-LONGEST c = rw (text_long _ c.if-input-gt-LONGEST.true) c.put.ensures

pub returns-in-Ok : goal.returns-in-Ok
unfolding text_of
returns-in-Ok c =
    rw (text_found _ c.if-input-gt-LONGEST.false _ (sym (ap answer_of c.in-Ok.is) ∙ c.locate.ensures)) c.put_releases.ensures

pub returns-in-Err : goal.returns-in-Err
unfolding text_of
returns-in-Err c =
    rw (text_found _ c.if-input-gt-LONGEST.false _ (sym (ap answer_of c.in-Err.is) ∙ c.locate.ensures)) (rw c.number.ensures at c.put_refused.ensures)
