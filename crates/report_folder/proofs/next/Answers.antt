-- `report_folder::next` meets its contract: a law for a file that is too long, and one for any other.
-- Assumes nothing.
use mathlib.Core.Path.{sym, ap, ◌∙◌}
use Rattle.report_rules.specs.Folder.{turn_by}
use Rattle.report_rules.proofs.Folders.{turn_long, turn_counted}
use Rattle.report_folder.proofs.next.Goals as goal

pub returns-then-file-gt-LONGEST : goal.returns-then-file-gt-LONGEST
returns-then-file-gt-LONGEST c = sym (turn_long _ _ c.if-file-gt-LONGEST.true)

pub returns-in-Ok : goal.returns-in-Ok
returns-in-Ok c = ap turn_by c.in-Ok.ensures ∙ sym (turn_counted _ _ c.if-file-gt-LONGEST.false)

pub returns-in-Err : goal.returns-in-Err
returns-in-Err c = ap turn_by c.in-Err.ensures ∙ sym (turn_counted _ _ c.if-file-gt-LONGEST.false)
