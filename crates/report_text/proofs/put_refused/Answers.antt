-- `report_text::put_refused` meets its contract: the line of a count that is not 0. Assumes nothing.
use native.Mathlib.Omega.{arith}
use Rattle.text.proofs.Growing.{puts_then}
use Rattle.report_rules.proofs.Texts.{line_there}
use Rattle.report_text.proofs.put_refused.Goals as goal

pub returns : goal.returns
returns c = rw (line_there c.args.number c.args.count (omega arith)) (puts_then c.put_labelled.ensures c.put_line.ensures)
