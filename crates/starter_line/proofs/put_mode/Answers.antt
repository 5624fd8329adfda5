-- `starter_line::put_mode` meets its contract. Assumes nothing.
use Rattle.text.proofs.Growing.{puts_nothing}
use Rattle.starter_rules.proofs.Lines.{mode_asked, mode_plain}
use Rattle.starter_line.proofs.put_mode.Goals as goal

pub returns-then-asked : goal.returns-then-asked
returns-then-asked c = rw (mode_asked _ c.if-asked.true) puts_nothing

pub returns : goal.returns
returns c = rw (mode_plain _ c.if-asked.false) c.put.ensures
