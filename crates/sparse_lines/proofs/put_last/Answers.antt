-- `sparse_lines::put_last` meets its contract.
-- Assumes nothing.
use Rattle.text.proofs.Growing.{puts_then}
use Rattle.sparse_list_rules.specs.Lines.{last_line}
use Rattle.sparse_lines.proofs.put_last.Goals as goal

pub returns : goal.returns
unfolding last_line
returns c = puts_then c.put_labelled.ensures (puts_then c.put_labelled-2.ensures c.put_line.ensures)
