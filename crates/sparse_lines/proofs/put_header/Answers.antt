-- `sparse_lines::put_header` meets its contract.
-- Assumes nothing.
use Rattle.text.proofs.Growing.{puts_then}
use Rattle.sparse_list_rules.specs.Lines.{header_line}
use Rattle.sparse_lines.proofs.put_header.Goals as goal

pub returns : goal.returns
unfolding header_line
returns c = puts_then c.put_labelled.ensures (puts_then c.put_labelled-2.ensures c.put_line.ensures)
