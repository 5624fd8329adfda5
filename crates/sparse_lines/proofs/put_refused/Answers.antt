-- `sparse_lines::put_refused` meets its contract.
-- Assumes nothing.
use Rattle.text.proofs.Growing.{puts_then}
use Rattle.sparse_list_rules.specs.Lines.{refused_line}
use Rattle.sparse_lines.proofs.put_refused.Goals as goal

pub returns : goal.returns
unfolding refused_line
returns c = puts_then c.put_labelled.ensures c.put_line.ensures
