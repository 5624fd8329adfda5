-- `sparse_lines::put_chunk` meets its contract.
-- Assumes nothing.
use Rattle.text.proofs.Growing.{puts_then}
use Rattle.sparse_list_rules.specs.Lines.{chunk_line}
use Rattle.sparse_lines.proofs.put_chunk.Goals as goal

pub returns : goal.returns
unfolding chunk_line
returns c = puts_then c.put_number.ensures (puts_then c.put_kind.ensures c.put.ensures)
