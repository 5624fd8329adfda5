-- A word with its number, and a newline after it.
use Rattle.text.proofs.Growing.{puts_then}
use Rattle.text.proofs.Text.put_line.Goals as goal

pub returns : goal.returns
returns c = puts_then c.put_labelled.ensures c.put.ensures
