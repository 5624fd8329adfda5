-- `starter_line::put_suffix` meets its contract. Assumes nothing.
use Rattle.text.proofs.Growing.{puts_then}
use Rattle.starter_rules.proofs.Lines.{suffix_by}
use Rattle.starter_line.proofs.put_suffix.Goals as goal

pub returns : goal.returns
returns c =
    rw (suffix_by c.args.slot c.letter_of.result c.letter_of.ensures) at (puts_then c.put.ensures c.put-2.ensures)
