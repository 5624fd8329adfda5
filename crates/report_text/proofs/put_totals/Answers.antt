-- `report_text::put_totals` meets its contract.
-- Assumes nothing.
use Rattle.text.proofs.Growing.{puts_then}
use Rattle.report_rules.specs.Text.{total_lines}
use Rattle.report_text.proofs.put_totals.Goals as goal

pub returns : goal.returns
unfolding total_lines
returns c =
    puts_then c.put_line.ensures
    (puts_then c.put_line-2.ensures (puts_then c.put_line-3.ensures (puts_then c.put_line-4.ensures c.put_line-5.ensures)))
