-- `report_text::put_text` meets its contract.
-- Assumes nothing.
use Rattle.std.proofs.Common.{rules}
use Rattle.text.proofs.Growing.{puts_then, put_whole}
use Rattle.report_rules.specs.Text.{text}
use Rattle.report_text.proofs.put_text.Goals as goal

pub returns : goal.returns
unfolding text
returns c =
    let whole = put_whole c.at-lines.ensures (puts_then c.put_totals.ensures c.put_refusals.ensures) in
    search rules
