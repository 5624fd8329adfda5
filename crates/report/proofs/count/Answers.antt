-- `report::count` meets its contract: the report of the image alone is added.
-- Assumes nothing.
use mathlib.Core.Path.{◌∙◌}
use Rattle.report_rules.proofs.One.{counted_one}
use Rattle.report.proofs.count.Goals as goal

pub returns : goal.returns
returns c = c.add.ensures ∙ counted_one _ _ c.report_of.ensures
