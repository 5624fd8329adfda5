-- `report::empty` meets its contract.
-- Assumes nothing.
use Rattle.report_rules.proofs.One.{no_images}
use Rattle.report.proofs.empty.Goals as goal

pub returns : goal.returns
returns c = no_images
