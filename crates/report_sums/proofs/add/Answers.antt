-- `report_sums::add` meets its contract.
-- Assumes nothing.
use Rattle.std.proofs.Common.{ap, ◌∙◌}
use Rattle.report_rules.specs.Reports.{counted_of}
use Rattle.report_sums.proofs.Laws.{answered}
use Rattle.report_sums.proofs.add.Goals as goal

pub returns : goal.returns
returns c = ap counted_of c.ok_or.ensures.value ∙ answered c.args.a c.args.b c.sum.result c.sum.ensures
