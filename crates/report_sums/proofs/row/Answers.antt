-- `report_sums::row` meets its contract.
-- Assumes nothing.
use Rattle.report_sums.proofs.Laws.{going_done}
use Rattle.report_sums.proofs.row.Goals as goal

pub returns : goal.returns
returns c = going_done _ _ _ _ c.loop-i.invariant c.loop-i-test.false
