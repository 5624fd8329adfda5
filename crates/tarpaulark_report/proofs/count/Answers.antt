-- `tarpaulark_report::count` meets its contract.
-- Assumes nothing.
use Rattle.tarpaulark_report.proofs.Numbers.{handed}
use Rattle.tarpaulark_report.proofs.count.Goals as goal

pub returns : goal.returns
returns c = rw (← c.report_in.ensures) (handed c.count.ensures c.hand_over.ensures)
