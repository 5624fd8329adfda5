-- `tarpaulark_report::add` meets its contract.
-- Assumes nothing.
use Rattle.tarpaulark_report.proofs.Numbers.{handed}
use Rattle.tarpaulark_report.proofs.add.Goals as goal

pub returns : goal.returns
returns c =
    rw (← c.report_in.ensures, ← c.report_in-2.ensures)
    (handed c.add.ensures c.hand_over.ensures)
