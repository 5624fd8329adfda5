-- The loop of `report_sums::row`: the sums before this place stand.
use Rattle.report_sums.proofs.Laws.{Going}
use Rattle.report_sums.proofs.row.Given as goal

abbrev pub invariant-loop-i : goal.invariant-loop-i
invariant-loop-i l = Going l.a l.b l.sum-items l.i
