-- `report_sums::sum` meets its contract: a total that passes 64 bits ends it, and without one the sums fit.
-- Assumes nothing.
use Rattle.std.proofs.Common.{arith, rules, tests}
use Rattle.report_rules.specs.Reports.{sum}
use Rattle.report_rules.proofs.Sums.{sum_is}
use Rattle.report_sums.proofs.Laws.{row_fits, fits_row}
use Rattle.report_sums.proofs.sum.Goals as goal

pub returns-in_err-total : goal.returns-in_err-total
unfolding sum
returns-in_err-total c = rw c.from_residual.ensures (λ f. c.in_err-total.ensures f.accepted)

pub returns-in_err-total-2 : goal.returns-in_err-total-2
unfolding sum
returns-in_err-total-2 c = rw c.from_residual-in_err-total-2.ensures (λ f. c.in_err-total-2.ensures f.blocks)

pub returns-in_err-total-3 : goal.returns-in_err-total-3
unfolding sum
returns-in_err-total-3 c = rw c.from_residual-in_err-total-3.ensures (λ f. c.in_err-total-3.ensures f.bytes)

pub returns-in_err-total-4 : goal.returns-in_err-total-4
unfolding sum
returns-in_err-total-4 c = rw c.from_residual-in_err-total-4.ensures (λ f. c.in_err-total-4.ensures f.skipped)

pub returns-in_err-row : goal.returns-in_err-row
returns-in_err-row c = rw c.from_residual-in_err-row.ensures (λ f. c.in_err-row.ensures (row_fits c.args.a.now c.args.b.now f))

pub returns : goal.returns
unfolding sum
returns c =
    let row = c.in_ok-row.ensures in (
      record {
        accepted = omega (arith, c.in_ok-total.ensures);
        blocks = omega (arith, c.in_ok-total-2.ensures);
        bytes = omega (arith, c.in_ok-total-3.ensures);
        skipped = omega (arith, c.in_ok-total-4.ensures);
        refused = fits_row c.args.a.now c.args.b.now row.0;
      },
      sum_is c.args.a.now c.args.b.now (omega (arith, c.in_ok-total.ensures)) (omega (arith, c.in_ok-total-2.ensures)) (omega (arith, c.in_ok-total-3.ensures)) (omega (arith, c.in_ok-total-4.ensures)) (search (rules, tests)) row.1,
    )
