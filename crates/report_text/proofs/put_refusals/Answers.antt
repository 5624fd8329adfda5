-- `report_text::put_refusals` meets its contract.
-- Assumes nothing.
use native.Mathlib.Omega.{arith}
use Prim.Native.Nat.{◌+◌, ◌-◌}
use mathlib.Core.Path.{◌≡◌}
use native.Mathlib.Numerals.{add-one}
use Rattle.text.proofs.Growing.{puts_nothing, puts_then}
use Rattle.report_rules.proofs.Texts.{lines_none, lines_next}
use Rattle.report_text.proofs.put_refusals.Goals as goal

pub loop-i-init : goal.loop-i-init
loop-i-init c = rw (lines_none c.args.counts.now 1) puts_nothing

pub loop-i-preserved : goal.loop-i-preserved
loop-i-preserved c =
    let number : 1 + c.loop-i.i ≡ c.loop-i.i + 1 = omega arith in
    let place : c.loop-i.i + 1 - 1 ≡ c.loop-i.i = omega arith in
    rw (add-one c.loop-i.i, lines_next c.args.counts.now 1 c.loop-i.i, number, place) (puts_then c.loop-i.invariant c.put_refused.ensures)

pub returns : goal.returns
returns c = let e : c.loop-i.i ≡ 11 = omega arith in rw e at c.loop-i.invariant
