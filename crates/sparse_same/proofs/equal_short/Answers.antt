-- `sparse_same::equal_short` meets its contract. The loop's invariant: what is still to be compared decides.
-- Assumes nothing.
use mathlib.Core.Path.{refl}
use native.Mathlib.Omega.{arith}
use Rattle.sparse_same.proofs.Comparing.{compare_on, compare_done}
use Rattle.sparse_same.proofs.equal_short.Goals as goal

pub loop-i-init : goal.loop-i-init
loop-i-init c = record { inside = omega arith; goes = refl }

pub bounds-second-i : goal.bounds-second-i
bounds-second-i c = omega (arith, c.requires, c.loop-i-test.true)

pub loop-i-smaller : goal.loop-i-smaller
loop-i-smaller c = omega (arith, c.loop-i-test.true)

pub loop-i-preserved : goal.loop-i-preserved
loop-i-preserved c = compare_on c.requires c.loop-i-test.true c.loop-i.invariant

pub returns : goal.returns
returns c = compare_done c.requires (omega (arith, c.loop-i-test.false)) c.loop-i.invariant
