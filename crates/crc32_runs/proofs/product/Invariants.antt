-- `crc32_runs::product` meets its contract. The loop's invariant: the bits that are left give the whole.
-- The measure is what is left of the turns. Assumes nothing.
use mathlib.Core.Path.{◌≡◌}
use Prim.Native.Nat.{◌-◌, ◌*◌, ◌≤◌}
use Rattle.crc32_rules.specs.Power.{shift_add, times}
use Rattle.crc32_runs.proofs.product.Given as goal

abbrev pub invariant-loop-i : goal.invariant-loop-i
invariant-loop-i l = (l.i ≤ 16) × (times l.b l.a ≡ shift_add ((16 - l.i) * 2) l.left l.acc l.power)

abbrev pub decreases-loop-i : goal.decreases-loop-i
decreases-loop-i l = 16 - l.i
