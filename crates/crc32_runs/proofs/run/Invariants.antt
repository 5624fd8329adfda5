-- `crc32_runs::run` meets its contract. The loop's invariant: the power is one of x, and what is left of the count gives the whole.
-- The measure is the count. Assumes nothing.
use mathlib.Core.Path.{◌≡◌}
use Prim.Native.Nat.{ℕ, ◌*◌}
use lib.Bits.{bit_xor}
use Rattle.crc32_rules.specs.Crc.{steps}
use Rattle.crc32_rules.specs.Power.{unit}
use Rattle.crc32_rules.proofs.Powers.{Now}
use Rattle.crc32_runs.proofs.run.Given as goal

abbrev pub invariant-loop-m : goal.invariant-loop-m
invariant-loop-m l = (e : ℕ) → l.power ≡ steps e unit → Now (steps (l.n * e) (bit_xor l.state l.fixed)) l.s l.p l.m

abbrev pub decreases-loop-m : goal.decreases-loop-m
decreases-loop-m l = l.m
