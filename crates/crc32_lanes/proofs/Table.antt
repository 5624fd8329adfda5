-- The one table of sixteen numbers follows its rule: antt computes the test over the whole table.
-- Assumes nothing.
use mathlib.Core.Path.{refl}
use Rattle.crc32_rules.specs.Crc.{bit, steps}
use Rattle.crc32_rules.specs.Table.{HalfBytes}
use Rattle.crc32_lanes.specs.declared.step.TheConstants.{TABLE}

-- each number is what four one-bit steps make of its index
pub half_bytes : HalfBytes TABLE
unfolding bit steps
half_bytes = (refl, tt)
