-- `crc32_lanes::quarters` meets its contract. The loop's invariant: in each lane, the state over what is left is the state over the whole,
-- and the fifth is what as many zero bytes make of one. The measure is what is left. Assumes nothing.
use mathlib.Core.Path.{◌≡◌}
use Prim.Native.Nat.{◌-◌, ◌*◌, ◌≤◌}
use lib.ListN.{get_or, replicate}
use Rattle.crc32_rules.specs.Crc.{crc_from}
use Rattle.crc32_rules.specs.Power.{unit}
use Rattle.crc32_rules.proofs.Pieces.{Lane, part}
use Rattle.crc32_lanes.proofs.quarters.Given as goal

abbrev pub invariant-loop-i : goal.invariant-loop-i
invariant-loop-i l = record {
  inside : l.i ≤ l.part;
  first : Lane l.state (part 0 l.part l.src) (get_or l.lanes 0 0) l.i;
  second : Lane 0 (part l.part (2 * l.part) l.src) (get_or l.lanes 1 0) l.i;
  third : Lane 0 (part (2 * l.part) (3 * l.part) l.src) (get_or l.lanes 2 0) l.i;
  fourth : Lane 0 (part (3 * l.part) (4 * l.part) l.src) (get_or l.lanes 3 0) l.i;
  zeros : l.zeros ≡ crc_from unit (replicate l.i 0);
}

abbrev pub decreases-loop-i : goal.decreases-loop-i
decreases-loop-i l = l.part - l.i
