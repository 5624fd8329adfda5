-- `crc32_lanes::quarters` meets its contract: the four quarters' states joined one after the other. The loop's invariant: in each lane,
-- the state over what is left is the state over the whole, and the fifth is what as many zero bytes make of one. The measure is what is
-- left. Assumes nothing.
use mathlib.Core.Path.{◌≡◌, refl, sym}
use Prim.Native.Nat.{◌+◌, ◌*◌, ◌/◌}
use native.Mathlib.Omega.{arith}
use lib.ListN.{length, get_or}
use Rattle.crc32_rules.specs.Power.{unit}
use Rattle.crc32_rules.proofs.Laws.{crc_nil}
use Rattle.crc32_rules.proofs.Pieces.{part, part_length, lane_start, lane_next, lane_part, lane_joined, lane_done, zeros_more}
use Rattle.crc32_lanes.proofs.quarters.Goals as goal

pub loop-i-init : goal.loop-i-init
loop-i-init c = record {
  inside = omega arith;
  first = lane_start _ _;
  second = lane_start _ _;
  third = lane_start _ _;
  fourth = lane_start _ _;
  zeros = sym (crc_nil unit);
}

pub loop-i-preserved : goal.loop-i-preserved
loop-i-preserved c =
    let xs = c.args.src.now in
    let n = length xs / 4 in
    let i = c.loop-i.i in
    let now = c.loop-i.invariant in
    record {
      inside = omega arith;
      first = lane_next c.args.state 0 n xs _ i i c.byte.result (omega arith) (omega arith) (omega arith) c.byte.ensures now.first;
      second = lane_next 0 n (2 * n) xs _ i (n + i) c.byte-in-loop-i.result (omega arith) (omega arith) refl c.byte-in-loop-i.ensures now.second;
      third = lane_next 0 (2 * n) (3 * n) xs _ i (2 * n + i) c.byte-in-loop-i-2.result (omega arith) (omega arith) refl c.byte-in-loop-i-2.ensures now.third;
      fourth = lane_next 0 (3 * n) (4 * n) xs _ i (3 * n + i) c.byte-in-loop-i-3.result (omega arith) (omega arith) refl c.byte-in-loop-i-3.ensures now.fourth;
      zeros = zeros_more unit c.loop-i.zeros i c.byte-zeros.result c.byte-zeros.ensures now.zeros;
    }

pub returns : goal.returns
returns c =
    let s = c.args.state in
    let xs = c.args.src.now in
    let n = length xs / 4 in
    let i = c.loop-i.i in
    let now = c.loop-i.invariant in
    let done : i ≡ length (part 0 n xs) = omega (arith, part_length 0 n xs (omega arith) (omega arith)) in
    let one = lane_part s xs s 0 n (get_or c.loop-i.lanes 0 0) (omega arith) (lane_done s (part 0 n xs) _ i done now.first) (lane_start s xs) in
    let two =
    lane_joined s xs _ n (2 * n) c.loop-i.zeros i (get_or c.loop-i.lanes 1 0) c.join-two.result (omega arith) (omega arith) (omega arith)
    now.zeros now.second c.join-two.ensures one in
    let three =
    lane_joined s xs _ (2 * n) (3 * n) c.loop-i.zeros i (get_or c.loop-i.lanes 2 0) c.join-three.result (omega arith) (omega arith) (omega arith)
    now.zeros now.third c.join-three.ensures two in
    lane_done s xs c.join.result (4 * n) (omega arith)
    (lane_joined s xs _ (3 * n) (4 * n) c.loop-i.zeros i (get_or c.loop-i.lanes 3 0) c.join.result (omega arith) (omega arith) (omega arith)
    now.zeros now.fourth c.join.ensures three)
