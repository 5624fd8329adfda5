-- `crc32_runs::run` meets its contract. The loop's invariant: the power is one of x, and what is left of the count gives the whole.
-- The measure is the count. Assumes nothing.
use mathlib.Core.Path.{refl, ap, ◌∙◌}
use Prim.Native.Nat.{ℕ, ◌*◌}
use native.Mathlib.Omega.{arith}
use lib.Bits.{bit_xor, xor_lt}
use Rattle.crc32_rules.specs.Crc.{steps}
use Rattle.crc32_rules.proofs.Powers.{Gone, even_gone, odd_gone, squared, kept, no_turn}
use Rattle.crc32_runs.proofs.run.Goals as goal
use Rattle.crc32_runs.proofs.run.Goals.{else-m-eq1, then-m-eq1}

pub loop-m-init : goal.loop-m-init
loop-m-init c e h = record {
  exponent = e;
  power = h;
  left = refl;
  state_fits = xor_lt 32 c.args.state c.product-fixed.result (omega arith) (omega arith);
  power_fits = omega arith;
}

pub loop-m-preserved-then-m-gt0 : goal.loop-m-preserved-then-m-gt0
loop-m-preserved-then-m-gt0 c e h =
    let now = c.loop-m.invariant e h in
    let gone : Gone now c.if-m-eq1.s =
    elim c.if-m-eq1.branch [ then-m-eq1 w ↦ rw w.s-is (odd_gone now w.product-s.result (omega arith) w.product-s.ensures (omega arith)) | else-m-eq1 w ↦ rw w.s-is (even_gone now (omega arith)) ] in
    squared now c.if-m-eq1.s c.product-p.result gone (omega arith) c.product-p.ensures

pub loop-m-preserved : goal.loop-m-preserved
loop-m-preserved c e h =
    let now = c.loop-m.invariant e h in
    let gone : Gone now c.if-m-eq1.s =
    elim c.if-m-eq1.branch [ then-m-eq1 w ↦ rw w.s-is (odd_gone now w.product-s.result (omega arith) w.product-s.ensures (omega arith)) | else-m-eq1 w ↦ rw w.s-is (even_gone now (omega arith)) ] in
    kept now c.if-m-eq1.s gone (omega arith)

pub returns : goal.returns
returns c e h =
    ap (λ (x : ℕ). bit_xor x c.product-fixed.result) (no_turn (c.loop-m.invariant e h) (omega arith))
    ∙ ap (λ (x : ℕ). bit_xor (steps (c.args.n * e) (bit_xor c.args.state x)) x) c.product-fixed.ensures
