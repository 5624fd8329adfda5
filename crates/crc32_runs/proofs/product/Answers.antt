-- `crc32_runs::product` meets its contract. The loop's invariant: the bits that are left give the whole.
-- The measure is what is left of the turns. Assumes nothing.
use mathlib.Core.Path.{◌≡◌, refl, sym, ◌∙◌}
use Prim.Native.Nat.{suc, ◌+◌, ◌-◌, ◌*◌}
use native.Mathlib.Omega.{arith}
use Rattle.crc32_rules.specs.Power.{shift_add}
use Rattle.crc32_runs.proofs.product.Goals as goal

pub loop-i-init : goal.loop-i-init
loop-i-init c = (omega arith, refl)

pub loop-i-preserved : goal.loop-i-preserved
unfolding shift_add
loop-i-preserved c =
    let two : (16 - c.loop-i.i) * 2 ≡ suc (suc ((16 - (c.loop-i.i + 1)) * 2)) = omega arith in (
      omega arith,
      c.loop-i.invariant.1
          ∙ rw (two, c.up-left.ensures, c.up-in-loop-i.ensures, c.one-power.ensures, c.term-in-loop-i.ensures, c.up.ensures, c.term.ensures, c.one-next.ensures),
    )

pub returns : goal.returns
unfolding shift_add
returns c =
    let none : (16 - c.loop-i.i) * 2 ≡ 0 = omega arith in
    sym (c.loop-i.invariant.1 ∙ rw none)
