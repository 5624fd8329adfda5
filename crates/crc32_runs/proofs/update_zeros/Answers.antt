-- `crc32_runs::update_zeros` meets its contract: a zero byte is eight one-bit steps.
-- Assumes nothing.
use mathlib.Core.Path.{refl, sym, ap, ◌∙◌}
use Prim.Native.Nat.{ℕ, ◌*◌}
use lib.Bits.{bit_xor, xor_zero_r}
use Rattle.crc32_rules.specs.Crc.{bit, steps}
use Rattle.crc32_rules.proofs.Laws.{crc_nil}
use Rattle.crc32_rules.proofs.Products.{zero_fixed}
use Rattle.crc32_rules.proofs.Runs.{zero-steps}
use Rattle.crc32_runs.proofs.update_zeros.Goals as goal

pub returns-then-n-eq0 : goal.returns-then-n-eq0
returns-then-n-eq0 c = rw c.if-n-eq0.true (sym (crc_nil c.args.state))

pub returns : goal.returns
unfolding steps bit
returns c =
    c.run.ensures 8 refl
    ∙ ap (λ (x : ℕ). bit_xor (steps (c.args.n * 8) (bit_xor c.args.state x)) x) zero_fixed
    ∙ xor_zero_r (steps (c.args.n * 8) (bit_xor c.args.state 0))
    ∙ ap (steps (c.args.n * 8)) (xor_zero_r c.args.state)
    ∙ sym (zero-steps c.args.n c.args.state)
