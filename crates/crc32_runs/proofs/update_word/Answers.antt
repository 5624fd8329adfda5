-- `crc32_runs::update_word` meets its contract: a word is 32 one-bit steps.
-- Assumes nothing.
use mathlib.Core.Path.{refl, sym, ◌∙◌}
use native.Mathlib.Omega.{arith}
use Rattle.crc32_rules.specs.Crc.{bit, steps}
use Rattle.crc32_rules.proofs.Runs.{word_steps}
use Rattle.crc32_runs.proofs.update_word.Goals as goal

pub returns : goal.returns
unfolding steps bit
returns c =
    c.run.ensures 32 refl ∙ sym (word_steps c.args.n c.args.state c.args.word (omega arith))
