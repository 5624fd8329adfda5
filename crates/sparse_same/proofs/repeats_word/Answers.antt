-- `sparse_same::repeats_word` meets its contract.
-- Assumes nothing.
use mathlib.Core.Path.{sym, ◌∙◌}
use native.Mathlib.Omega.{arith}
use Rattle.sparse_blocks_rules.specs.Same.{repeats_word}
use Rattle.sparse_blocks_rules.proofs.Turns.{same_within}
use Rattle.sparse_same.proofs.repeats_word.Goals as goal

pub overflow_add-i : goal.overflow_add-i
overflow_add-i c =
    record {
      fits = omega (arith, c.ranges, same_within c.args.raw.now c.args.i c.args.fill.now c.args.j 4 (sym c.same_bytes.ensures ∙ c.if-same_bytes.true));
    }

pub returns-then-same_bytes : goal.returns-then-same_bytes
unfolding repeats_word
returns-then-same_bytes c = rw (sym c.same_bytes.ensures ∙ c.if-same_bytes.true) (c.same_bytes-then-same_bytes.ensures ∙ rw c.saturating_sub.ensures)

pub returns : goal.returns
unfolding repeats_word
returns c = rw (sym c.same_bytes.ensures ∙ c.if-same_bytes.false)
