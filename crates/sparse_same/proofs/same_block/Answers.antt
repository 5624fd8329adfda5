-- `sparse_same::same_block` meets its contract.
-- Assumes nothing.
use mathlib.Core.Path.{sym, ◌∙◌}
use Rattle.sparse_blocks_rules.specs.Same.{same_block}
use Rattle.sparse_same.proofs.same_block.Goals as goal

pub returns-then-is_raw-2 : goal.returns-then-is_raw-2
unfolding same_block
returns-then-is_raw-2 c =
    rw (sym c.is_raw.ensures ∙ c.if-is_raw.true, sym c.is_raw-then-is_raw.ensures ∙ c.if-is_raw-2.true) c.same_bytes.ensures

pub returns-then-is_raw : goal.returns-then-is_raw
unfolding same_block
returns-then-is_raw c =
    rw (sym c.is_raw.ensures ∙ c.if-is_raw.true, sym c.is_raw-then-is_raw.ensures ∙ c.if-is_raw-2.false) c.repeats_word.ensures

pub returns-then-is_raw-3 : goal.returns-then-is_raw-3
unfolding same_block
returns-then-is_raw-3 c =
    rw (sym c.is_raw.ensures ∙ c.if-is_raw.false, sym c.is_raw-2.ensures ∙ c.if-is_raw-3.true) c.repeats_word-then-is_raw-3.ensures

pub returns : goal.returns
unfolding same_block
returns c =
    rw (sym c.is_raw.ensures ∙ c.if-is_raw.false, sym c.is_raw-2.ensures ∙ c.if-is_raw-3.false) c.same_bytes-2.ensures
