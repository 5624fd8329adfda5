-- `sparse_scan::whole_blocks` meets its contract.
-- Assumes nothing.
use mathlib.Core.Path.{◌≡◌, sym, ◌∙◌}
use mathlib.Core.Bool.{true}
use native.Mathlib.Omega.{arith}
use Rattle.sparse_rules.specs.Header.{block_size_right}
use Rattle.sparse_write_rules.proofs.FlatImage.{block_good}
use Rattle.sparse_scan.proofs.Whole.{whole_past}
use Rattle.sparse_scan.proofs.whole_blocks.Goals as goal
use Rattle.sparse_scan.proofs.whole_blocks.Goals.{Else-not-block_right}

-- the block size is right
right : (c : Else-not-block_right) → block_size_right c.args.block_size ≡ true
right c = sym c.block_right.ensures ∙ c.if-not-block_right.false

pub returns-then-not-block_right : goal.returns-then-not-block_right
returns-then-not-block_right c = rw (sym c.block_right.ensures ∙ c.if-not-block_right.true)

pub nonzero_div-result : goal.nonzero_div-result
nonzero_div-result c = omega (arith, (block_good c.args.block_size (right (goal.at.nonzero_div-result c).Else-not-block_right)).0)

pub returns-then-len-at : goal.returns-then-len-at
returns-then-len-at c = sym (whole_past c.args.len c.args.block_size c.args.at c.if-len-at.true)

pub returns-else-len-at : goal.returns-else-len-at
returns-else-len-at c = rw (right (goal.at.returns-else-len-at c).Else-not-block_right)
