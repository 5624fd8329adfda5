-- `sparse_blocks::less` meets its contract.
-- Assumes nothing.
use native.Mathlib.Omega.{arith}
use Rattle.sparse_rules.proofs.Refusals.{wide_product}
use Rattle.sparse_blocks_rules.proofs.Turns.{less_is}
use Rattle.sparse_blocks.proofs.less.Goals as goal

pub overflow_mul-bytes : goal.overflow_mul-bytes
overflow_mul-bytes c =
    record { fits = omega (arith, wide_product c.args.n c.pace.result (omega (arith, c.well_formed)) (omega (arith, c.pace))) }

pub returns : goal.returns
returns c =
    less_is c.args.len c.args.block c.args.chunk c.args.n c.pace.ensures (omega (arith, c.saturating_add, c.min-body.ensures)) c.saturating_sub-blocks.ensures
