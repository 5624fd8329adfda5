-- `sparse_header::bytes_of` meets its contract: the product of two numbers of 32 bits fits 64 bits.
-- Assumes nothing.
use native.Mathlib.Omega.{arith}
use Rattle.sparse_rules.proofs.Refusals.{wide_product}
use Rattle.sparse_header.proofs.bytes_of.Goals as goal

pub overflow_mul-result : goal.overflow_mul-result
overflow_mul-result c = omega (arith, wide_product c.args.blocks c.args.block (omega arith) (omega arith))
