-- `sparse_kind::size_right` meets its contract: the sum fits 64 bits at every header.
-- Assumes nothing.
use Rattle.std.proofs.Common.{arith}
use Rattle.sparse_rules.proofs.Refusals.{wide_product}
use Rattle.sparse_kind.proofs.size_right.Goals as goal

pub overflow_add-result : goal.overflow_add-result
overflow_add-result c =
    omega (arith, c.bytes_of.ensures, wide_product c.args.blocks c.args.header.block (omega arith) (omega arith))
