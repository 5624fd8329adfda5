-- `sparse_read::field` meets its contract: past the end every field is 0.
-- Assumes nothing.
use mathlib.Core.Path.{sym}
use Prim.Native.Nat.{◌+◌}
use native.Mathlib.Omega.{arith}
use Rattle.sparse_rules.proofs.Refusals.{number_outside}
use Rattle.sparse_read.proofs.field.Goals as goal

pub returns-else-offset-image : goal.returns-else-offset-image
returns-else-offset-image c =
    sym (number_outside c.args.image.now (c.args.at + c.args.offset) 4 (omega arith))

pub returns-else-at-image : goal.returns-else-at-image
returns-else-at-image c =
    sym (number_outside c.args.image.now (c.args.at + c.args.offset) 4 (omega arith))
