-- `sparse_listing::list` meets its contract.
-- Assumes nothing.
use native.Mathlib.Omega.{arith}
use Rattle.sparse_list_rules.proofs.Room.{whole, too_short}
use Rattle.sparse_listing.proofs.list.Goals as goal

pub returns-then-n-out : goal.returns-then-n-out
returns-then-n-out c = whole c.args.input.now c.put_listing-n.ensures (omega arith)

pub returns : goal.returns
returns c = too_short c.args.input.now c.put_listing-n.ensures (omega arith)
