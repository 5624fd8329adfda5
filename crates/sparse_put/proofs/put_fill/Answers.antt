-- `sparse_put::put_fill` meets its contract: a header, and the word after it.
-- Assumes nothing.
use mathlib.Core.Path.{sym}
use Prim.Native.Nat.{◌+◌, ◌≤◌}
use native.Mathlib.Omega.{arith}
use lib.ListN.{length}
use Rattle.sparse_write_rules.proofs.Putting.{fill_put, fill_none}
use Rattle.sparse_put.proofs.put_fill.Goals as goal
use Rattle.sparse_put.proofs.put_fill.Goals.{Else-room-lt16}

-- the chunk fits
room : (c : Else-room-lt16) → c.args.at + 16 ≤ length c.args.out.now
room c = omega arith

pub returns-then-room-lt16 : goal.returns-then-room-lt16
returns-then-room-lt16 c =
    sym (fill_none c.args.blocks c.args.word c.args.total c.args.out.now c.args.at (omega arith))

pub overflow_add-at : goal.overflow_add-at
overflow_add-at c = omega (arith, room (goal.at.overflow_add-at c).Else-room-lt16)

pub returns : goal.returns
returns c =
    fill_put c.args.blocks c.args.word c.args.total c.args.out.now c.args.at (room (goal.at.returns c).Else-room-lt16) c.put_head.ensures c.write32.ensures
