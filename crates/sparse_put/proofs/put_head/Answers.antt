-- `sparse_put::put_head` meets its contract: four fields, one after the other.
-- Assumes nothing.
use mathlib.Core.Path.{sym}
use Prim.Native.Nat.{◌+◌, ◌≤◌}
use native.Mathlib.Omega.{arith}
use lib.ListN.{length}
use Rattle.sparse_write_rules.proofs.Putting.{head_put, head_none}
use Rattle.sparse_put.proofs.put_head.Goals as goal
use Rattle.sparse_put.proofs.put_head.Goals.{Else-room-lt12}

-- the header fits
room : (c : Else-room-lt12) → c.args.at + 12 ≤ length c.args.out.now
room c = omega arith

pub returns-then-room-lt12 : goal.returns-then-room-lt12
returns-then-room-lt12 c =
    sym (head_none c.args.code c.args.blocks c.args.total c.args.out.now c.args.at (omega arith))

pub overflow_add-at : goal.overflow_add-at
overflow_add-at c = omega (arith, room (goal.at.overflow_add-at c).Else-room-lt12)

pub overflow_add-at-2 : goal.overflow_add-at-2
overflow_add-at-2 c = omega (arith, room (goal.at.overflow_add-at-2 c).Else-room-lt12)

pub overflow_add-at-3 : goal.overflow_add-at-3
overflow_add-at-3 c = omega (arith, room (goal.at.overflow_add-at-3 c).Else-room-lt12)

pub returns : goal.returns
returns c =
    head_put c.args.code c.args.blocks c.args.total c.args.out.now c.args.at (room (goal.at.returns c).Else-room-lt12)
    c.write16.ensures c.write16-2.ensures c.write32.ensures c.write32-2.ensures
