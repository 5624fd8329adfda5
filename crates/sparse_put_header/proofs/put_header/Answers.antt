-- `sparse_put_header::put_header` meets its contract: its beginning, then four fields, one after the other.
-- Assumes nothing.
use mathlib.Core.Path.{sym}
use Rattle.sparse_write_rules.proofs.Putting.{header_put, header_none}
use Rattle.sparse_put_header.proofs.put_header.Goals as goal

pub returns-then-out-lt28 : goal.returns-then-out-lt28
returns-then-out-lt28 c =
    sym (header_none c.args.block c.args.total c.args.chunks c.args.sum c.args.out.now c.if-out-lt28.true)

pub returns : goal.returns
returns c =
    header_put c.args.block c.args.total c.args.chunks c.args.sum c.args.out.now c.if-out-lt28.false
    c.put_version.ensures c.write32.ensures c.write32-2.ensures c.write32-3.ensures c.write32-4.ensures
