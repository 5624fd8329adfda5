-- `sparse_join::growing::ended` meets its contract.
-- Assumes nothing.
use mathlib.Core.Path.{◌≡◌, ap, ◌∙◌}
use native.Mathlib.Omega.{arith}
use Prim.Native.Nat.{◌*◌}
use Rattle.sparse_write_rules.specs.KindOf.{kind_of}
use Rattle.sparse_write_rules.specs.Encode.{chunk_size}
use Rattle.sparse_write_rules.proofs.Chunks.{size_most}
use Rattle.sparse_join_rules.proofs.Measuring.{ended_none, ended_some}
use Rattle.sparse_join.proofs.growing.ended.Goals as goal
use Rattle.sparse_join.proofs.growing.ended.Goals.{After-chunk_size-size}

-- the last chunk's size
sized : (c : After-chunk_size-size) → c.chunk_size-size.result ≡ chunk_size (kind_of c.args.g.kind) (c.args.g.blocks * c.args.block)
sized c = c.chunk_size-size.ensures ∙ ap (chunk_size (kind_of c.args.g.kind)) c.bytes_of-len.ensures

pub returns-then-g-eq0 : goal.returns-then-g-eq0
returns-then-g-eq0 c =
    ended_none c.args.block c.args.g c.args.kind c.if-g-eq0.true

pub overflow_add-result : goal.overflow_add-result
overflow_add-result c =
    omega (arith, sized (goal.at.overflow_add-result c).After-chunk_size-size, size_most (kind_of c.args.g.kind) (c.args.g.blocks * c.args.block), c.requires.0, c.requires.1)

pub returns : goal.returns
returns c =
    ended_some c.args.block c.args.g c.args.kind c.if-g-eq0.false (sized (goal.at.returns c).After-chunk_size-size)
