-- `sparse_read::read_chunk` meets its contract: a law for each exit, by what was read in place of the fields.
-- Assumes nothing.
use mathlib.Core.Path.{◌≡◌, sym, ap, ◌∙◌}
use mathlib.Core.Bool.{Bool}
use native.Mathlib.Omega.{arith}
use lib.ListN.{length}
use Rattle.sparse_rules.specs.Chunks.{type_at, blocks_at, size_at, kind_of, size_right}
use Rattle.sparse_rules.proofs.Facts.{read_short, read_wrong, read_cut, read_past, read_whole}
use Rattle.sparse_rules.proofs.Refusals.{chunk_is, size_is}
use Rattle.sparse_read.proofs.read_chunk.Goals as goal
use Rattle.sparse_read.proofs.read_chunk.Goals.{After-size_right}

-- the size that is tested is the image's
sized : (c : After-size_right) {x : Bool} → c.size_right.result ≡ x
    → size_right c.args.header
    (kind_of (type_at c.args.image.now c.args.cursor.at))
    (blocks_at c.args.image.now c.args.cursor.at)
    (size_at c.args.image.now c.args.cursor.at)
    ≡ x
sized c =
    size_is c.args.header c.size_right.ensures
    (c.kind_of-kind.ensures ∙ ap kind_of c.read16.ensures)
    c.field-blocks.ensures c.field-size.ensures

pub returns-then-len-at : goal.returns-then-len-at
returns-then-len-at c =
    rw c.refusal.ensures (sym (read_short c.args.image.now (length c.args.image.now) c.args.header c.args.cursor (omega arith)))

pub returns-then-len-at-2 : goal.returns-then-len-at-2
returns-then-len-at-2 c =
    rw c.refusal-then-len-at-2.ensures (sym (read_short c.args.image.now (length c.args.image.now) c.args.header c.args.cursor (omega arith)))

pub returns-then-len-at-3 : goal.returns-then-len-at-3
returns-then-len-at-3 c =
    rw c.refusal-then-len-at-3.ensures
    (sym (read_cut c.args.image.now (length c.args.image.now) c.args.header c.args.cursor (omega arith) (sized (goal.at.returns-then-len-at-3 c).After-size_right c.if-not-size_right.false) (omega (arith, c.field-size.ensures))))

pub returns-then-header-end : goal.returns-then-header-end
returns-then-header-end c =
    rw c.refusal-then-header-end.ensures
    (sym (read_past c.args.image.now (length c.args.image.now) c.args.header c.args.cursor (omega arith) (sized (goal.at.returns-then-header-end c).After-size_right c.if-not-size_right.false) (omega (arith, c.field-size.ensures)) (omega (arith, c.field-blocks.ensures))))

pub returns : goal.returns
returns c =
    chunk_is c.args.image.now c.args.header c.args.cursor c.kind_of-kind.ensures
    c.read16.ensures c.field-blocks.ensures c.field-size.ensures
    ∙ sym
    (read_whole c.args.image.now (length c.args.image.now) c.args.header c.args.cursor (omega arith) (sized (goal.at.returns c).After-size_right c.if-not-size_right.false) (omega (arith, c.field-size.ensures)) (omega (arith, c.field-blocks.ensures)))

pub returns-then-not-size_right : goal.returns-then-not-size_right
returns-then-not-size_right c =
    rw c.refusal-then-not-size_right.ensures
    (sym (read_wrong c.args.image.now (length c.args.image.now) c.args.header c.args.cursor (omega arith) (sized (goal.at.returns-then-not-size_right c).After-size_right c.if-not-size_right.true)))
