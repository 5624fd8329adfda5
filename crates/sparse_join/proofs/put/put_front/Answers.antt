-- `sparse_join::put::put_front` meets its contract.
-- Assumes nothing.
use mathlib.Core.Path.{sym, ap, ap₂, ◌∙◌}
use mathlib.Core.List.{List}
use Prim.Native.Nat.{ℕ}
use Rattle.crc32_rules.specs.Crc.{crc_from}
use Rattle.sparse_rules.proofs.SumLaws.{summable_first}
use Rattle.sparse_write_rules.specs.KindOf.{kind_of}
use Rattle.sparse_write_rules.specs.Parts.{chunk_rest}
use Rattle.sparse_join_rules.specs.Grows.{put_into}
use Rattle.sparse_join_rules.proofs.Fronts.{second_bytes, first_bytes}
use Rattle.sparse_join.proofs.put.put_front.Goals as goal

pub put_piece-requires : goal.put_piece-requires
put_piece-requires c = (
  summable_first c.args.p.second.now c.args.p.b.header.block c.args.p.b.chunk c.args.n c.requires.0.second.reads.here c.requires.1.second,
  rw (← c.requires.0.size) c.requires.2,
  c.requires.3,
  rw (← c.requires.0.size) c.requires.4,
  c.requires.1.raw_second (sym c.writes.ensures ∙ c.if-writes.true),
)

pub returns-then-writes : goal.returns-then-writes
returns-then-writes c =
    let same = second_bytes c.requires.0 c.args.n (sym c.writes.ensures ∙ c.if-writes.true) in
    (c.put_piece.ensures.0 ∙ ap (λ (ys : List ℕ). crc_from c.args.state (chunk_rest (kind_of c.args.g.kind) ys)) same, c.put_piece.ensures.1 ∙ ap₂ (λ (size : ℕ) (ys : List ℕ). put_into c.args.out.now size c.args.g c.args.n ys) (sym c.requires.0.size) same)

pub put_piece-requires-2 : goal.put_piece-requires-2
put_piece-requires-2 c = (
  summable_first c.args.p.first.now c.args.p.a.header.block c.args.p.a.chunk c.args.n c.requires.0.first.reads.here c.requires.1.first,
  c.requires.2,
  c.requires.3,
  c.requires.4,
  c.requires.1.raw_first (sym c.writes.ensures ∙ c.if-writes.false),
)

pub returns : goal.returns
returns c =
    let same = first_bytes c.requires.0 c.args.n (sym c.writes.ensures ∙ c.if-writes.false) in
    (c.put_piece-2.ensures.0 ∙ ap (λ (ys : List ℕ). crc_from c.args.state (chunk_rest (kind_of c.args.g.kind) ys)) same, c.put_piece-2.ensures.1 ∙ ap (put_into c.args.out.now c.args.p.a.header.block c.args.g c.args.n) same)
