-- `sparse_write::put::put_chunk` meets its contract: the chunk's beginning, and its raw data after that, by the kind.
-- Assumes nothing.
use mathlib.Core.Path.{◌≡◌, sym, ap, ◌∙◌}
use Prim.Native.Nat.{ℕ, ◌+◌}
use native.Mathlib.Omega.{arith}
use lib.ListN.{length}
use lib.Seq.{sets}
use Rattle.fields_rules.specs.Number.{placed}
use Rattle.std.specs.Prelude.{Some}
use Rattle.sparse_write_rules.specs.KindOf.{kind_of}
use Rattle.sparse_write_rules.specs.Encode.{chunk_size}
use Rattle.sparse_write_rules.specs.Parts.{chunk_top, chunk_rest}
use Rattle.sparse_write_rules.proofs.Chunks.{size_most}
use Rattle.sparse_write_rules.proofs.Putting.{chunk_put}
use Rattle.sparse_write.proofs.put.put_chunk.Goals as goal
use Rattle.sparse_write.proofs.put.put_chunk.Goals.{After-put_top}

-- the beginning is that of the chunk
topped : (c : After-put_top) → c.put_top.new.out ≡ placed c.args.out.now c.args.pos (chunk_top (kind_of (Some c.args.stored)) c.args.blocks (chunk_size (kind_of (Some c.args.stored)) (length c.args.src.now)))
topped c =
    c.put_top.ensures ∙ ap (λ (total : ℕ). placed c.args.out.now c.args.pos (chunk_top (kind_of (Some c.args.stored)) c.args.blocks total)) c.chunk_size-total.ensures

pub overflow_cast-total : goal.overflow_cast-total
overflow_cast-total c =
    omega (arith, c.chunk_size-total.ensures, size_most (kind_of (Some c.args.stored)) (length c.args.src.now), c.requires.1)

pub returns-in-Raw : goal.returns-in-Raw
returns-in-Raw c =
    let is-raw : chunk_rest (kind_of (Some c.args.stored)) c.args.src.now ≡ c.args.src.now = rw c.in-Raw.is in (
      c.put_data.ensures.0,
      c.put_data.ensures.1 ∙ ap (sets c.put_top.new.out (c.args.pos + 12)) (sym is-raw)
          ∙ chunk_put (kind_of (Some c.args.stored)) c.args.blocks c.args.src.now c.args.out.now c.args.pos c.requires.0 (topped (goal.at.returns-in-Raw c).After-put_top),
    )

pub returns-in-Fill : goal.returns-in-Fill
returns-in-Fill c =
    let is-fill : sets c.put_top.new.out (c.args.pos + 12) (chunk_rest (kind_of (Some c.args.stored)) c.args.src.now) ≡ c.put_top.new.out = rw c.in-Fill.is in (
      c.sum_fill.ensures,
      sym is-fill
          ∙ chunk_put (kind_of (Some c.args.stored)) c.args.blocks c.args.src.now c.args.out.now c.args.pos c.requires.0 (topped (goal.at.returns-in-Fill c).After-put_top),
    )
