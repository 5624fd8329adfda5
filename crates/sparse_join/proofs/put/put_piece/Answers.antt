-- `sparse_join::put::put_piece` meets its contract: the chunk's beginning, and the raw data after what stands there.
-- Assumes nothing.
use mathlib.Core.Path.{ap, ◌∙◌}
use Prim.Native.Nat.{◌+◌, ◌*◌}
use native.Mathlib.Nat.{add-mul}
use native.Mathlib.Omega.{arith}
use Rattle.crc32_rules.specs.Crc.{crc_from}
use Rattle.sparse_rules.proofs.SumLaws.{raw_inside}
use Rattle.sparse_write_rules.specs.KindOf.{kind_of}
use Rattle.sparse_write_rules.proofs.Chunks.{size_most}
use Rattle.sparse_join_rules.proofs.Laying.{piece_rest, piece_put}
use Rattle.sparse_join.proofs.put.put_piece.Goals as goal

pub overflow_cast-size : goal.overflow_cast-size
overflow_cast-size c =
    omega (arith, c.chunk_size-size.ensures, size_most (kind_of c.args.g.kind) (c.args.g.blocks * c.args.block + c.args.chunk.blocks * c.args.block), add-mul c.args.g.blocks c.args.chunk.blocks c.args.block, c.requires.1)

pub put_data-requires : goal.put_data-requires
put_data-requires c =
    λ e. raw_inside 0 c.args.image.now c.args.block c.args.chunk c.requires.0 (c.requires.4 e)

pub returns : goal.returns
returns c = (
  c.put_data.ensures.0 ∙ ap (crc_from c.args.state) (piece_rest c.requires.0 (kind_of c.args.g.kind) c.requires.4),
  piece_put c.requires.0 c.args.out.now c.args.g c.requires.3 c.requires.4 c.chunk_size-size.ensures c.put_top.ensures c.put_data.ensures.1,
)
