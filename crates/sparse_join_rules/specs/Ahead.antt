-- The blocks ahead of two readers, joined: some of one kind at a time.
-- Assumes nothing.
use Rattle.std.specs.Prelude.{◌≡◌, true, false, Option, List, map, ℕ, ◌≤◌, ◌<◌, replicate}
use Rattle.sparse_rules.specs.declared.Kind.TheVariants.{Raw}
use Rattle.sparse_rules.specs.declared.Chunk.{Chunk}
use Rattle.sparse_rules.specs.Counts.{writes}
use Rattle.sparse_write_rules.specs.declared.Stored.{Stored}
use Rattle.sparse_write_rules.specs.Blocks.{Block}
use Rattle.sparse_write_rules.specs.Kinds.{raw, block_kind}
use Rattle.sparse_write_rules.specs.KindOf.{kind_of}
use Rattle.sparse_blocks_rules.specs.declared.Reader.{Reader}
use Rattle.sparse_blocks_rules.specs.Blocks.{stretch}
use Rattle.sparse_blocks_rules.specs.Pairs.{each}
use Rattle.sparse_blocks_rules.specs.Beside.{ahead}
use Rattle.sparse_join_rules.specs.Join.{onto}

-- some blocks, n of them, are of one kind
pub record Alike (b : ℕ) (ps : List Block) (kind : Option Stored) (n : ℕ) : Type 0 where
  pub some : 0 < n
  pub kinds : map (block_kind b) ps ≡ replicate n (kind_of kind)

-- and they are the first of so many blocks of a chunk
pub record FirstAlike (s : List ℕ) (b : ℕ) (k : Chunk) (room : ℕ) (kind : Option Stored) (n : ℕ) : Type 0 where
  pub fits : n ≤ room
  pub alike : Alike b (stretch s b k.kind n k.body) kind n
  -- only a raw chunk has raw blocks
  pub raw : kind_of kind ≡ raw → k.kind ≡ Raw

-- the next blocks of two readers, joined
abbrev pub joined_ahead : List ℕ → List ℕ → Reader → Reader → ℕ → List Block
joined_ahead s t a b n = each onto (ahead s a n) (ahead t b n)

-- the next n of them are in both chunks and of one kind
pub record JoinedAlike (s t : List ℕ) (a b : Reader) (kind : Option Stored) (n : ℕ) : Type 0 where
  pub first : n ≤ a.chunk.blocks
  pub second : n ≤ b.chunk.blocks
  pub alike : Alike a.header.block (joined_ahead s t a b n) kind n
  -- raw ones are of a raw chunk: the second image's where that writes them, and else the first's
  pub raw_second : writes b.chunk.kind ≡ true → kind_of kind ≡ raw → b.chunk.kind ≡ Raw
  pub raw_first : writes b.chunk.kind ≡ false → kind_of kind ≡ raw → a.chunk.kind ≡ Raw
