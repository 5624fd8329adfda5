-- Readers of images that are accepted: what they have still to give, and two of them side by side.
-- Assumes nothing.
use Rattle.std.specs.Prelude.{◌≡◌, List, [], ◌++◌, ℕ, ◌+◌, ◌*◌, ◌≤◌, ◌<◌, length}
use Rattle.rules.specs.Answer.{accepted}
use Rattle.sparse_rules.specs.declared.Chunk.{Chunk}
use Rattle.sparse_rules.specs.Walk.{walk}
use Rattle.sparse_rules.specs.Facts.{Summable}
use Rattle.sparse_write_rules.specs.Blocks.{Block}
use Rattle.sparse_blocks_rules.specs.declared.Reader.{Reader}
use Rattle.sparse_blocks_rules.specs.Blocks.{block_from, pace, stretch, blocks_found}

-- the blocks that a reader has still to give: those left of its chunk, and those of the chunks after it
unfoldable pub remaining : List ℕ → Reader → List Block
remaining s r =
    stretch s r.header.block r.chunk.kind r.chunk.blocks r.chunk.body
    ++ blocks_found s r.header.block (walk s (length s) r.header r.left r.cursor)

-- the first n blocks of the chunk that is being read
abbrev pub ahead : List ℕ → Reader → ℕ → List Block
ahead s r n = stretch s r.header.block r.chunk.kind n r.chunk.body

-- a reader of an image whose structure holds
pub record Reads (s : List ℕ) (r : Reader) : Type 0 where
  -- the chunks after the one that is being read
  pub ks : List Chunk
  pub walked : walk s (length s) r.header r.left r.cursor ≡ accepted ks
  -- the data of what is left of that one lie in the image
  pub here : Summable s r.header.block r.chunk
  -- and a block is 4 bytes long at least
  pub least : 4 ≤ r.header.block

-- and that stands in a chunk that has a block, unless none is left
pub record Ready (s : List ℕ) (r : Reader) : Type 0 where
  pub reads : Reads s r
  pub settled : r.chunk.blocks ≡ 0 → remaining s r ≡ []

-- readers of two images that have as many blocks left, of one size
pub record Beside (s t : List ℕ) (a b : Reader) : Type 0 where
  -- each stands in a chunk that has a block, unless none is left
  pub first : Ready s a
  pub second : Ready t b
  -- the blocks of both are of one size
  pub size : a.header.block ≡ b.header.block
  -- and as many are left
  pub long : length (remaining t b) ≡ length (remaining s a)

-- the first n blocks in both chunks, to each pair of which a rule gives this kind
pub record InFront {A : Type 0} (f : Block → Block → A) (s t : List ℕ) (a b : Reader) (kind : A) (n : ℕ) : Type 0 where
  -- there are some
  pub some : 0 < n
  -- both chunks have them
  pub first : n ≤ a.chunk.blocks
  pub second : n ≤ b.chunk.blocks
  -- and each pair is of the kind
  pub alike : (j : ℕ) → j < n
      → f (block_from s a.header.block a.chunk.kind (a.chunk.body + j * pace a.header.block a.chunk.kind))
      (block_from t b.header.block b.chunk.kind (b.chunk.body + j * pace b.header.block b.chunk.kind)) ≡ kind
