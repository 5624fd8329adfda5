-- What is known of a header that passes its tests, of a chunk that is read, and of an image that is accepted.
-- Assumes nothing.
use Rattle.std.specs.Prelude.{◌≡◌, List, [], ◌∷◌, ℕ, ◌+◌, ◌*◌, ◌%◌, ◌≤◌, length}
use Rattle.rules.specs.First.{first}
use Rattle.sparse_rules.specs.declared.Header.{Header}
use Rattle.sparse_rules.specs.declared.Cursor.{Cursor}
use Rattle.sparse_rules.specs.declared.Kind.{Kind}
use Rattle.sparse_rules.specs.declared.Kind.TheVariants.{Raw, Fill, DontCare, Unknown}
use Rattle.sparse_rules.specs.declared.Chunk.{Chunk}
use Rattle.sparse_rules.specs.Header.{header_of, block_size, stated_checksum}
use Rattle.sparse_rules.specs.Chunks.{chunk_at, next_cursor}
use Rattle.rules.specs.Answer.{accepted}
use Rattle.sparse_rules.specs.Cells.{checksum_of}
use Rattle.sparse_rules.specs.Judge.{sum_tests, structure}

-- a header that passes refusals 1 to 6, of an input of so many bytes for a partition with so much room
pub record HeaderFacts (h : Header) (len room : ℕ) : Type 0 where
  -- the known fields stand in the input
  pub known : 28 ≤ len
  -- the file header is at least 28 bytes long
  pub start_least : 28 ≤ h.start
  -- a multiple of 4
  pub start_fours : h.start % 4 ≡ 0
  -- and stands in the input
  pub start_inside : h.start ≤ len
  -- a chunk header is at least 12 bytes long
  pub head_least : 12 ≤ h.head
  -- and a multiple of 4
  pub head_fours : h.head % 4 ≡ 0
  -- a block is at least 4 bytes long
  pub block_least : 4 ≤ h.block
  -- at most 65,536
  pub block_most : h.block ≤ 65536
  -- and a multiple of 4
  pub block_fours : h.block % 4 ≡ 0
  -- all blocks have room in the partition
  pub fits : h.total * h.block ≤ room

-- the bytes of data that a chunk's header says follow it: raw all of its blocks, fill 4; at least none for the others
abbrev pub data_bytes : Kind → ℕ → ℕ → ℕ
data_bytes Raw blocks b = blocks * b
data_bytes Fill blocks b = 4
data_bytes DontCare blocks b = 0
data_bytes Unknown blocks b = 0

-- the data of all chunks lie in the image, at a block size
abbrev pub Complete : List ℕ → ℕ → List Chunk → Type 0
Complete s b [] = Unit {0}
Complete s b (k ∷ ks) = (k.body + data_bytes k.kind k.blocks b ≤ length s) × Complete s b ks

-- a chunk that is read at a cursor, and the cursor after it
pub record ChunkFacts (s : List ℕ) (len : ℕ) (h : Header) (c : Cursor) (k : Chunk) (next : Cursor) : Type 0 where
  -- it is the chunk that stands there
  pub is : k ≡ chunk_at s h c
  -- and the cursor after it is past its size and its blocks
  pub then : next ≡ next_cursor s c
  -- its data begin after its header
  pub body : k.body ≡ c.at + h.head
  -- its header lies in it
  pub header_inside : k.body ≤ next.at
  -- and so do its data
  pub data_inside : k.body + data_bytes k.kind k.blocks h.block ≤ next.at
  -- and it lies in the input
  pub inside : next.at ≤ len
  -- the next chunk's blocks begin after its own
  pub blocks : next.first ≡ c.first + k.blocks
  -- which do not pass the total
  pub within : next.first ≤ h.total

-- an image that is accepted
pub record AcceptedFacts (s : List ℕ) (len room : ℕ) (ks : List Chunk) : Type 0 where
  -- its header passes its tests
  pub header : HeaderFacts (header_of s) len room
  -- its structure holds, and has these chunks
  pub chunks : structure s len ≡ accepted ks
  -- it passes the checksum's test
  pub tested : first (sum_tests s ks) ≡ 0
  -- so the checksum that it states, unless that is 0, is the true one
  pub checksum : (stated_checksum s ≡ 0 → ⊥) → checksum_of s (block_size s) ks ≡ stated_checksum s

-- a chunk whose cells the checksum can go over, at a block size
pub record Summable (s : List ℕ) (b : ℕ) (k : Chunk) : Type 0 where
  -- the block size keeps its rule
  pub most : b ≤ 65536
  pub fours : b % 4 ≡ 0
  -- the chunk's data lie in the image
  pub inside : k.body + data_bytes k.kind k.blocks b ≤ length s
