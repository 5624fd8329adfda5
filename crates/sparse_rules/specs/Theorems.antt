-- Theorems about images: what an accepted one adds up to, that more room changes nothing, what the checksum decides, that a
-- chunk says whether its type is known, and which numbers refusals have.
-- Assumes nothing.
use Rattle.std.specs.Prelude.{◌≡◌, ◌||◌, List, ℕ, ◌+◌, ◌*◌, ◌≤◌, eqb, length}
use Rattle.rules.specs.First.{first}
use Rattle.rules.specs.Answer.{accepted, refused, number_of, HasNumber}
use Rattle.sparse_rules.specs.declared.Header.{Header}
use Rattle.sparse_rules.specs.declared.Cursor.{Cursor}
use Rattle.sparse_rules.specs.declared.Chunk.{Chunk}
use Rattle.sparse_rules.specs.Header.{block_size, total_blocks, stated_checksum, header_tests}
use Rattle.sparse_rules.specs.Chunks.{type_at, is_known, chunk, reading}
use Rattle.sparse_rules.specs.Cells.{count, cells, checksum_of}
use Rattle.sparse_rules.specs.Counts.{writes, is_dont_care, is_unknown, blocks_where, written, dont_care_of, unknown}
use Rattle.sparse_rules.specs.Judge.{structure, judged, effect}
use Rattle.sparse_rules.specs.Answers.{answer}

-- what the chunks of an accepted image add up to, for a partition with so much room
pub record Sum (s : List ℕ) (len room : ℕ) (ks : List Chunk) : Type 0 where
  -- the answer has three counts, each of what the chunks of its kinds hold: raw and fill, don't care, of a type that is not known
  pub counts : answer s len room ≡ accepted (record {
    written = blocks_where writes ks;
    dont_care = blocks_where is_dont_care ks;
    unknown = blocks_where is_unknown ks;
  })
  -- "three counts whose sum is the total: written, don't care, unknown"
  pub total : written ks + dont_care_of ks + unknown ks ≡ total_blocks s
  -- there is a cell for each byte of them
  pub bytes : length (cells s (block_size s) ks) ≡ total_blocks s * block_size s
  -- and the partition has room for all
  pub fits : total_blocks s * block_size s ≤ room
  -- the stored cells are the bytes of the blocks written
  pub stored : count (cells s (block_size s) ks) ≡ written ks * block_size s

-- every accepted image adds up
abbrev pub Sums : Type 0
Sums = (s : List ℕ) (len room : ℕ) (ks : List Chunk) → judged s len room ≡ accepted ks → Sum s len room ks

-- an image is the same for a partition with some room and for one with more
pub record Same (s : List ℕ) (room more : ℕ) : Type 0 where
  -- the same is found
  pub finding : judged s (length s) more ≡ judged s (length s) room
  -- with the same counts
  pub counted : answer s (length s) more ≡ answer s (length s) room
  -- and every byte is given the same
  pub given : effect s more ≡ effect s room

-- "It depends on the image alone, never on the partition": every accepted image is the same wherever there is more room
abbrev pub Unmoved : Type 0
Unmoved = (s : List ℕ) (room more : ℕ) (ks : List Chunk) → room ≤ more → judged s (length s) room ≡ accepted ks → Same s room more

-- what the checksum decides of an image whose header passes its tests and whose structure holds with these chunks
pub record Checked (s : List ℕ) (len room : ℕ) (ks : List Chunk) : Type 0 where
  -- "0 means that none is stated"
  pub none : stated_checksum s ≡ 0 → judged s len room ≡ accepted ks
  -- any other must be the true one
  pub differs : (stated_checksum s ≡ 0 → ⊥) → (checksum_of s (block_size s) ks ≡ stated_checksum s → ⊥) → judged s len room ≡ refused 11 24
  -- which is accepted
  pub agrees : checksum_of s (block_size s) ks ≡ stated_checksum s → judged s len room ≡ accepted ks

-- of every such image
abbrev pub Checksums : Type 0
Checksums = (s : List ℕ) (len room : ℕ) (ks : List Chunk) → first (header_tests s len room) ≡ 0 → structure s len ≡ accepted ks
    → Checked s len room ks

-- whatever else is wrong with an image that states 0, refusal 11 cannot come
abbrev pub NoneStated : Type 0
NoneStated = (s : List ℕ) (len room place : ℕ) → stated_checksum s ≡ 0 → judged s len room ≡ refused 11 place → ⊥

-- "Each chunk as read shall say whether its type is known": it is exactly where it is one of 01's three
abbrev pub TypesTold : Type 0
TypesTold = (s : List ℕ) (len : ℕ) (h : Header) (c : Cursor) (k : Chunk) (next : Cursor) → reading s len h c ≡ chunk k next
    → is_known k.kind ≡ (eqb (type_at s c.at) 0xCAC1 || eqb (type_at s c.at) 0xCAC2 || eqb (type_at s c.at) 0xCAC3)

-- no refusal has the number 0
pub record RefusalNumbers : Type 0 where
  -- of a chunk
  pub chunks : (s : List ℕ) (len : ℕ) (h : Header) (c : Cursor) → HasNumber (reading s len h c)
  -- of an image
  pub images : (s : List ℕ) (len room : ℕ) → HasNumber (judged s len room)
  -- of the judge
  pub answers : (s : List ℕ) (len room : ℕ) → HasNumber (answer s len room)

-- the judge's refusals are numbered up to 11
abbrev pub LastNumber : Type 0
LastNumber = (s : List ℕ) (len room : ℕ) → number_of (answer s len room) ≤ 11
