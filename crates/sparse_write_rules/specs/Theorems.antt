-- What holds of runs, of an image that is encoded from blocks, and of one that is written from flat data.
-- Assumes nothing.
use Rattle.std.specs.Prelude.{◌≡◌, Bool, true, false, List, ◌++◌, map, ℕ, ◌+◌, ◌*◌, ◌/◌, ◌≤◌, length, take, drop}
use Rattle.fields_rules.specs.Number.{number_at, Bytes}
use Rattle.crc32_rules.specs.Crc.{crc32}
use Rattle.rules.specs.Answer as rules
use Rattle.sparse_rules.specs.declared.Kind.{Kind}
use Rattle.sparse_rules.specs.declared.Kind.TheVariants.{Raw, Fill, DontCare, Unknown}
use Rattle.sparse_rules.specs.declared.Chunk.{Chunk}
use Rattle.sparse_rules.specs.Header.{block_size, total_blocks, stated_checksum, block_size_right}
use Rattle.rules.specs.Answer.{accepted}
use Rattle.sparse_rules.specs.Cells.{cells, checksum_of}
use Rattle.sparse_rules.specs.Counts.{unknown}
use Rattle.sparse_rules.specs.Judge.{judged, effect}
use Rattle.sparse_rules.specs.Answers as judge
use Rattle.sparse_store_rules.specs.Store.{store}
use Rattle.sparse_write_rules.specs.Blocks.{Block, block_cells, Whole}
use Rattle.sparse_write_rules.specs.Kinds.{BlockKind, kept, raw, fill, same_kind, block_kind}
use Rattle.sparse_write_rules.specs.Runs.{Tells, Run, runs, spread, Longest}
use Rattle.sparse_write_rules.specs.Encode.{encode}
use Rattle.sparse_write_rules.specs.Write.{flat_image, length_wrong, answer, output, bound}

-- the runs of a list, by any test of equality
pub record Grouped : Type 1 where
  -- they cover the list, in order
  pub cover : {A : Type 0} (same : A → A → Bool) → Tells same → (ks : List A) → spread (runs same ks) ≡ ks
  -- "Runs are as long as they can be": none is empty, and no two neighbours could be one
  pub longest : {A : Type 0} (same : A → A → Bool) → Tells same → (ks : List A) → Longest (runs same ks)

-- the kind of blocks that a chunk stands for, whose data stand at a place of the image
abbrev pub chunk_kind : List ℕ → Kind → ℕ → BlockKind
chunk_kind s Raw at = raw
chunk_kind s Fill at = fill (number_at s at 4)
chunk_kind s DontCare at = kept
chunk_kind s Unknown at = kept

-- a chunk that is read, as a run of blocks of its kind
abbrev pub run_of : List ℕ → Chunk → Run BlockKind
run_of s k = record { kind = chunk_kind s k.kind k.body; many = k.blocks }

-- an image s that reads back as blocks of b bytes, judged for a partition with so much room
pub record ReadsAs (s : List ℕ) (b : ℕ) (xs : List Block) (room : ℕ) : Type 0 where
  -- it is accepted, with these chunks
  pub ks : List Chunk
  pub found : judged s (length s) room ≡ accepted ks
  -- its header states the block size and how many blocks there are
  pub states : (block_size s ≡ b) × (total_blocks s ≡ length xs)
  -- and the true checksum
  pub sums : stated_checksum s ≡ checksum_of s b ks
  -- none is of an unknown type
  pub known : unknown ks ≡ 0
  -- their cells are the blocks' own
  pub cells_are : cells s b ks ≡ block_cells b xs
  -- so the image gives each byte what the blocks give it
  pub gives : effect s room ≡ block_cells b xs
  -- its chunks are the runs of blocks of one kind
  pub chunks_are : map (run_of s) ks ≡ runs same_kind (map (block_kind b) xs)
  -- "Runs are as long as they can be": no chunk is empty, and no two neighbours could be one
  pub longest : Longest (map (run_of s) ks)

-- the image of blocks
pub record Encoded : Type 0 where
  -- it is bytes
  pub bytes : (b : ℕ) (xs : List Block) → Whole b xs → Bytes (encode b xs)
  -- and reads back as these blocks, wherever there is room for them
  pub reads : (b : ℕ) (xs : List Block) (room : ℕ) → Whole b xs → length xs * b ≤ room → ReadsAs (encode b xs) b xs room

-- no two lists of blocks have one image, or images that do the same
pub record Unique : Type 0 where
  pub images : (b c : ℕ) (xs ys : List Block) → Whole b xs → Whole c ys → encode b xs ≡ encode c ys → (b ≡ c) × (xs ≡ ys)
  pub effects : (b : ℕ) (xs ys : List Block) (room : ℕ) → Whole b xs → Whole b ys → length xs * b ≤ room → length ys * b ≤ room
      → effect (encode b xs) room ≡ effect (encode b ys) room → xs ≡ ys

-- how long an image can be
pub record Bounded : Type 0 where
  -- the image of blocks: its header, their bytes, and 12 bytes for each
  pub encoded : (b : ℕ) (xs : List Block) → Whole b xs → length (encode b xs) ≤ 28 + length xs * b + 12 * length xs
  -- the length that the writer answers
  pub written : (d : List ℕ) (b room n : ℕ) → Bytes d → answer d b room ≡ rules.accepted n → n ≤ bound (length d) b
  -- an output of the bound's length is never too short
  pub enough : (d : List ℕ) (b room : ℕ) → Bytes d → block_size_right b ≡ true → length_wrong (length d) b ≡ false → bound (length d) b ≤ room
      → answer d b room ≡ rules.accepted (length (flat_image d b))

-- an image s of flat data d on a partition p: "gives that data again and touches no byte beyond it"
pub record GivesBack (d : List ℕ) (b : ℕ) (s p : List ℕ) : Type 0 where
  -- it is accepted, with all blocks written, none don't care and none unknown
  pub answers : judge.answer s (length s) (length p) ≡ rules.accepted (record { written = length d / b; dont_care = 0; unknown = 0 })
  -- the flat data stand at the start, and every byte beyond them is as before
  pub leaves : store s p ≡ d ++ drop (length d) p

-- "An image written from flat data, read back onto any partition with room, gives that data again and touches no byte beyond it"
pub record RoundTrip : Type 0 where
  -- flat data of whole blocks of a right size, and not too long, are written to an output with room for their image
  pub writes : (d : List ℕ) (b room : ℕ) → block_size_right b ≡ true → length_wrong (length d) b ≡ false → length (flat_image d b) ≤ room
      → answer d b room ≡ rules.accepted (length (flat_image d b))
  -- and where n bytes are written, these are an image that gives the flat data back
  pub returns : (d : List ℕ) (b : ℕ) (out : List ℕ) (n : ℕ) (p : List ℕ) → Bytes d → answer d b (length out) ≡ rules.accepted n
      → length d ≤ length p → GivesBack d b (take n (output d b out)) p

-- "Our writer goes on stating the true one": where n bytes are written, they state the checksum of the flat data, whatever it is
abbrev pub TrueChecksum : Type 0
TrueChecksum = (d : List ℕ) (b : ℕ) (out : List ℕ) (n : ℕ) → Bytes d → answer d b (length out) ≡ rules.accepted n
    → stated_checksum (take n (output d b out)) ≡ crc32 d

-- no refusal of the writer has the number 0
abbrev pub RefusalNumbers : Type 0
RefusalNumbers = (d : List ℕ) (b room : ℕ) → rules.HasNumber (answer d b room)
