-- The sparse image of blocks.
-- Assumes nothing.
use Rattle.std.specs.Prelude.{List, [], ◌∷◌, ◌++◌, map, ℕ, ◌+◌, ◌*◌, length}
use Rattle.fields_rules.specs.Number.{bytes, packed}
use Rattle.crc32_rules.specs.Crc.{crc32}
use Rattle.sparse_rules.specs.Cells.{tab, raw_byte, zeroed}
use Rattle.sparse_write_rules.specs.Blocks.{Block, block_cells}
use Rattle.sparse_write_rules.specs.Kinds.{BlockKind, kept, raw, fill, same_kind, block_kind}
use Rattle.sparse_write_rules.specs.Runs.{Run, runs}

-- the type of a chunk of a kind: don't care, raw, fill
abbrev pub chunk_type : BlockKind → ℕ
chunk_type kept = 0xCAC3
chunk_type raw = 0xCAC1
chunk_type (fill w) = 0xCAC2

-- the total size in bytes of a chunk of a kind over n bytes of blocks, its header of 12 included
abbrev pub chunk_size : BlockKind → ℕ → ℕ
chunk_size kept n = 12
chunk_size raw n = 12 + n
chunk_size (fill w) n = 12 + 4

-- what follows the header of a chunk of a kind whose blocks hold these bytes: nothing, the raw data, or the 4 bytes to repeat
abbrev pub chunk_data : BlockKind → List ℕ → List ℕ
chunk_data kept xs = []
chunk_data raw xs = xs
chunk_data (fill w) xs = bytes 4 w

-- a chunk header: type, "reserved 0", size in blocks, total size in bytes
unfoldable pub chunk_header : ℕ → ℕ → ℕ → List ℕ
chunk_header type k total = packed ((2, type) ∷ (2, 0) ∷ (4, k) ∷ (4, total) ∷ [])

-- the chunk of k blocks of a kind that hold these bytes
unfoldable pub chunk : BlockKind → ℕ → List ℕ → List ℕ
chunk kind k xs = chunk_header (chunk_type kind) k (chunk_size kind (length xs)) ++ chunk_data kind xs

-- a chunk for each run of blocks of b bytes, which stand from a place of d on
unfoldable pub chunks : ℕ → List ℕ → ℕ → List (Run BlockKind) → List ℕ
chunks b d at [] = []
chunks b d at (r ∷ rs) = chunk r.kind r.many (tab (raw_byte d at) 0 (r.many * b)) ++ chunks b d (at + r.many * b) rs

-- magic, "version 1.0", "Header sizes are 28 and 12"
unfoldable pub version : List ℕ
version = packed ((4, 0xED26FF3A) ∷ (2, 1) ∷ (2, 0) ∷ (2, 28) ∷ (2, 12) ∷ [])

-- the file header: these, and block size, total blocks, total chunks, checksum
unfoldable pub header : ℕ → ℕ → ℕ → ℕ → List ℕ
header b total count sum = version ++ packed ((4, b) ∷ (4, total) ∷ (4, count) ∷ (4, sum) ∷ [])

-- the image of blocks of these kinds with these bytes, with its true number of chunks and its true checksum
unfoldable pub image : ℕ → List BlockKind → List ℕ → List ℕ
image b ks d = header b (length ks) (length (runs same_kind ks)) (crc32 d) ++ chunks b d 0 (runs same_kind ks)

-- the image of blocks: "neighbouring raw blocks share one chunk, neighbouring fill blocks with the same word share one chunk", and so do kept ones
unfoldable pub encode : ℕ → List Block → List ℕ
encode b xs = image b (map (block_kind b) xs) (zeroed (block_cells b xs))
