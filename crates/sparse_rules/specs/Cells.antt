-- What an accepted image gives each byte of a partition, and its checksum.
-- Assumes nothing.
use Rattle.std.proofs.Math.Option
use Rattle.std.proofs.Math.Option.{Option, none, some}
use Rattle.std.specs.Prelude.{List, [], ◌∷◌, ◌++◌, map, ℕ, zero, suc, ◌+◌, ◌*◌, ◌%◌, get_or, replicate}
use Rattle.crc32_rules.specs.Crc.{crc32}
use Rattle.sparse_rules.specs.declared.Kind.{Kind}
use Rattle.sparse_rules.specs.declared.Kind.TheVariants.{Raw, Fill, DontCare, Unknown}
use Rattle.sparse_rules.specs.declared.Chunk.{Chunk}

-- f i, f (i + 1), and so on, n of them
abbrev pub tab : (ℕ → ℕ) → ℕ → ℕ → List ℕ
tab f i zero = []
tab f i (suc n) = f i ∷ tab f (suc i) n

-- raw: "The data are stored"; byte i of data that begin at a place
abbrev pub raw_byte : List ℕ → ℕ → ℕ → ℕ
raw_byte s at i = get_or s (at + i) 0

-- fill: "The 4 bytes are repeated over all its blocks"; byte i
abbrev pub fill_byte : List ℕ → ℕ → ℕ → ℕ
fill_byte s at i = get_or s (at + i % 4) 0

-- how many cells are stored
abbrev pub count : List (Option ℕ) → ℕ
count [] = 0
count (none ∷ cs) = count cs
count (some v ∷ cs) = suc (count cs)

-- the cells of n bytes of a kind of chunk, one a byte: stored with a value (`some`), or skipped and so kept (`none`)
unfoldable pub cells_by : List ℕ → Kind → ℕ → ℕ → List (Option ℕ)
cells_by s Raw at n = map some (tab (raw_byte s at) 0 n)
cells_by s Fill at n = map some (tab (fill_byte s at) 0 n)
cells_by s DontCare at n = replicate n none
cells_by s Unknown at n = replicate n none

-- the cells of a chunk, at a block size
unfoldable pub cells_of : List ℕ → ℕ → Chunk → List (Option ℕ)
cells_of s b k = cells_by s k.kind k.body (k.blocks * b)

-- the cells of chunks, in order from byte 0
unfoldable pub cells : List ℕ → ℕ → List Chunk → List (Option ℕ)
cells s b [] = []
cells s b (k ∷ ks) = cells_of s b k ++ cells s b ks

-- "skipped blocks counted as zeros"
unfoldable pub zeroed : List (Option ℕ) → List ℕ
zeroed cs = map (λ c. Option.get_or c 0) cs

-- the checksum of chunks: "It depends on the image alone, never on the partition"
unfoldable pub checksum_of : List ℕ → ℕ → List Chunk → ℕ
checksum_of s b ks = crc32 (zeroed (cells s b ks))
