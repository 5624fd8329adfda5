-- The file header of a sparse image: its fields, and the tests that it must pass.
-- Assumes nothing.
use Rattle.std.specs.Prelude.{Bool, not, ◌&&◌, List, [], ◌∷◌, ℕ, ◌*◌, ◌%◌, leb, ltb, eqb}
use Rattle.fields_rules.specs.Number.{number_at}
use Rattle.sparse_rules.specs.declared.Header.{Header}

-- header at 0 (4): magic
abbrev pub magic : List ℕ → ℕ
magic s = number_at s 0 4

-- header at 4 (2): major; the minor at 6 (2) may be any
abbrev pub major : List ℕ → ℕ
major s = number_at s 4 2

-- header at 8 (2): file header size
abbrev pub file_header_size : List ℕ → ℕ
file_header_size s = number_at s 8 2

-- header at 10 (2): chunk header size
abbrev pub chunk_header_size : List ℕ → ℕ
chunk_header_size s = number_at s 10 2

-- header at 12 (4): block size
abbrev pub block_size : List ℕ → ℕ
block_size s = number_at s 12 4

-- header at 16 (4): total blocks
abbrev pub total_blocks : List ℕ → ℕ
total_blocks s = number_at s 16 4

-- header at 20 (4): total chunks
abbrev pub total_chunks : List ℕ → ℕ
total_chunks s = number_at s 20 4

-- header at 24 (4): checksum
abbrev pub stated_checksum : List ℕ → ℕ
stated_checksum s = number_at s 24 4

-- the fields by which the chunks are read; the first chunk stands after the file header, of the size that it states
abbrev pub header_of : List ℕ → Header
header_of s =
    record {
      block = block_size s;
      total = total_blocks s;
      chunks = total_chunks s;
      checksum = stated_checksum s;
      start = file_header_size s;
      head = chunk_header_size s;
    }

-- "File header size is at least 28, chunk header size at least 12, both multiples of 4"
abbrev pub header_size_right : ℕ → ℕ → Bool
header_size_right least n = leb least n && eqb (n % 4) 0

-- "Block size is a multiple of 4 from 4 to 65,536"
abbrev pub block_size_right : ℕ → Bool
block_size_right b = leb 4 b && leb b 65536 && eqb (b % 4) 0

-- refusals 1 to 6, of an input of so many bytes for a partition with so much room
unfoldable pub header_tests : List ℕ → ℕ → ℕ → List (Bool × ℕ)
header_tests s len room =
    (ltb len 28, 1)
    ∷ (not (eqb (magic s) 0xED26FF3A), 2)
    ∷ (not (eqb (major s) 1), 3)
    ∷ (not (header_size_right 28 (file_header_size s) && header_size_right 12 (chunk_header_size s) && leb (file_header_size s) len), 4)
    ∷ (not (block_size_right (block_size s)), 5)
    ∷ (ltb room (total_blocks s * block_size s), 6)
    ∷ []
