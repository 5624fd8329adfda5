-- A chunk in the parts that are put one after the other.
-- Assumes nothing.
use Rattle.std.specs.Prelude.{List, [], ◌∷◌, ◌++◌, ℕ, ◌+◌, ◌*◌}
use Rattle.fields_rules.specs.Number.{bytes}
use Rattle.sparse_write_rules.specs.Kinds.{BlockKind, kept, raw, fill}
use Rattle.sparse_write_rules.specs.Runs.{Run}
use Rattle.sparse_write_rules.specs.Encode.{chunk_type, chunk_size, chunk_header}

-- what every chunk of a kind has after its header: fill its 4 bytes, the others nothing
abbrev pub chunk_word : BlockKind → List ℕ
chunk_word kept = []
chunk_word raw = []
chunk_word (fill w) = bytes 4 w

-- the beginning of a chunk of a kind, by its blocks and its total size: its header and these
unfoldable pub chunk_top : BlockKind → ℕ → ℕ → List ℕ
chunk_top kind k total = chunk_header (chunk_type kind) k total ++ chunk_word kind

-- and what comes after that: the raw data
abbrev pub chunk_rest : BlockKind → List ℕ → List ℕ
chunk_rest kept xs = []
chunk_rest raw xs = xs
chunk_rest (fill w) xs = []

-- how long the chunks of runs of blocks of b bytes are together
abbrev pub sizes : ℕ → List (Run BlockKind) → ℕ
sizes b [] = 0
sizes b (r ∷ rs) = chunk_size r.kind (r.many * b) + sizes b rs
