-- The blocks of chunks, counted by what their types say.
-- Assumes nothing.
use Rattle.std.specs.Prelude.{Bool, true, false, not, ◌&&◌, cond, List, [], ◌∷◌, ℕ, ◌+◌, ◌%◌, ◌^◌}
use Rattle.sparse_rules.specs.declared.Kind.{Kind}
use Rattle.sparse_rules.specs.declared.Kind.TheVariants.{Raw, Fill, DontCare, Unknown}
use Rattle.sparse_rules.specs.declared.Chunk.{Chunk}
use Rattle.sparse_rules.specs.declared.Counts.{Counts}
use Rattle.sparse_rules.specs.Chunks.{is_known}

-- the blocks of a raw or fill chunk are written
abbrev pub writes : Kind → Bool
writes Raw = true
writes Fill = true
writes DontCare = false
writes Unknown = false

-- those of a don't care chunk are not, and its type is known
abbrev pub is_dont_care : Kind → Bool
is_dont_care k = is_known k && not (writes k)

-- a chunk whose type is not known
abbrev pub is_unknown : Kind → Bool
is_unknown k = not (is_known k)

-- the blocks of the chunks of some kinds
unfoldable pub blocks_where : (Kind → Bool) → List Chunk → ℕ
blocks_where f [] = 0
blocks_where f (k ∷ ks) = cond (f k.kind) k.blocks 0 + blocks_where f ks

-- "blocks written (raw and fill)"
abbrev pub written : List Chunk → ℕ
written ks = blocks_where writes ks

-- 02, request 3: "don't care"
abbrev pub dont_care_of : List Chunk → ℕ
dont_care_of ks = blocks_where is_dont_care ks

-- 02, request 3: "unknown"
abbrev pub unknown : List Chunk → ℕ
unknown ks = blocks_where is_unknown ks

-- 02, request 3: "an accepted answer gives three counts": "written, don't care, unknown"
abbrev pub counts_of : List Chunk → Counts
counts_of ks = record { written = written ks; dont_care = dont_care_of ks; unknown = unknown ks }

-- the counts before the first chunk
abbrev pub no_counts : Counts
no_counts = record { written = 0; dont_care = 0; unknown = 0 }

-- counts with so many blocks more of a kind of chunk, each kept in 32 bits
unfoldable pub counted_on : Counts → Kind → ℕ → Counts
counted_on c Raw n = record { written = (c.written + n) % 2 ^ 32; dont_care = c.dont_care; unknown = c.unknown }
counted_on c Fill n = record { written = (c.written + n) % 2 ^ 32; dont_care = c.dont_care; unknown = c.unknown }
counted_on c DontCare n = record { written = c.written; dont_care = (c.dont_care + n) % 2 ^ 32; unknown = c.unknown }
counted_on c Unknown n = record { written = c.written; dont_care = c.dont_care; unknown = (c.unknown + n) % 2 ^ 32 }
