-- The chunks of a sparse image: how one is read.
-- Assumes nothing.
use Rattle.std.specs.Prelude.{Bool, true, false, not, ◌&&◌, cond, List, [], ◌∷◌, ℕ, ◌+◌, ◌*◌, ◌%◌, leb, ltb, eqb}
use Rattle.rules.specs.First.{first}
use Rattle.rules.specs.Answer.{Answer, accepted, unless}
use Rattle.fields_rules.specs.Number.{number_at}
use Rattle.sparse_rules.specs.declared.Header.{Header}
use Rattle.sparse_rules.specs.declared.Cursor.{Cursor}
use Rattle.sparse_rules.specs.declared.Kind.{Kind}
use Rattle.sparse_rules.specs.declared.Kind.TheVariants.{Raw, Fill, DontCare, Unknown}
use Rattle.sparse_rules.specs.declared.Chunk.{Chunk}

-- chunk at 0 (2): type; the two bytes after it are reserved and ignored
abbrev pub type_at : List ℕ → ℕ → ℕ
type_at s at = number_at s at 2

-- chunk at 4 (4): size in blocks
abbrev pub blocks_at : List ℕ → ℕ → ℕ
blocks_at s at = number_at s (at + 4) 4

-- chunk at 8 (4): total size in bytes, header included
abbrev pub size_at : List ℕ → ℕ → ℕ
size_at s at = number_at s (at + 8) 4

-- 0xCAC1 raw, 0xCAC2 fill, 0xCAC3 don't care, any other type unknown
unfoldable pub kind_of : ℕ → Kind
kind_of t = cond (eqb t 0xCAC1) Raw (cond (eqb t 0xCAC2) Fill (cond (eqb t 0xCAC3) DontCare Unknown))

-- 02, request 3: "Each chunk as read shall say whether its type is known": it is, unless the chunk's kind is `Unknown`
abbrev pub is_known : Kind → Bool
is_known Raw = true
is_known Fill = true
is_known DontCare = true
is_known Unknown = false

-- the total size that each kind of chunk must have
unfoldable pub size_right : Header → Kind → ℕ → ℕ → Bool
size_right h Raw blocks size = eqb size (h.head + blocks * h.block)
size_right h Fill blocks size = eqb size (h.head + 4)
size_right h DontCare blocks size = eqb size h.head
size_right h Unknown blocks size = leb h.head size && eqb (size % 4) 0

-- refusals 7, 8, 7 and 9 of the chunk at a cursor: "Chunks are tested in order, each fully before the next"
unfoldable pub chunk_tests : List ℕ → ℕ → Header → Cursor → List (Bool × ℕ)
chunk_tests s len h c =
    (ltb len (c.at + h.head), 7)
    ∷ (not (size_right h (kind_of (type_at s c.at)) (blocks_at s c.at) (size_at s c.at)), 8)
    ∷ (ltb len (c.at + size_at s c.at), 7)
    ∷ (ltb h.total (c.first + blocks_at s c.at), 9)
    ∷ []

-- the chunk at a cursor: its data stand after the chunk header, of the size that the file header states
unfoldable pub chunk_at : List ℕ → Header → Cursor → Chunk
chunk_at s h c = record { kind = kind_of (type_at s c.at); blocks = blocks_at s c.at; body = c.at + h.head }

-- the cursor after it: past its total size, and past its blocks
abbrev pub next_cursor : List ℕ → Cursor → Cursor
next_cursor s c = record { at = c.at + size_at s c.at; first = c.first + blocks_at s c.at }

-- "Each chunk header is either a chunk or a refusal": the chunk with the cursor after it, or a refusal's number and place
abbrev pub Reading : Type 0
Reading = Answer (Chunk × Cursor)

-- a chunk that is read, and the cursor after it
abbrev pub chunk : Chunk → Cursor → Reading
chunk k next = accepted (k, next)

-- what reading the chunk at a cursor gives; "the chunk's offset for 7, 8 and a passed total"
unfoldable pub reading : List ℕ → ℕ → Header → Cursor → Reading
reading s len h c = unless (first (chunk_tests s len h c)) c.at (chunk (chunk_at s h c) (next_cursor s c))
