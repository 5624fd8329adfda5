-- A reader of an image's blocks, by value: what it becomes when it is opened and when blocks are passed.
-- Assumes nothing.
use Rattle.std.specs.Prelude.{cond, List, ℕ, zero, suc, ◌+◌, ◌-◌, ◌*◌, min, ltb, length}
use Rattle.rules.specs.Answer.{accepted, refused}
use Rattle.sparse_rules.specs.declared.Header.{Header}
use Rattle.sparse_rules.specs.declared.Cursor.{Cursor}
use Rattle.sparse_rules.specs.declared.Kind.TheVariants.{DontCare}
use Rattle.sparse_rules.specs.declared.Chunk.{Chunk}
use Rattle.sparse_rules.specs.Header.{header_of}
use Rattle.sparse_rules.specs.Chunks.{Reading, reading}
use Rattle.sparse_rules.specs.Walk.{origin}
use Rattle.sparse_blocks_rules.specs.declared.Reader.{Reader}
use Rattle.sparse_blocks_rules.specs.Blocks.{pace}

-- a reader, of its parts
abbrev pub standing : Header → Cursor → ℕ → Chunk → Reader
standing h c left k = record { header = h; cursor = c; left = left; chunk = k }

-- a chunk without blocks: before the first chunk, and after the last
abbrev pub nothing : Chunk
nothing = record { kind = DontCare; blocks = 0; body = 0 }

-- a chunk less its first n blocks, in an image of so many bytes: the data of the next block stand past theirs, or at the image's end
unfoldable pub less : ℕ → ℕ → Chunk → ℕ → Chunk
less len b k n = record { kind = k.kind; blocks = k.blocks - n; body = min (k.body + n * pace b k.kind) len }

-- what a reading goes on to; a refused one ends the image
abbrev pub read_or : Reading → Reader → (Chunk × Cursor → Reader) → Reader
read_or (accepted r) end go = go r
read_or (refused n place) end go = end

-- past n blocks, on to a chunk that has a block left, or to the last: so many chunks come at the cursor, after this one
unfoldable pub passed : List ℕ → Header → ℕ → Cursor → Chunk → ℕ → Reader
passed s h zero c k n = standing h c 0 (less (length s) h.block k n)
passed s h (suc left) c k n =
    cond (ltb n k.blocks) (standing h c (suc left) (less (length s) h.block k n))
    (read_or (reading s (length s) h c) (standing h c 0 nothing) (λ r. passed s h left r.1 r.0 (n - k.blocks)))

-- a reader past n blocks more
abbrev pub passed_by : List ℕ → Reader → ℕ → Reader
passed_by s r n = passed s r.header r.left r.cursor r.chunk n

-- a reader at the first block of an image
unfoldable pub opened : List ℕ → Reader
opened s = passed s (header_of s) (header_of s).chunks (origin (header_of s)) nothing 0
