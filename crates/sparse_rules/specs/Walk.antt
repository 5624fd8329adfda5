-- The walk over the chunks of a sparse image.
-- Assumes nothing.
use Rattle.std.specs.Prelude.{Bool, List, [], ◌∷◌, ℕ, zero, suc, ltb}
use Rattle.rules.specs.First.{first}
use Rattle.rules.specs.Answer.{Answer, accepted, unless, onward}
use Rattle.sparse_rules.specs.declared.Header.{Header}
use Rattle.sparse_rules.specs.declared.Cursor.{Cursor}
use Rattle.sparse_rules.specs.declared.Chunk.{Chunk}
use Rattle.sparse_rules.specs.Chunks.{reading}

-- what is found of an image: its chunks, or a refusal's number and place
abbrev pub Finding : Type 0
Finding = Answer (List Chunk)

-- a chunk before those that are found
abbrev pub more : Chunk → Finding → Finding
more k f = onward f (λ ks. accepted (k ∷ ks))

-- 9 where the sum falls short at the end, 10 where bytes remain after the last chunk
unfoldable pub end_tests : ℕ → Header → Cursor → List (Bool × ℕ)
end_tests len h c = (ltb c.first h.total, 9) ∷ (ltb c.at len, 10) ∷ []

-- the walk over so many chunks from a cursor on: "reading goes on only with a chunk"; after the last, the place is the offset after the header and all chunks
unfoldable pub walk : List ℕ → ℕ → Header → ℕ → Cursor → Finding
walk s len h zero c = unless (first (end_tests len h c)) c.at (accepted [])
walk s len h (suc n) c = onward (reading s len h c) (λ r. more r.0 (walk s len h n r.1))

-- the first chunk begins after the file header, at block 0: "Blocks lie in order from byte 0"
abbrev pub origin : Header → Cursor
origin h = record { at = h.start; first = 0 }
