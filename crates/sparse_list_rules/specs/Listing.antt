-- What the lister prints for an input, how it stands in a lent buffer, and what the answer says of it.
-- Assumes nothing.
use Rattle.std.specs.Prelude.{◌≡◌, Bool, true, false, cond, List, [], ◌∷◌, ◌++◌, ℕ, ◌+◌, ◌≤◌, leb, ltb, length, take, drop, Result, Ok, Err}
use Rattle.text_rules.specs.Input.{longest, partition, too_long}
use Rattle.sparse_rules.specs.declared.Chunk.{Chunk}
use Rattle.sparse_rules.specs.declared.Counts.{Counts}
use Rattle.sparse_rules.specs.Header.{header_of}
use Rattle.sparse_rules.specs.Walk.{Finding}
use Rattle.rules.specs.Answer.{refused, accepted}
use Rattle.sparse_rules.specs.Counts.{counts_of}
use Rattle.sparse_rules.specs.Judge.{judged}
use Rattle.sparse_list_rules.specs.declared.TooShort.{TooShort}
use Rattle.sparse_list_rules.specs.Lines.{refused_line, header_line, chunk_line, last_line}

-- "Each chunk, empty ones too, has a line"; the next chunk's first block comes after the blocks of this one
unfoldable pub chunk_lines : ℕ → List Chunk → List ℕ
chunk_lines first [] = []
chunk_lines first (k ∷ ks) = chunk_line first k ++ chunk_lines (first + k.blocks) ks

-- the lines of an accepted image: its header, its chunks from block 0 on, and its counts of blocks
abbrev pub image_lines : List ℕ → List Chunk → Counts → List ℕ
image_lines s ks c = header_line (header_of s) ++ (chunk_lines 0 ks ++ last_line c)

-- "a refusal `refused N at P` alone"; an accepted image its lines
unfoldable pub listing_of : List ℕ → Finding → List ℕ
listing_of s (refused n place) = refused_line n place
listing_of s (accepted ks) = image_lines s ks (counts_of ks)

-- "Longer input prints `too long` alone"; any other is judged
unfoldable pub listing : List ℕ → List ℕ
listing s =
    let found : List ℕ = listing_of s (judged s (length s) partition) in
    cond (ltb longest (length s)) too_long found

-- what the buffer then holds: as much of the text as has room, then what it held
unfoldable pub output : List ℕ → List ℕ → List ℕ
output s out = take (length out) (listing s) ++ drop (length (listing s)) out

-- how a text stands in a buffer
pub record Held : Type 0 where
  -- the text's length, inside the buffer or not
  pub long : ℕ
  -- whether the buffer holds it whole
  pub whole : Bool

-- the lister's answer: `Ok` a text that the buffer holds whole, `Err` one that it does not, each with the text's length
abbrev pub held_of : Result ℕ TooShort → Held
held_of (Ok n) = record { long = n; whole = true }
held_of (Err e) = record { long = e.needs; whole = false }

-- how the text of an input stands in a buffer with room for so many bytes
unfoldable pub held : List ℕ → ℕ → Held
held s room = record { long = length (listing s); whole = leb (length (listing s)) room }

-- a length that no text passes
abbrev pub most : ℕ
most = 327744

-- a buffer of that length holds every text whole
abbrev pub AlwaysWhole : Type 0
AlwaysWhole = (s : List ℕ) (room : ℕ) → most ≤ room → (held s room).whole ≡ true
