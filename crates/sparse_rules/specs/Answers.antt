-- What the answers of the code say: for each case document 01's number, place and values.
-- Assumes nothing.
use Rattle.std.specs.Prelude.{List, ℕ, Result, Ok, Err}
use Rattle.sparse_rules.specs.declared.Refusal.{Refusal}
use Rattle.sparse_rules.specs.declared.Chunk.{Chunk}
use Rattle.sparse_rules.specs.declared.Cursor.{Cursor}
use Rattle.sparse_rules.specs.declared.Counts.{Counts}
use Rattle.sparse_rules.specs.Chunks.{Reading}
use Rattle.rules.specs.Answer.{Answer, accepted, refused, onward}
use Rattle.sparse_rules.specs.Walk.{Finding}
use Rattle.sparse_rules.specs.Counts.{counts_of}
use Rattle.sparse_rules.specs.Judge.{judged}

-- what a result says: accepted with its values, or the refusal's number and place. The judge's values are three counts of blocks
abbrev pub answer_of : {A : Type 0} → Result A Refusal → Answer A
answer_of (Ok x) = accepted x
answer_of (Err f) = refused f.number f.place

-- the chunk reader's answer: the chunk and the next cursor, or the refusal's number and place
abbrev pub reading_of : Result (Chunk × Cursor) Refusal → Reading
reading_of r = answer_of r

-- the answer that a finding asks for: an accepted image's is the counts of its chunks
unfoldable pub answer_for : Finding → Answer Counts
answer_for f = onward f (λ ks. accepted (counts_of ks))

-- the answer to an image of so many bytes, for a partition with so much room
unfoldable pub answer : List ℕ → ℕ → ℕ → Answer Counts
answer s len room = answer_for (judged s len room)
