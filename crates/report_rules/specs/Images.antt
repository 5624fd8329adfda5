-- What one judged image adds to a report.
-- Assumes nothing.
use Rattle.std.specs.Prelude.{cond, List, ℕ, ◌+◌, ◌*◌, eqb, length}
use Rattle.rules.specs.Answer.{Answer, accepted, refused}
use Rattle.sparse_rules.specs.declared.Counts.{Counts}
use Rattle.sparse_rules.specs.Header.{block_size, total_blocks}
use Rattle.sparse_rules.specs.Answers.{answer}

-- an image, and the length of the partition that it is judged for
pub record Item : Type 0 where
  pub image : List ℕ
  pub room : ℕ

-- the judge's answer to it
unfoldable pub answer_to : Item → Answer Counts
answer_to x = answer x.image (length x.image) x.room

-- "images accepted": 1 for an accepted image
unfoldable pub accepted_by : Answer Counts → ℕ
accepted_by (accepted c) = 1
accepted_by (refused n place) = 0

-- "blocks .. written"
unfoldable pub blocks_by : Answer Counts → ℕ
blocks_by (accepted c) = c.written
blocks_by (refused n place) = 0

-- "blocks skipped (don't care and unknown)"
unfoldable pub skipped_by : Answer Counts → ℕ
skipped_by (accepted c) = c.dont_care + c.unknown
skipped_by (refused n place) = 0

-- "how many got each refusal number": 1 for an image that is refused with the number
unfoldable pub refused_by : ℕ → Answer Counts → ℕ
refused_by m (accepted c) = 0
refused_by m (refused n place) = cond (eqb n m) 1 0

-- "bytes written": the blocks written, of the image's block size
unfoldable pub bytes_by : List ℕ → Answer Counts → ℕ
bytes_by s a = blocks_by a * block_size s

-- "total × block size of an accepted image", 0 for a refused one
unfoldable pub extent_by : List ℕ → Answer Counts → ℕ
extent_by s a = accepted_by a * (total_blocks s * block_size s)
