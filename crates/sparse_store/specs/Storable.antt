-- What the inner loop is handed: an image that the judge has accepted.
-- Assumes nothing.
use Rattle.std.specs.Prelude.{◌≡◌, List, ℕ, ◌≤◌, length}
use Rattle.sparse_rules.specs.declared.Chunk.{Chunk}
use Rattle.rules.specs.Answer.{accepted}
use Rattle.sparse_rules.specs.Counts.{written}
use Rattle.sparse_rules.specs.Judge.{judged}

-- an accepted image, for a partition with so much room, that has so many blocks to store
pub record Storable (s : List ℕ) (room count : ℕ) : Type 0 where
  pub ks : List Chunk
  pub found : judged s (length s) room ≡ accepted ks
  pub enough : count ≤ written ks
