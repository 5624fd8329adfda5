-- Bytes put into a buffer from a place on.
-- Assumes nothing.
use Rattle.std.specs.Prelude.{◌≡◌, List, ℕ, ◌+◌, min, length}
use Rattle.std.proofs.lemmas.List.Edits.{sets}

-- bytes put from a place on: a buffer before and after, and the place for what comes next
pub record Put (before : List ℕ) (at : ℕ) (bytes : List ℕ) (after : List ℕ) (next : ℕ) : Type 0 where
  -- each byte whose place lies inside is stored, and nothing else
  pub stored : after ≡ sets before at bytes
  -- the next place comes after all of them, inside or not; places end at the last one that 64 bits name
  pub past : next ≡ min (at + length bytes) 0xFFFFFFFFFFFFFFFF
