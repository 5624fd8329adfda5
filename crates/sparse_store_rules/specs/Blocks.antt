-- A cut state block by block.
-- Assumes nothing.
use Rattle.std.specs.Prelude.{◌≡◌, Bool, true, false, cond, List, ℕ, zero, suc, ◌+◌, ◌*◌, ◌<◌, length, get_or, take, drop}
use Rattle.std.proofs.Math.Option.{Option, none, some}
use Rattle.sparse_rules.specs.Header.{block_size}
use Rattle.sparse_rules.specs.Judge.{effect}
use Rattle.sparse_store_rules.specs.Store.{store}

-- a cell that is stored
abbrev pub is_stored : Option ℕ → Bool
is_stored (some v) = true
is_stored none = false

-- whether an image stores block k of a partition with so much room: a block is stored whole, or not at all
unfoldable pub stores : List ℕ → ℕ → ℕ → Bool
stores s room k = is_stored (get_or (effect s room) (k * block_size s) none)

-- how many blocks it stores before block k
unfoldable pub stored_before : List ℕ → ℕ → ℕ → ℕ
stored_before s room zero = 0
stored_before s room (suc k) = stored_before s room k + cond (stores s room k) 1 0

-- block k of a partition, at a block size: "Blocks lie in order from byte 0"
abbrev pub block_at : ℕ → ℕ → List ℕ → List ℕ
block_at b k p = take b (drop (k * b) p)

-- q is the cut state of an accepted image s on p after n blocks, the next block holding the bytes js
pub record CutState (n : ℕ) (js s p q : List ℕ) : Type 0 where
  -- "the blocks stored before the cut are new"
  pub new : (k : ℕ) → stores s (length p) k ≡ true → stored_before s (length p) k < n
      → block_at (block_size s) k q ≡ block_at (block_size s) k (store s p)
  -- "that next one holds anything"
  pub next : (k : ℕ) → stores s (length p) k ≡ true → stored_before s (length p) k ≡ n → block_at (block_size s) k q ≡ js
  -- "and every other byte is as before this image": in the blocks stored after the next one
  pub after : (k : ℕ) → stores s (length p) k ≡ true → n < stored_before s (length p) k
      → block_at (block_size s) k q ≡ block_at (block_size s) k p
  -- and in the blocks that the image does not store, those past its last one included
  pub kept : (k : ℕ) → stores s (length p) k ≡ false → block_at (block_size s) k q ≡ block_at (block_size s) k p
  -- the partition's length is the same
  pub same_length : length q ≡ length p
