-- Blocks, each stored with its bytes or kept, and the cells that they are.
-- Assumes nothing.
use Rattle.std.specs.Prelude.{◌≡◌, true, List, [], ◌∷◌, ◌++◌, map, ℕ, zero, suc, ◌+◌, ◌*◌, ◌/◌, ◌≤◌, length, replicate}
use Rattle.std.proofs.Math.Option.{Option, none, some}
use Rattle.fields_rules.specs.Number.{Bytes}
use Rattle.sparse_rules.specs.Header.{block_size_right}
use Rattle.sparse_rules.specs.Cells.{tab, raw_byte}

-- a block: its bytes where it is stored, `none` where it is kept
abbrev pub Block : Type 0
Block = Option (List ℕ)

-- the cells of a block, at a block size
abbrev pub cells_of_block : ℕ → Block → List (Option ℕ)
cells_of_block b none = replicate b none
cells_of_block b (some xs) = map some xs

-- the cells of blocks: "Blocks lie in order from byte 0"
unfoldable pub block_cells : ℕ → List Block → List (Option ℕ)
block_cells b [] = []
block_cells b (x ∷ xs) = cells_of_block b x ++ block_cells b xs

-- n blocks of flat data from a place on, all of them stored
unfoldable pub blocks_from : List ℕ → ℕ → ℕ → ℕ → List Block
blocks_from d b zero at = []
blocks_from d b (suc n) at = some (tab (raw_byte d at) 0 b) ∷ blocks_from d b n (at + b)

-- the blocks of flat data: all are stored, "since flat data hold no such knowledge" as don't care
unfoldable pub flat_blocks : List ℕ → ℕ → List Block
flat_blocks d b = blocks_from d b (length d / b) 0

-- a stored block is as many bytes as the block size says
abbrev pub Fits : ℕ → Block → Type 0
Fits b none = Unit {0}
Fits b (some xs) = (length xs ≡ b) × Bytes xs

-- and so are all
abbrev pub AllFit : ℕ → List Block → Type 0
AllFit b [] = Unit {0}
AllFit b (x ∷ xs) = Fits b x × AllFit b xs

-- blocks that an image can hold: the block size is right, each block fits it, and there are no more than flat input may have
pub record Whole (b : ℕ) (xs : List Block) : Type 0 where
  pub right : block_size_right b ≡ true
  pub fit : AllFit b xs
  pub small : length xs * b ≤ 2147483648
