-- What becomes of a block: kept, stored raw, or filled with a word.
-- Assumes nothing.
use Rattle.std.specs.Prelude.{Bool, true, false, ◌&&◌, cond, List, ℕ, zero, suc, ◌+◌, ◌/◌, eqb}
use Rattle.std.proofs.Math.Option.{none, some}
use Rattle.fields_rules.specs.Number.{number_at}
use Rattle.sparse_write_rules.specs.Blocks.{Block}

-- the kind of a block: don't care, raw, or fill with a word
pub data BlockKind : Type 0 where
  kept : BlockKind
  raw : BlockKind
  fill : ℕ → BlockKind

-- blocks of the same kind can share a chunk: kept ones, raw ones, "fill blocks with the same word"
abbrev pub same_kind : BlockKind → BlockKind → Bool
same_kind kept kept = true
same_kind kept raw = false
same_kind kept (fill w) = false
same_kind raw kept = false
same_kind raw raw = true
same_kind raw (fill w) = false
same_kind (fill v) kept = false
same_kind (fill v) raw = false
same_kind (fill v) (fill w) = eqb v w

-- each of n words from byte i on is w
unfoldable pub all_equal : List ℕ → ℕ → ℕ → ℕ → Bool
all_equal d w zero i = true
all_equal d w (suc n) i = eqb (number_at d i 4) w && all_equal d w n (i + 4)

-- "A block whose 4-byte words are all equal becomes fill, any other raw": the kind of a stored block of b bytes at a place
unfoldable pub stored_kind : List ℕ → ℕ → ℕ → BlockKind
stored_kind d b at = cond (all_equal d (number_at d at 4) (b / 4) at) (fill (number_at d at 4)) raw

-- the kind of any block
abbrev pub block_kind : ℕ → Block → BlockKind
block_kind b none = kept
block_kind b (some xs) = stored_kind xs b 0
