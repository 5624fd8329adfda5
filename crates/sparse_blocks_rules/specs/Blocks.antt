-- The blocks of a sparse image, each stored with its bytes or kept.
-- Assumes nothing.
use Rattle.std.proofs.Math.Option.{none, some}
use Rattle.std.specs.Prelude.{List, [], ◌∷◌, ◌++◌, ℕ, zero, suc, ◌+◌, ◌*◌, length}
use Rattle.rules.specs.Answer.{accepted, refused}
use Rattle.sparse_rules.specs.declared.Kind.{Kind}
use Rattle.sparse_rules.specs.declared.Kind.TheVariants.{Raw, Fill, DontCare, Unknown}
use Rattle.sparse_rules.specs.declared.Chunk.{Chunk}
use Rattle.sparse_rules.specs.Header.{block_size, total_blocks}
use Rattle.sparse_rules.specs.Walk.{Finding}
use Rattle.sparse_rules.specs.Cells.{tab, raw_byte, fill_byte}
use Rattle.sparse_rules.specs.Judge.{judged}
use Rattle.sparse_write_rules.specs.Blocks.{Block}

-- one block of b bytes of a kind of chunk, whose data stand at a place: raw data, the 4 bytes repeated, or kept
unfoldable pub block_from : List ℕ → ℕ → Kind → ℕ → Block
block_from s b Raw at = some (tab (raw_byte s at) 0 b)
block_from s b Fill at = some (tab (fill_byte s at) 0 b)
block_from s b DontCare at = none
block_from s b Unknown at = none

-- how many bytes on the data of the chunk's next block stand: raw data one block after the other, all else in one place
abbrev pub pace : ℕ → Kind → ℕ
pace b Raw = b
pace b Fill = 0
pace b DontCare = 0
pace b Unknown = 0

-- n blocks of a kind of chunk, the data of the first of which stand at a place
unfoldable pub stretch : List ℕ → ℕ → Kind → ℕ → ℕ → List Block
stretch s b k zero at = []
stretch s b k (suc n) at = block_from s b k at ∷ stretch s b k n (at + pace b k)

-- the blocks of chunks: "Blocks lie in order from byte 0"
unfoldable pub blocks_of : List ℕ → ℕ → List Chunk → List Block
blocks_of s b [] = []
blocks_of s b (k ∷ ks) = stretch s b k.kind k.blocks k.body ++ blocks_of s b ks

-- the blocks that a finding gives; a refused image has none
unfoldable pub blocks_found : List ℕ → ℕ → Finding → List Block
blocks_found s b (accepted ks) = blocks_of s b ks
blocks_found s b (refused n place) = []

-- the room that all blocks of an image need
abbrev pub needed : List ℕ → ℕ
needed s = total_blocks s * block_size s

-- what is found of an image "judged as if the partition had room"
unfoldable pub found : List ℕ → Finding
found s = judged s (length s) (needed s)

-- the blocks of an image
unfoldable pub blocks : List ℕ → List Block
blocks s = blocks_found s (block_size s) (found s)
