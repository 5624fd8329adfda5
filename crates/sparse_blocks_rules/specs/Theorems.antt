-- What holds of the blocks of an image, and of the refusals of two.
-- Assumes nothing.
use Rattle.std.specs.Prelude.{◌≡◌, Bool, true, List, [], ℕ, ◌≤◌, ◌<◌, length, get_or, take, drop}
use Rattle.fields_rules.specs.Number.{Bytes}
use Rattle.rules.specs.First.{first}
use Rattle.rules.specs.Answer.{accepted, refused, unless}
use Rattle.sparse_rules.specs.Header.{block_size, total_blocks}
use Rattle.sparse_rules.specs.Judge.{judged, effect}
use Rattle.sparse_rules.specs.declared.Chunk.{Chunk}
use Rattle.sparse_rules.specs.Counts.{writes}
use Rattle.sparse_rules.specs.Facts.{Summable}
use Rattle.sparse_write_rules.specs.Blocks.{Block, block_cells, AllFit}
use Rattle.sparse_blocks_rules.specs.declared.Reader.{Reader}
use Rattle.sparse_blocks_rules.specs.Same.{same_block}
use Rattle.sparse_blocks_rules.specs.Reading.{passed_by, opened}
use Rattle.sparse_blocks_rules.specs.Beside.{remaining, Ready}
use Rattle.sparse_blocks_rules.specs.Blocks.{block_from, needed, found, blocks}
use Rattle.sparse_blocks_rules.specs.Pairs.{pair_answer, refused_image, left_by, Accepted, Matched}

-- the blocks of an accepted image
pub record Given (s : List ℕ) : Type 0 where
  -- there are as many as its header says
  pub many : length (blocks s) ≡ total_blocks s
  -- in an image of bytes each is kept, or holds as many bytes as the block size says
  pub fit : Bytes s → AllFit (block_size s) (blocks s)
  -- they are what the image gives each byte of a partition with room
  pub effects : (room : ℕ) → needed s ≤ room → effect s room ≡ block_cells (block_size s) (blocks s)
  -- and no other blocks of that size are
  pub only : Bytes s → (room : ℕ) → needed s ≤ room → (xs : List Block) → AllFit (block_size s) xs → effect s room ≡ block_cells (block_size s) xs
      → xs ≡ blocks s

-- "judged as if the partition had room"
pub record Judged : Type 0 where
  -- wherever a partition has enough room, the same is found of the image
  pub anywhere : (s : List ℕ) (room : ℕ) → needed s ≤ room → judged s (length s) room ≡ found s
  -- so its own refusals are 1 to 11 without 6, and 17 and 18 are none of them
  pub own : (s : List ℕ) (n place : ℕ) → found s ≡ refused n place → (n ≤ 11) × (n ≡ 6 → ⊥)
  -- the blocks of every accepted image are what it gives
  pub given : (s : List ℕ) → Accepted s → Given s
  -- a refused image has none
  pub none : (s : List ℕ) (n place : ℕ) → found s ≡ refused n place → blocks s ≡ []

-- what a reader of an accepted image gives
pub record ReaderGives : Type 0 where
  -- opened, it has all blocks of the image to give
  pub opens : (s : List ℕ) → Accepted s → Ready s (opened s) × (remaining s (opened s) ≡ blocks s)
  -- past any number of blocks, those after them
  pub passes : (s : List ℕ) (r : Reader) (n : ℕ) → Ready s r
      → Ready s (passed_by s r n) × (remaining s (passed_by s r n) ≡ drop n (remaining s r))

-- the first blocks of two chunks that write, whose data lie in their images, are found the same exactly where they are
pub record Compares (s t : List ℕ) (b : ℕ) (x y : Chunk) : Type 0 where
  pub sound : same_block s x t y b ≡ true → block_from s b x.kind x.body ≡ block_from t b y.kind y.body
  pub complete : block_from s b x.kind x.body ≡ block_from t b y.kind y.body → same_block s x t y b ≡ true

-- of every two such chunks, at every block size from 4 on
abbrev pub Compared : Type 0
Compared = (s t : List ℕ) (b : ℕ) (x y : Chunk) → 4 ≤ b → Summable s b x → Summable t b y → 0 < x.blocks → 0 < y.blocks
    → writes x.kind ≡ true → writes y.kind ≡ true → Compares s t b x y

-- which refusal of two images comes, whatever tests follow
pub record Ordered : Type 0 where
  -- the first image's own, whatever the second is
  pub one : (s t : List ℕ) (tests : List (Bool × ℕ)) (m n place : ℕ) → found s ≡ refused n place
      → (pair_answer s t tests m ≡ refused n place) × (refused_image s t ≡ 1)
  -- then the second's own, whatever its geometry
  pub other : (s t : List ℕ) (tests : List (Bool × ℕ)) (m n place : ℕ) → Accepted s → found t ≡ refused n place
      → (pair_answer s t tests m ≡ refused n place) × (refused_image s t ≡ 2)
  -- then 17, where block size or total differs
  pub differs : (s t : List ℕ) (tests : List (Bool × ℕ)) (m : ℕ) → Accepted s → Accepted t
      → ((block_size s ≡ block_size t) × (total_blocks s ≡ total_blocks t) → ⊥) → (pair_answer s t tests m ≡ refused 17 0) × (refused_image s t ≡ 0)
  -- and where they are the same the other tests decide
  pub same : (s t : List ℕ) (tests : List (Bool × ℕ)) (m : ℕ) → Matched s t
      → (pair_answer s t tests m ≡ unless (first tests) 0 (accepted m)) × (refused_image s t ≡ 0)
  -- an answer is accepted only where the images match
  pub only : (s t : List ℕ) (tests : List (Bool × ℕ)) (m n : ℕ) → pair_answer s t tests m ≡ accepted n → Matched s t × (n ≡ m)

-- what an answer leaves in lent space
pub record Leaves : Type 0 where
  -- what is put stands at its start
  pub start : (n : ℕ) (put space : List ℕ) → take (length put) (left_by (accepted n) put space) ≡ put
  -- "nothing past" it "is touched"
  pub past : (n : ℕ) (put space : List ℕ) (i : ℕ) → length put ≤ i → get_or (left_by (accepted n) put space) i 0 ≡ get_or space i 0
  -- a refusal stores nothing
  pub refusal : (n place : ℕ) (put space : List ℕ) → left_by (refused n place) put space ≡ space
