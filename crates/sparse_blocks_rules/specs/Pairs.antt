-- Two images: their blocks side by side, and what is answered about both.
-- Assumes nothing.
use Rattle.std.specs.Prelude.{◌≡◌, Bool, not, ◌&&◌, List, [], ◌∷◌, ◌++◌, ℕ, eqb, length, drop, Result, Ok, Err}
use Rattle.rules.specs.First.{first}
use Rattle.rules.specs.Answer.{Answer, accepted, refused, unless, onward}
use Rattle.sparse_rules.specs.declared.Chunk.{Chunk}
use Rattle.sparse_rules.specs.Header.{block_size, total_blocks}
use Rattle.sparse_rules.specs.Walk.{Finding}
use Rattle.sparse_write_rules.specs.Blocks.{Block}
use Rattle.sparse_blocks_rules.specs.declared.PairRefusal.{PairRefusal}
use Rattle.sparse_blocks_rules.specs.declared.PairRefusal.TheVariants.{First, Second, Geometry, Space}
use Rattle.sparse_blocks_rules.specs.Blocks.{found}

-- what a rule gives for each pair of blocks, in order
unfoldable pub each : {A : Type 0} → (Block → Block → A) → List Block → List Block → List A
each f [] ys = []
each f (x ∷ xs) [] = []
each f (x ∷ xs) (y ∷ ys) = f x y ∷ each f xs ys

-- "equal block size and total"
abbrev pub same_geometry : List ℕ → List ℕ → Bool
same_geometry s t = eqb (block_size s) (block_size t) && eqb (total_blocks s) (total_blocks t)

-- refusal 17, "geometry differs", and those that come after it
abbrev pub pair_tests : List ℕ → List ℕ → List (Bool × ℕ) → List (Bool × ℕ)
pair_tests s t tests = (not (same_geometry s t), 17) ∷ tests

-- "the first image's own, the second's own", then the tests of both together, at place 0; where all pass, the number asked for
unfoldable pub pair_answer : List ℕ → List ℕ → List (Bool × ℕ) → ℕ → Answer ℕ
pair_answer s t tests n =
    onward (found s) (λ ks. onward (found t) (λ ls. unless (first (pair_tests s t tests)) 0 (accepted n)))

-- which image a refusal is of: 1 where the first is refused, 2 where only the second is, and else 0
abbrev pub image_by : Finding → Finding → ℕ
image_by (refused n place) g = 1
image_by (accepted ks) (refused n place) = 2
image_by (accepted ks) (accepted ls) = 0

-- the image that a refusal of two images is of
unfoldable pub refused_image : List ℕ → List ℕ → ℕ
refused_image s t = image_by (found s) (found t)

-- the number of a refusal of two images
abbrev pub refusal_number : PairRefusal → ℕ
refusal_number (First f) = f.number
refusal_number (Second f) = f.number
refusal_number Geometry = 17
refusal_number Space = 18

-- its place, 0 where it is of both
abbrev pub refusal_place : PairRefusal → ℕ
refusal_place (First f) = f.place
refusal_place (Second f) = f.place
refusal_place Geometry = 0
refusal_place Space = 0

-- the image that it is of, 0 where it is of both
abbrev pub refusal_image : PairRefusal → ℕ
refusal_image (First f) = 1
refusal_image (Second f) = 2
refusal_image Geometry = 0
refusal_image Space = 0

-- the code's answer: a number, or the refusal's number and place
abbrev pub answer_of : Result ℕ PairRefusal → Answer ℕ
answer_of (Ok n) = accepted n
answer_of (Err e) = refused (refusal_number e) (refusal_place e)

-- the tests of both alone: the number 0 where all pass
abbrev pub tests_of : Result (Unit {0}) PairRefusal → Answer ℕ
tests_of (Ok u) = accepted 0
tests_of (Err e) = refused (refusal_number e) (refusal_place e)

-- and the image that a refusal is of, 0 where there is none
abbrev pub image_of : {A : Type 0} → Result A PairRefusal → ℕ
image_of (Ok x) = 0
image_of (Err e) = refusal_image e

-- what an answer leaves in lent space: what is put stands at its start and "nothing past" it "is touched"; a refusal stores nothing
abbrev pub left_by : Answer ℕ → List ℕ → List ℕ → List ℕ
left_by (accepted n) put space = put ++ drop (length put) space
left_by (refused n place) put space = space

-- an image that is accepted wherever it has room
pub record Accepted (s : List ℕ) : Type 0 where
  pub ks : List Chunk
  pub is : found s ≡ accepted ks

-- two accepted images "of equal block size and total"
pub record Matched (s t : List ℕ) : Type 0 where
  pub first : Accepted s
  pub second : Accepted t
  pub block : block_size s ≡ block_size t
  pub total : total_blocks s ≡ total_blocks t
