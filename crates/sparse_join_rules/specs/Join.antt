-- Two images made one.
-- Assumes nothing.
use Rattle.std.specs.Prelude.{Bool, List, [], ◌∷◌, ℕ, ◌+◌, ◌*◌, min, ltb, length}
use Rattle.std.proofs.Math.Option.{none, some}
use Rattle.rules.specs.Answer.{Answer}
use Rattle.sparse_rules.specs.Header.{block_size, total_blocks}
use Rattle.sparse_write_rules.specs.Blocks.{Block}
use Rattle.sparse_write_rules.specs.Encode.{encode}
use Rattle.sparse_blocks_rules.specs.Blocks.{needed, blocks}
use Rattle.sparse_blocks_rules.specs.Pairs.{each, pair_answer, left_by}

-- "the first followed by the second", at one block: the second image's where that writes it, and else the first's
abbrev pub onto : Block → Block → Block
onto x none = x
onto x (some ys) = some ys

-- and at each block, in order
unfoldable pub joined_blocks : List ℕ → List ℕ → List Block
joined_blocks s t = each onto (blocks s) (blocks t)

-- the joined image, of "equal block size and total", "compact" as our writer's: "fill where all words agree and raw elsewhere, other blocks don't care"
unfoldable pub join : List ℕ → List ℕ → List ℕ
join s t = encode (block_size s) (joined_blocks s t)

-- 17, where the geometry is the same: "total × block size over 2,147,483,648"
abbrev pub too_large : List ℕ → Bool
too_large s = ltb 2147483648 (needed s)

-- and "18 exactly when the output is too short"
abbrev pub join_tests : List ℕ → List ℕ → ℕ → List (Bool × ℕ)
join_tests s t room = (too_large s, 17) ∷ (ltb room (length (join s t)), 18) ∷ []

-- the answer, "as our writer's": the image's length
unfoldable pub answer : List ℕ → List ℕ → ℕ → Answer ℕ
answer s t room = pair_answer s t (join_tests s t room) (length (join s t))

-- what the output holds after: the image at its start, "the output past the image" as it was, and all of it "untouched" by a refusal
unfoldable pub output : List ℕ → List ℕ → List ℕ → List ℕ
output s t out = left_by (answer s t (length out)) (join s t) out

-- a caller can size its output by a length that no joining passes: by the blocks, the header, their bytes and 12 for each
abbrev pub blocks_bound : List ℕ → ℕ
blocks_bound s = 28 + needed s + 12 * total_blocks s

-- or by the two images, four times their bytes
abbrev pub bytes_bound : List ℕ → List ℕ → ℕ
bytes_bound s t = 4 * (length s + length t)

-- the lesser is enough
abbrev pub bound : List ℕ → List ℕ → ℕ
bound s t = min (blocks_bound s) (bytes_bound s t)
