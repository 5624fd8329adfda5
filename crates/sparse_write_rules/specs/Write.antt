-- What the writer of flat data answers, and what it leaves in its output.
-- Assumes nothing.
use Rattle.std.specs.Prelude.{Bool, not, ◌||◌, List, [], ◌∷◌, ◌++◌, ℕ, ◌+◌, ◌*◌, ◌/◌, ◌%◌, ltb, eqb, length, drop, Result}
use Rattle.rules.specs.First.{first}
use Rattle.rules.specs.Answer.{Answer, accepted, refused, unless}
use Rattle.sparse_rules.specs.Header.{block_size_right}
use Rattle.sparse_rules.specs.declared.Refusal.{Refusal}
use Rattle.sparse_rules.specs.Answers as judge
use Rattle.sparse_write_rules.specs.Blocks.{flat_blocks}
use Rattle.sparse_write_rules.specs.Encode.{encode}

-- the image of flat data
unfoldable pub flat_image : List ℕ → ℕ → List ℕ
flat_image d b = encode b (flat_blocks d b)

-- 13: "Flat input is at most 2,147,483,648 bytes", and is whole blocks
abbrev pub length_wrong : ℕ → ℕ → Bool
length_wrong n b = ltb 2147483648 n || not (eqb (n % b) 0)

-- refusals 5, 13 and 12, of flat data at a block size for an output with so much room
unfoldable pub write_tests : List ℕ → ℕ → ℕ → List (Bool × ℕ)
write_tests d b room =
    (not (block_size_right b), 5)
    ∷ (length_wrong (length d) b, 13)
    ∷ (ltb room (length (flat_image d b)), 12)
    ∷ []

-- the code's answer in document 01's terms: "The answer is the image's length", or a refusal's number and place
abbrev pub answer_of : Result ℕ Refusal → Answer ℕ
answer_of r = judge.answer_of r

-- what the writer answers: the image's length, or a refusal at place 0
unfoldable pub answer : List ℕ → ℕ → ℕ → Answer ℕ
answer d b room = unless (first (write_tests d b room)) 0 (accepted (length (flat_image d b)))

-- the image at the start of the output, "output bytes past it keep what they held"; "Refusals store nothing"
abbrev pub left_by : Answer ℕ → List ℕ → List ℕ → List ℕ
left_by (accepted n) s out = s ++ drop n out
left_by (refused n place) s out = out

-- what the output holds after the writer
unfoldable pub output : List ℕ → ℕ → List ℕ → List ℕ
output d b out = left_by (answer d b (length out)) (flat_image d b) out

-- a length that no image of n bytes of flat data passes: a caller can size its output by it
abbrev pub bound : ℕ → ℕ → ℕ
bound n b = 28 + n + 12 * (n / b)
