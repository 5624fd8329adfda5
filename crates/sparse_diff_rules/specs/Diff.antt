-- What changed between two images: the longest runs of blocks of one kind of change.
-- Assumes nothing.
use Rattle.std.specs.Prelude.{Bool, cond, List, [], ◌∷◌, ◌++◌, ℕ, ◌+◌, eqb, ltb, length}
use Rattle.std.proofs.Math.Option.{none, some}
use Rattle.rules.specs.Answer.{Answer}
use Rattle.sparse_write_rules.specs.Blocks.{Block}
use Rattle.sparse_write_rules.specs.Runs.{Run, runs}
use Rattle.sparse_blocks_rules.specs.Blocks.{blocks}
use Rattle.sparse_blocks_rules.specs.Same.{alike}
use Rattle.sparse_blocks_rules.specs.Pairs.{each, pair_answer, left_by}
use Rattle.sparse_diff_rules.specs.declared.Change.{Change}
use Rattle.sparse_diff_rules.specs.declared.Change.TheVariants.{Neither, OnlyFirst, OnlySecond, Equal, Different}

-- the kinds, "being 0 to 4 in this order": "neither image writes, only the first, only the second, both and equal, both and different"
abbrev pub change : Block → Block → ℕ
change none none = 0
change (some xs) none = 1
change none (some ys) = 2
change (some xs) (some ys) = cond (alike xs ys) 3 4

-- the code's kinds, by their numbers
abbrev pub kind_number : Change → ℕ
kind_number Neither = 0
kind_number OnlyFirst = 1
kind_number OnlySecond = 2
kind_number Equal = 3
kind_number Different = 4

-- the kind of each block, in order
unfoldable pub changes : List ℕ → List ℕ → List ℕ
changes s t = each change (blocks s) (blocks t)

-- "the longest runs of blocks"
unfoldable pub diff : List ℕ → List ℕ → List (Run ℕ)
diff s t = runs eqb (changes s t)

-- "three numbers a run": "first block, length and one of five kinds"
abbrev pub run_numbers : ℕ → Run ℕ → List ℕ
run_numbers first r = first ∷ r.many ∷ r.kind ∷ []

-- the numbers of runs, the first of which begins at a block
unfoldable pub numbers : ℕ → List (Run ℕ) → List ℕ
numbers first [] = []
numbers first (r ∷ rs) = run_numbers first r ++ numbers (first + r.many) rs

-- "18 exactly when the list needs more than the space", which is counted in numbers
abbrev pub space_tests : List ℕ → List ℕ → ℕ → List (Bool × ℕ)
space_tests s t space = (ltb space (length (numbers 0 (diff s t))), 18) ∷ []

-- "the answer is how many runs"
unfoldable pub answer : List ℕ → List ℕ → ℕ → Answer ℕ
answer s t space = pair_answer s t (space_tests s t space) (length (diff s t))

-- what the space holds after: "nothing past them is touched", and a refusal leaves it as it was
unfoldable pub listed : List ℕ → List ℕ → List ℕ → List ℕ
listed s t space = left_by (answer s t (length space)) (numbers 0 (diff s t)) space
