-- What each call makes of a state, answers and leaves, for every state.
-- Assumes nothing.
use Rattle.std.specs.Prelude.{Bool, not, cond, List, [], ◌∷◌, ℕ, ◌+◌, ltb, eqb, length, replicate}
use Rattle.rules.specs.First.{first}
use Rattle.crc32_rules.specs.Crc.{all_ones}
use Rattle.sparse_rules.specs.declared.Counts.{Counts}
use Rattle.sparse_rules.specs.Counts.{no_counts}
use Rattle.rules.specs.Answer.{accepted, refused, Answer}
use Rattle.sparse_stream_rules.specs.declared.Pass.{Pass}
use Rattle.sparse_stream_rules.specs.State.{stop_or}

-- "Telling refuses nothing": a pass that is told the lengths of the image and of the partition
unfoldable pub begun : ℕ → ℕ → Pass
begun len room =
    record {
      told = record { length = len; room = room };
      refusal = record { number = 0; place = 0 };
      come = record { bytes = 0; sum = all_ones };
      walk = record { next = record { at = 0; first = 0 }; left = 0; counts = no_counts };
      kept = record { file = replicate 28 0; chunk = replicate 12 0; word = replicate 4 0 };
    }

-- 14: more bytes than announced
abbrev pub over_pass : Pass → ℕ → Bool × ℕ
over_pass x n = (ltb x.told.length (x.come.bytes + n), 14)

-- 15: finished with fewer
abbrev pub short_pass : Pass → Bool × ℕ
short_pass x = (ltb x.come.bytes x.told.length, 15)

-- 16: the lent partition has another length
abbrev pub lent_pass : Pass → ℕ → Bool × ℕ
lent_pass x n = (not (eqb n x.told.room), 16)

-- a call: a refusal already given is given again, then the tests, then what the call makes of the state
unfoldable pub called : List (Bool × ℕ) → Pass → Pass → Pass
called ts x y = cond (ltb 0 x.refusal.number) x (stop_or (first ts) 0 x y)

-- the same of the partition
unfoldable pub leaves : List (Bool × ℕ) → Pass → List ℕ → List ℕ → List ℕ
leaves ts x p q = cond (ltb 0 x.refusal.number) p (cond (ltb 0 (first ts)) p q)

-- the tests of a piece of so many bytes
abbrev pub piece_tests : Pass → ℕ → List (Bool × ℕ)
piece_tests x n = over_pass x n ∷ []

-- and where so many bytes are lent: "tested 16, 14, 15"
abbrev pub lent_tests : Pass → ℕ → ℕ → List (Bool × ℕ)
lent_tests x lent n = lent_pass x lent ∷ over_pass x n ∷ []

-- the tests of finishing
abbrev pub finish_tests : Pass → List (Bool × ℕ)
finish_tests x = short_pass x ∷ []

-- and where so many bytes are lent
abbrev pub lent_finish_tests : Pass → ℕ → List (Bool × ℕ)
lent_finish_tests x lent = lent_pass x lent ∷ short_pass x ∷ []

-- a state's answer: its refusal with its place, or the counts of blocks
unfoldable pub answer_now : Pass → Answer Counts
answer_now x = cond (ltb 0 x.refusal.number) (refused x.refusal.number x.refusal.place) (accepted x.walk.counts)
