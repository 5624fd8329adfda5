-- The starter over the bytes of a record: what it answers, as numbers, and what it leaves.
-- Assumes nothing.
use Rattle.std.specs.Prelude.{cond, List, ◌∷◌, ℕ, replicate}
use Rattle.rules.specs.Answer.{Answer, accepted, refused, number_of}
use Rattle.slot_bytes.specs.Record.{record_bytes, record_of, is_record}
use Rattle.starter_rules.specs.Starter.{Deed, starts, recovery, Effect, starter}
use Rattle.tarpaulark_numbers.specs.Numbers.{found_numbers}

-- the starter's array: kind (1 starts, 2 Recovery, 3 refused), the started slot, the line's length and the layout of its image; all but the kind 0 where no slot starts
abbrev pub start_numbers : Answer Deed → List ℕ
start_numbers (accepted (starts k l n)) = 1 ∷ k ∷ n ∷ found_numbers l
start_numbers (accepted recovery) = 2 ∷ replicate 19 0
start_numbers (refused n place) = 3 ∷ replicate 19 0

-- what is handed over: 0 or the refusal's number, the array, and the record's bytes and the space afterwards
pub record Handed : Type 0 where
  pub number : ℕ
  pub answer : List ℕ
  pub bytes : List ℕ
  pub space : List ℕ

-- an answer with the bytes and the space that it leaves
abbrev pub handed : Answer Deed → List ℕ → List ℕ → Handed
handed a bytes space = record { number = number_of a; answer = start_numbers a; bytes = bytes; space = space }

-- what the starter answers and leaves, the record as its bytes
abbrev pub as_bytes : Effect → Handed
as_bytes e = handed e.answer (record_bytes e.after) e.space

-- the starter on bytes; those that are no record get 31 and stay
unfoldable pub start_bytes : List ℕ → List (List ℕ) → List ℕ → List ℕ → List ℕ → Handed
start_bytes b images misc loader space =
    cond (is_record b) (as_bytes (starter (record_of b) images misc loader space)) (handed (refused 31 0) b space)
