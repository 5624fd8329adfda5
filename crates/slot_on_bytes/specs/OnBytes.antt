-- The operations on the bytes of a slot record: what each answers, as numbers, and what it leaves; and the count read from them.
-- Assumes nothing.
use Rattle.std.specs.Prelude.{Bool, not, cond, ◌&&◌, List, [], ◌∷◌, ℕ, ltb}
use Rattle.rules.specs.First.{first}
use Rattle.rules.specs.Answer.{Answer, accepted, refused, unless, number_of}
use Rattle.slot_rules.specs.declared.Record.{Record}
use Rattle.slot_rules.specs.declared.Op.{Op}
use Rattle.slot_rules.specs.Records.{valid}
use Rattle.slot_rules.specs.Answers.{Deed, starts, recovery, done, Change, refused_or}
use Rattle.slot_rules.specs.Operations.{fresh_of, startable_of}
use Rattle.slot_rules.specs.Applied.{apply}
use Rattle.slot_bytes.specs.Record.{record_bytes, record_of, is_record}
use Rattle.slot_on_bytes.specs.declared.Reply.{Reply}
use Rattle.slot_on_bytes.specs.declared.Tally.{Tally}

-- a slot operation's array: kind (0 done, 1 starts, 2 Recovery, 3 refused), and the slot that starts, or 0
abbrev pub slot_answer : Answer Deed → List ℕ
slot_answer (accepted (starts k)) = 1 ∷ k ∷ []
slot_answer (accepted recovery) = 2 ∷ 0 ∷ []
slot_answer (accepted done) = 0 ∷ 0 ∷ []
slot_answer (refused n place) = 3 ∷ 0 ∷ []

-- the bytes b after an answer: those of the record r, and a refusal leaves them as they were
abbrev pub bytes_after : List ℕ → Answer Deed → Record → List ℕ
bytes_after b (accepted d) r = record_bytes r
bytes_after b (refused n place) r = b

-- an answer beside the record after it, as numbers and as what becomes of the bytes b
unfoldable pub reply_of : List ℕ → Change → Reply
reply_of b c = record { number = number_of c.answer; answer = slot_answer c.answer; bytes = bytes_after b c.answer c.after }

-- 31: bytes that are no record
abbrev pub bytes_tests : List ℕ → List (Bool × ℕ)
bytes_tests b = (not (is_record b), 31) ∷ []

-- an operation on bytes
unfoldable pub on_bytes : Op → List ℕ → Reply
on_bytes o b = reply_of b (refused_or (first (bytes_tests b)) (record_of b) (apply o (record_of b)))

-- a fresh record in the place of the bytes b
unfoldable pub fresh_bytes : ℕ → List ℕ → Reply
fresh_bytes n b = reply_of b (fresh_of n)

-- 0 where bytes are a valid record, else 31
unfoldable pub bytes_refusal : List ℕ → ℕ
bytes_refusal b = first ((not (is_record b && valid (record_of b)), 31) ∷ [])

-- the answer of the count's reader, as numbers: 0 and the count, or the refusal's number and 0
abbrev pub tally_of : Answer ℕ → Tally
tally_of (accepted n) = record { number = 0; startable = n }
tally_of (refused n place) = record { number = n; startable = 0 }

-- "the lamp reads it", the count's reader on bytes: how many slots of the record that they say are startable; 31 where they are no valid record
unfoldable pub bytes_startable : List ℕ → Tally
bytes_startable b = tally_of (unless (first (bytes_tests b)) 0 (startable_of (record_of b)))

-- a number in a byte: the greatest where it does not fit
abbrev pub clipped : ℕ → ℕ
clipped n = cond (ltb n 256) n 255
