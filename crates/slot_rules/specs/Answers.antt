-- What an operation hands back, in the words and numbers of the rules, and what the code's result says of it.
-- Assumes nothing.
use Rattle.std.specs.Prelude.{ℕ, zero, suc, Result, Ok, Err}
use Rattle.rules.specs.Answer.{Answer, accepted, refused}
use Rattle.slot_rules.specs.declared.Record.{Record}
use Rattle.slot_rules.specs.declared.Changed.{Changed}
use Rattle.slot_rules.specs.declared.Outcome.{Outcome}
use Rattle.slot_rules.specs.declared.Outcome.TheVariants.{Starts, Recovery, Done}
use Rattle.slot_rules.specs.declared.Refusal.{Refusal}
use Rattle.slot_rules.specs.declared.Refusal.TheVariants.{Invalid, NotInUse, Unsound}

-- what an operation that is not refused does: a slot starts, Recovery, or a change is made
pub data Deed : Type 0 where
  starts : ℕ → Deed
  recovery : Deed
  done : Deed

-- an answer beside the record after it
pub record Change : Type 0 where
  pub answer : Answer Deed
  pub after : Record

-- what each case of the enum says: a slot starts, Recovery, or a change is made
abbrev pub deed_of : Outcome → Deed
deed_of (Starts k) = starts k
deed_of Recovery = recovery
deed_of Done = done

-- the number of each refusal
abbrev pub number : Refusal → ℕ
number Invalid = 31
number NotInUse = 32
number Unsound = 33

-- what an operation's result says: "All other refusals carry 0", so the place of each is 0
abbrev pub answer_of : Result Outcome Refusal → Answer Deed
answer_of (Ok o) = accepted (deed_of o)
answer_of (Err e) = refused (number e) 0

-- what the result of the count's reader says
abbrev pub count_answer_of : Result ℕ Refusal → Answer ℕ
count_answer_of (Ok n) = accepted n
count_answer_of (Err e) = refused (number e) 0

-- what a result beside a record says
abbrev pub change_of : Changed → Change
change_of c = record { answer = answer_of c.answer; after = c.after }

-- an answer beside a record
abbrev pub beside : Answer Deed → Record → Change
beside a r = record { answer = a; after = r }

-- a deed beside the record that it leaves
abbrev pub change : Deed → Record → Change
change d r = beside (accepted d) r

-- the refusal n, which hands r back, or where n is 0 the change c
abbrev pub refused_or : ℕ → Record → Change → Change
refused_or zero r c = c
refused_or (suc n) r c = beside (refused (suc n) 0) r
