-- The bounds of GivesUp.antt are sharp, and what it asks for is needed: on sequences that a reader can follow, by computation.
-- Assumes nothing.
use Rattle.std.specs.Prelude.{◌≡◌, List, [], ◌∷◌, ◌++◌, ℕ, replicate}
use Rattle.rules.specs.Answer.{accepted, refused}
use Rattle.slot_rules.specs.declared.Op.{Op}
use Rattle.slot_rules.specs.declared.Op.TheVariants.{Start, SetActive, Modified, Corrupted, Confirm}
use Rattle.slot_rules.specs.Answers.{starts, recovery}
use Rattle.slot_rules.specs.Operations.{fresh_of, start_of}
use Rattle.slot_rules.specs.Promises.{Qualifies}
use Rattle.slot_sequence_rules.specs.Sequences.{run, reached, how_many, starting, renewing, confirming}
use Rattle.slot_sequence_rules.specs.GivesUp.{StartsSuccessful}

-- how often slot a, the only one of a fresh record, is started by the operations os
abbrev pub starts_of_a : List Op → ℕ
starts_of_a os = how_many (starting 0) (fresh_of 1).after os

-- of two slots b is confirmed, and then a set active, as for an update: a is unproven, and b qualifies
abbrev pub update : List Op
update = SetActive 1 ∷ Confirm ∷ SetActive 0 ∷ []

-- at most three starts
pub record AtMostThree : Type 0 where
  -- three are reached, and by nine starts no more
  pub three : starts_of_a (replicate 3 Start) ≡ 3
  pub no_more : starts_of_a (replicate 9 Start) ≡ 3
  -- a slot that is confirmed passes three, and so does one that is set active or modified in between
  pub confirmed : starts_of_a (replicate 3 Start ++ Confirm ∷ replicate 3 Start) ≡ 6
  pub set_active : starts_of_a (replicate 3 Start ++ SetActive 0 ∷ replicate 3 Start) ≡ 6
  pub modified : starts_of_a (replicate 3 Start ++ Modified 0 ∷ replicate 3 Start) ≡ 6
  -- a Confirm that is refused, since the slot is corrupted, does not count, and neither does a set active or modified that is refused, since the slot is not in use
  pub not_confirmed : how_many (confirming 0) (fresh_of 1).after (Corrupted 0 ∷ Confirm ∷ []) ≡ 0
  pub not_renewed : how_many (renewing 1) (fresh_of 1).after (SetActive 1 ∷ Modified 1 ∷ []) ≡ 0

-- the fourth start
pub record FourthStart : Type 0 where
  -- three starts are not enough where four are
  pub ready : Qualifies (reached 2 update) 1
  pub third : StartsSuccessful (run (reached 2 update) (replicate 2 Start)) → ⊥
  pub fourth : (start_of (run (reached 2 update) (replicate 3 Start))).answer ≡ accepted (starts 1)
  -- a refused operation between, on a slot that is not in use, makes no difference
  pub refused_between : (start_of (run (reached 2 update) (Start ∷ SetActive 2 ∷ Start ∷ Start ∷ []))).answer ≡ accepted (starts 1)
  -- four are not enough with another operation between, nor where no other slot qualifies
  pub between : (start_of (run (reached 2 update) (Start ∷ Start ∷ SetActive 0 ∷ Start ∷ []))).answer ≡ accepted (starts 0)
  pub alone : (start_of (reached 1 (replicate 3 Start))).answer ≡ accepted recovery

-- both; and for no other number of slots is there a record to start from: beside that refusal Start answers 31
pub record Sharp : Type 0 where
  pub at_most_three : AtMostThree
  pub fourth_start : FourthStart
  pub no_slots : (start_of (reached 0 [])).answer ≡ refused 31 0
  pub five_slots : (start_of (reached 5 [])).answer ≡ refused 31 0
