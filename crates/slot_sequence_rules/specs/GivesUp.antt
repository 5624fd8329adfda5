-- An unproven slot gives up: how often one bad update can start, over every sequence of slot operations from a fresh record.
-- Assumes nothing.
use Rattle.std.specs.Prelude.{◌≡◌, true, false, List, ◌↔◌, ℕ, ◌-◌, ◌≤◌}
use Rattle.rules.specs.Answer.{accepted, refused}
use Rattle.slot_rules.specs.declared.Record.{Record}
use Rattle.slot_rules.specs.declared.Op.{Op}
use Rattle.slot_rules.specs.declared.Op.TheVariants.{Start}
use Rattle.slot_rules.specs.OneSlot.{may_start}
use Rattle.slot_rules.specs.Records.{slot_at, current_slot}
use Rattle.slot_rules.specs.Answers.{starts, recovery}
use Rattle.slot_rules.specs.Operations.{start_of}
use Rattle.slot_rules.specs.Applied.{apply}
use Rattle.slot_rules.specs.Promises.{after, Qualifies}
use Rattle.slot_sequence_rules.specs.Sequences.{run, reached, how_many, starting, renewing, confirming, Begins, RunOfStarts}

-- the operation o on the record r counts as none: it starts, renews and confirms no slot, and leaves the record as it was
pub record CountsAsNone (o : Op) (r : Record) : Type 0 where
  pub starts_none : (i : ℕ) → starting i o r ≡ false
  pub renews_none : (i : ℕ) → renewing i o r ≡ false
  pub confirms_none : (i : ℕ) → confirming i o r ≡ false
  pub changes_nothing : after o r ≡ r

-- how many starts are "a run of four starts"
abbrev pub run_length : ℕ
run_length = 4

-- a Start on the record r "starts a successful slot"
pub record StartsSuccessful (r : Record) : Type 0 where
  pub slot : ℕ
  pub is_started : (start_of r).answer ≡ accepted (starts slot)
  pub is_successful : (slot_at r slot).successful ≡ true

-- over every sequence of operations from a fresh record for n slots
pub record GivesUp (n : ℕ) : Type 0 where
  -- "between one set active or partition modified on a slot, or the beginning, and the next of either on it, or the end, a slot never confirmed in between is started at most three times"
  pub at_most_three : (i : ℕ) (r : Record) → Begins n i r → (os : List Op) → how_many (renewing i) r os ≡ 0 → how_many (confirming i) r os ≡ 0 → how_many (starting i) r os ≤ 3
  -- "Refused operations do not count as any of these", on any record
  pub refused_none : (o : Op) (r : Record) (m p : ℕ) → (apply o r).answer ≡ refused m p → CountsAsNone o r
  -- "A start that does not pick a slot takes no try from it", on any record
  pub tries_kept : (r : Record) (i : ℕ) → starting i Start r ≡ false → (slot_at (after Start r) i).tries ≡ (slot_at r i).tries
  -- "if, before a run of four starts with no other operation between, some slot in use other than the current one is successful, not corrupted and not unbootable, then the fourth start starts a successful slot"
  pub fourth_successful : (os : List Op) (j : ℕ) → Qualifies (reached n os) j → (ss : List Op) → RunOfStarts (run_length - 1) (reached n os) ss → StartsSuccessful (run (reached n os) ss)
  -- "Recovery is answered exactly when the current slot may not start and no other qualifies"
  pub recovery_exactly : (os : List Op) → ((start_of (reached n os)).answer ≡ accepted recovery) ↔ ((may_start (current_slot (reached n os)) ≡ false) × ((j : ℕ) → Qualifies (reached n os) j → ⊥))

-- so it is whatever the number of slots, 1 to 4
pub record EachGivesUp : Type 0 where
  pub gives_up : (n : ℕ) → 1 ≤ n → n ≤ 4 → GivesUp n
