-- What holds of every operation on every record, valid or not.
-- Assumes nothing.
use Rattle.std.specs.Prelude.{◌≡◌, Bool, true, false, not, cond, ◌&&◌, ◌||◌, ℕ, ◌+◌, ◌-◌, ◌<◌, ◌≤◌, ltb, leb, eqb, length}
use Rattle.rules.specs.Answer.{Answer, accepted, refused, HasNumber}
use Rattle.slot_rules.specs.declared.Slot.{Slot}
use Rattle.slot_rules.specs.declared.Record.{Record}
use Rattle.slot_rules.specs.declared.Op.{Op}
use Rattle.slot_rules.specs.declared.Op.TheVariants.{Start, SetActive, Modified, Corrupted, Confirm}
use Rattle.slot_rules.specs.OneSlot.{count_of, may_start}
use Rattle.slot_rules.specs.Records.{slot_at, current_slot, is_in_use, startable_in, valid}
use Rattle.slot_rules.specs.Answers.{Deed, starts, recovery, done, beside}
use Rattle.slot_rules.specs.Operations.{fresh_of, start_of, set_active_of, modified_of, corrupted_of, confirm_of, startable_of}
use Rattle.slot_rules.specs.Applied.{apply}

-- the record after an operation
abbrev pub after : Op → Record → Record
after o r = (apply o r).after

-- the place of the slot that an operation is about
abbrev pub about : Op → Record → ℕ
about Start r = r.current
about (SetActive k) r = k
about (Modified k) r = k
about (Corrupted k) r = k
about Confirm r = r.current

-- the answer starts slot i
abbrev pub starts_slot : Answer Deed → ℕ → Bool
starts_slot (accepted (starts k)) i = eqb i k
starts_slot (accepted recovery) i = false
starts_slot (accepted done) i = false
starts_slot (refused n p) i = false

-- the answer is that a change is made
abbrev pub is_done : Answer Deed → Bool
is_done (accepted (starts k)) = false
is_done (accepted recovery) = false
is_done (accepted done) = true
is_done (refused n p) = false

-- set active or partition modified on slot i, not refused
abbrev pub renews : Op → Answer Deed → ℕ → Bool
renews Start a i = false
renews (SetActive k) a i = is_done a && eqb i k
renews (Modified k) a i = is_done a && eqb i k
renews (Corrupted k) a i = false
renews Confirm a i = false

-- Confirm where slot i is current, not refused
abbrev pub confirms : Op → Answer Deed → Record → ℕ → Bool
confirms Start a r i = false
confirms (SetActive k) a r i = false
confirms (Modified k) a r i = false
confirms (Corrupted k) a r i = false
confirms Confirm a r i = is_done a && eqb i r.current

-- Start where slot i is current and may not start
abbrev pub marks : Op → Record → ℕ → Bool
marks Start r i = eqb i r.current && not (may_start (slot_at r i))
marks (SetActive k) r i = false
marks (Modified k) r i = false
marks (Corrupted k) r i = false
marks Confirm r i = false

-- Start where slot i is current and corrupted, which gives way
abbrev pub is_giving_way : Op → Record → ℕ → Bool
is_giving_way Start r i = eqb i r.current && (slot_at r i).corrupted
is_giving_way (SetActive k) r i = false
is_giving_way (Modified k) r i = false
is_giving_way (Corrupted k) r i = false
is_giving_way Confirm r i = false

-- the tries of place i, whose slot was s, after an operation with the answer a: 3 where i was set active or modified, one less where i starts and is not successful, and otherwise as before
abbrev pub tries_after : Op → Answer Deed → ℕ → Slot → ℕ
tries_after o a i s = cond (renews o a i) 3 (cond (starts_slot a i && not s.successful) (s.tries - 1) s.tries)

-- the slot that an answer starts, or c where it starts none
abbrev pub started_or : Answer Deed → ℕ → ℕ
started_or (accepted (starts k)) c = k
started_or (accepted recovery) c = c
started_or (accepted done) c = c
started_or (refused n p) c = c

-- the slot that is current after an operation with the answer a: what Start starts, what was set active, and otherwise as before
abbrev pub current_after : Op → Answer Deed → Record → ℕ
current_after Start a r = started_or a r.current
current_after (SetActive k) a r = cond (is_done a) k r.current
current_after (Modified k) a r = r.current
current_after (Corrupted k) a r = r.current
current_after Confirm a r = r.current

-- the laws of all operations
pub record Lawful (o : Op) (r : Record) : Type 0 where
  -- "a refusal stores nothing and changes no slot record"
  pub refusal_keeps : (n p : ℕ) → (apply o r).answer ≡ refused n p → after o r ≡ r
  -- every operation keeps a valid record valid
  pub stays_valid : valid r ≡ true → valid (after o r) ≡ true
  -- "Every operation keeps it right": a count that is that of the flags stays so, in an invalid record too
  pub count_right : r.startable ≡ startable_in r → (after o r).startable ≡ startable_in (after o r)
  -- the count changes by what the slot that the operation is about was and what it is
  pub count_steps : (after o r).startable + count_of (slot_at r (about o r)) ≡ r.startable + count_of (slot_at (after o r) (about o r))
  -- "unused places are ignored and kept"
  pub unused_kept : (i : ℕ) → (slot_at r i).used ≡ false → slot_at (after o r) i ≡ slot_at r i
  -- no slot changes but the one that the operation is about: a corrupted slot that is not current outlasts Start as it is
  pub others_kept : (i : ℕ) → (i ≡ about o r → ⊥) → slot_at (after o r) i ≡ slot_at r i
  -- as many places as before
  pub places_kept : length (after o r).slots ≡ length r.slots
  -- no operation takes a slot into use, or out of it
  pub use_kept : (i : ℕ) → (slot_at (after o r) i).used ≡ (slot_at r i).used
  -- "The slot becomes current": what Start starts and what is set active; nothing else changes which slot is current
  pub current_goes : (after o r).current ≡ current_after o (apply o r).answer r
  -- only Start sets unbootable, and only where the current slot may not start
  pub unbootable_waits : (i : ℕ) → (slot_at r i).unbootable ≡ false → (slot_at (after o r) i).unbootable ≡ true → marks o r i ≡ true
  -- "only set active may" clear unbootable
  pub unbootable_stays : (i : ℕ) → (slot_at r i).unbootable ≡ true → (slot_at (after o r) i).unbootable ≡ false → o ≡ SetActive i
  -- only Confirm sets successful, only in the current slot, and only where it is not refused
  pub successful_waits : (i : ℕ) → (slot_at r i).successful ≡ false → (slot_at (after o r) i).successful ≡ true → confirms o (apply o r).answer r i ≡ true
  -- only set active and partition modified clear successful, and Start of a corrupted current slot
  pub successful_stays : (i : ℕ) → (slot_at r i).successful ≡ true → (slot_at (after o r) i).successful ≡ false → (renews o (apply o r).answer i || is_giving_way o r i) ≡ true
  -- only the operation Corrupted sets corrupted, and only in its slot
  pub corrupted_waits : (i : ℕ) → (slot_at r i).corrupted ≡ false → (slot_at (after o r) i).corrupted ≡ true → o ≡ Corrupted i
  -- only set active and partition modified clear corrupted
  pub corrupted_stays : (i : ℕ) → (slot_at r i).corrupted ≡ true → (slot_at (after o r) i).corrupted ≡ false → renews o (apply o r).answer i ≡ true
  -- set active and partition modified leave the slot neither successful nor corrupted
  pub renewal_clears : (i : ℕ) → renews o (apply o r).answer i ≡ true → ((slot_at (after o r) i).successful ≡ false) × ((slot_at (after o r) i).corrupted ≡ false)
  -- only Start starts a slot
  pub start_alone : (i : ℕ) → starts_slot (apply o r).answer i ≡ true → o ≡ Start
  -- only Start answers Recovery
  pub recovery_alone : (apply o r).answer ≡ accepted recovery → o ≡ Start
  -- "A started slot that is not successful loses one try"; set active and modified give 3; nothing else changes tries
  pub tries_go : (i : ℕ) → (slot_at (after o r) i).tries ≡ tries_after o (apply o r).answer i (slot_at r i)

-- what is known of a slot k that Start starts
pub record Started (r : Record) (k : ℕ) : Type 0 where
  pub in_use : is_in_use r k ≡ true
  pub bootable : (slot_at r k).unbootable ≡ false
  pub intact : (slot_at r k).corrupted ≡ false
  pub could_start : may_start (slot_at r k) ≡ true
  -- it "is successful or has tries above 0"
  pub has_try : (slot_at r k).successful ≡ false → 0 < (slot_at r k).tries
  -- a successful one stays as it was: no try is taken from it
  pub successful_kept : (slot_at r k).successful ≡ true → slot_at (start_of r).after k ≡ slot_at r k
  pub is_current : (start_of r).after.current ≡ k

-- a slot j that may start in the place of the current one: "in use other than the current one", "successful, not corrupted and not unbootable"
pub record Qualifies (r : Record) (j : ℕ) : Type 0 where
  pub in_use : is_in_use r j ≡ true
  pub not_current : j ≡ r.current → ⊥
  pub is_successful : (slot_at r j).successful ≡ true
  pub intact : (slot_at r j).corrupted ≡ false
  pub bootable : (slot_at r j).unbootable ≡ false

-- Start starts a slot that qualifies and is not after j
pub record StartsUpTo (r : Record) (j : ℕ) : Type 0 where
  pub slot : ℕ
  pub is_started : (start_of r).answer ≡ accepted (starts slot)
  pub qualifies : Qualifies r slot
  pub not_after : slot ≤ j

-- which slot Start picks in a valid record r
pub record Picks (r : Record) : Type 0 where
  -- the current one "starts", if it may
  pub own : may_start (current_slot r) ≡ true → (start_of r).answer ≡ accepted (starts r.current)
  -- otherwise "the first other slot in letter order" that qualifies: none that does is before it
  pub other : may_start (current_slot r) ≡ false → (j : ℕ) → Qualifies r j → StartsUpTo r j
  -- "If none is, the answer is Recovery"
  pub none : may_start (current_slot r) ≡ false → ((j : ℕ) → Qualifies r j → ⊥) → (start_of r).answer ≡ accepted recovery

-- what Corrupted does with a slot k in use: it sets the flag, and changes no other flag, nor which slot is current
pub record Damages (r : Record) (k : ℕ) : Type 0 where
  pub taken : (corrupted_of r k).answer ≡ accepted done
  pub flag_set : (slot_at (corrupted_of r k).after k).corrupted ≡ true
  pub same_unbootable : (slot_at (corrupted_of r k).after k).unbootable ≡ (slot_at r k).unbootable
  pub same_successful : (slot_at (corrupted_of r k).after k).successful ≡ (slot_at r k).successful
  pub same_current : (corrupted_of r k).after.current ≡ r.current

-- what is counted: a slot "in use" and "neither unbootable nor corrupted" once, and no other
pub record Counts (s : Slot) : Type 0 where
  pub once : s.used ≡ true → s.unbootable ≡ false → s.corrupted ≡ false → count_of s ≡ 1
  pub not_unused : s.used ≡ false → count_of s ≡ 0
  pub not_unbootable : s.unbootable ≡ true → count_of s ≡ 0
  pub not_corrupted : s.corrupted ≡ true → count_of s ≡ 0

-- no refusal has the number 0, which stands for none
pub record RefusalNumbers : Type 0 where
  pub operation : (o : Op) (r : Record) → HasNumber (apply o r).answer
  pub fresh : (slots : ℕ) → HasNumber (fresh_of slots).answer
  pub startable : (r : Record) → HasNumber (startable_of r)

-- all numbers past d are refused alike, and so are all numbers of slots past 4
pub record PastD : Type 0 where
  pub set_active : (r : Record) (k : ℕ) → 4 ≤ k → set_active_of r k ≡ set_active_of r 4
  pub modified : (r : Record) (k : ℕ) → 4 ≤ k → modified_of r k ≡ modified_of r 4
  pub corrupted : (r : Record) (k : ℕ) → 4 ≤ k → corrupted_of r k ≡ corrupted_of r 4
  pub fresh : (n : ℕ) → 4 < n → fresh_of n ≡ fresh_of 5

-- every operation is lawful; what Start starts is in use and was neither unbootable nor corrupted, and which slot that is; a corrupted slot gives way and is not confirmed; a fresh record for 1 to 4 slots is valid, and what the places, flags and tries of every fresh record are; an invalid record is refused, and one whose count differs from its flags is invalid; what is counted, what is read, and that a count of 0 starts nothing
pub record Promises : Type 0 where
  pub lawful : (o : Op) (r : Record) → Lawful o r
  pub started : (r : Record) (k : ℕ) → (start_of r).answer ≡ accepted (starts k) → Started r k
  pub picks : (r : Record) → valid r ≡ true → Picks r
  -- Start starts a slot, answers Recovery or refuses, and never answers that a change is made
  pub decides : (r : Record) → is_done (start_of r).answer ≡ false
  -- "if current, Start marks it unbootable and clears its successful flag", also where the answer is Recovery
  pub gives_way : (r : Record) → valid r ≡ true → (current_slot r).corrupted ≡ true → ((slot_at (start_of r).after r.current).unbootable ≡ true) × ((slot_at (start_of r).after r.current).successful ≡ false)
  -- "A new operation sets the flag on any slot in use"
  pub damages : (r : Record) (k : ℕ) → valid r ≡ true → is_in_use r k ≡ true → Damages r k
  -- "Confirming a corrupted slot gives 33"
  pub not_confirmed : (r : Record) → valid r ≡ true → (current_slot r).corrupted ≡ true → (confirm_of r).answer ≡ refused 33 0
  pub fresh_valid : (n : ℕ) → 1 ≤ n → n ≤ 4 → ((fresh_of n).answer ≡ accepted done) × (valid (fresh_of n).after ≡ true)
  -- "in all four places flags clear", corrupted among them, and so beside the refusal
  pub fresh_clear : (n i : ℕ) → ((slot_at (fresh_of n).after i).unbootable ≡ false) × ((slot_at (fresh_of n).after i).successful ≡ false) × ((slot_at (fresh_of n).after i).corrupted ≡ false)
  -- "in all four places ... tries 3", and 0 beside the refusal and past d
  pub fresh_tries : (n i : ℕ) → (slot_at (fresh_of n).after i).tries ≡ cond (leb 1 n && leb n 4 && ltb i 4) 3 0
  -- a fresh record has four places, and so has the one beside the refusal
  pub fresh_places : (n : ℕ) → length (fresh_of n).after.slots ≡ 4
  -- 31: every operation hands an invalid record back as it was, and the count's reader refuses it
  pub invalid : (o : Op) (r : Record) → valid r ≡ false → (apply o r ≡ beside (refused 31 0) r) × (startable_of r ≡ refused 31 0)
  -- "A record whose count differs from its flags is invalid"
  pub wrong_count : (r : Record) → (r.startable ≡ startable_in r → ⊥) → valid r ≡ false
  pub counts : (s : Slot) → Counts s
  -- a valid record whose count is 0 starts no slot
  pub none_starts : (r : Record) → valid r ≡ true → r.startable ≡ 0 → (start_of r).answer ≡ accepted recovery
  -- "the lamp reads it": what the count's reader answers is the count that a valid record keeps
  pub count_read : (r : Record) → valid r ≡ true → startable_of r ≡ accepted r.startable
  -- a fresh record's count is the number of its slots, and 0 beside the refusal
  pub fresh_count : (n : ℕ) → (fresh_of n).after.startable ≡ cond (leb 1 n && leb n 4) n 0
  pub refusal_numbers : RefusalNumbers
  pub past_d : PastD
