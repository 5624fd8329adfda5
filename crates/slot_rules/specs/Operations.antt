-- The operations: the tests of each in their order, with the numbers of their refusals, and then its effect.
-- Assumes nothing.
use Rattle.std.specs.Prelude.{Bool, not, cond, ◌&&◌, List, [], ◌∷◌, ℕ, zero, suc, ◌+◌, ltb, leb, eqb, Option, Some, None}
use Rattle.rules.specs.First.{first}
use Rattle.rules.specs.Answer.{Answer, accepted, unless}
use Rattle.slot_rules.specs.declared.Slot.{Slot}
use Rattle.slot_rules.specs.declared.Record.{Record}
use Rattle.slot_rules.specs.OneSlot.{may_start, may_take_over, may_confirm, spent, marked, activated, modified, damaged, confirmed}
use Rattle.slot_rules.specs.Records.{slot_at, current_slot, is_in_use, startable_in, valid, replaced, with_current, new_record}
use Rattle.slot_rules.specs.Answers.{Change, starts, recovery, done, change, refused_or}

-- 31: a number of slots that is not 1 to 4
abbrev pub fresh_tests : ℕ → List (Bool × ℕ)
fresh_tests n = (not (leb 1 n && leb n 4), 31) ∷ []

-- the first so many slots in use with tries 3; "Another number of slots gives 31 and a record with no slot in use" and tries 0
unfoldable pub fresh_of : ℕ → Change
fresh_of n = refused_or (first (fresh_tests n)) (new_record 0 0) (change done (new_record n 3))

-- 31: an invalid record
abbrev pub start_tests : Record → List (Bool × ℕ)
start_tests r = (not (valid r), 31) ∷ []

-- another slot than the current one, that may take over
abbrev pub takes_over : Record → ℕ → Bool
takes_over r k = not (eqb k r.current) && may_take_over (slot_at r k)

-- the first of n places from k on, in letter order, that takes over; 4 where none does
unfoldable pub first_from : Record → ℕ → ℕ → ℕ
first_from r zero k = 4
first_from r (suc n) k = cond (takes_over r k) k (first_from r n (k + 1))

-- "the first other slot in letter order": the search begins at a
abbrev pub first_other : Record → ℕ
first_other r = first_from r 4 0

-- what the code's search hands back: the place that was found, or none
abbrev pub found : ℕ → Option ℕ
found k = cond (ltb k 4) (Some k) None

-- the slot k "becomes current and starts", which is successful and so loses no try; "If none is, the answer is Recovery, and the mark stays"
abbrev pub take_over : Record → ℕ → Change
take_over m k = cond (ltb k 4) (change (starts k) (with_current m k)) (change recovery m)

-- the current slot starts if it may; "Otherwise it is marked unbootable", and no longer successful, and the first other slot takes over
abbrev pub start_effect : Record → Change
start_effect r =
    cond (may_start (current_slot r))
    (change (starts r.current) (replaced r r.current (spent (current_slot r))))
    (take_over (replaced r r.current (marked (current_slot r))) (first_other r))

-- Start
unfoldable pub start_of : Record → Change
start_of r = refused_or (first (start_tests r)) r (start_effect r)

-- 31: an invalid record; 32: a slot past d or not in use
abbrev pub slot_tests : Record → ℕ → List (Bool × ℕ)
slot_tests r k = (not (valid r), 31) ∷ (not (is_in_use r k), 32) ∷ []

-- an operation on the slot k: it becomes s, and the slot m current
unfoldable pub on_slot : Record → ℕ → Slot → ℕ → Change
on_slot r k s m = refused_or (first (slot_tests r k)) r (change done (with_current (replaced r k s) m))

-- Set active: "The slot becomes current", all flags clear, "tries 3"
abbrev pub set_active_of : Record → ℕ → Change
set_active_of r k = on_slot r k (activated (slot_at r k)) k

-- Partition modified: successful and corrupted clear, "tries 3. Unbootable stays"
abbrev pub modified_of : Record → ℕ → Change
modified_of r k = on_slot r k (modified (slot_at r k)) r.current

-- Corrupted: "A new operation sets the flag on any slot in use", and changes nothing else
abbrev pub corrupted_of : Record → ℕ → Change
corrupted_of r k = on_slot r k (damaged (slot_at r k)) r.current

-- 31: an invalid record; 33: "confirming an unbootable slot", or a corrupted one
abbrev pub confirm_tests : Record → List (Bool × ℕ)
confirm_tests r = (not (valid r), 31) ∷ (not (may_confirm (current_slot r)), 33) ∷ []

-- Confirm: the current slot, if neither unbootable nor corrupted, "becomes successful"
unfoldable pub confirm_of : Record → Change
confirm_of r = refused_or (first (confirm_tests r)) r (change done (replaced r r.current (confirmed (current_slot r))))

-- "the lamp reads it", the count's reader: how many slots of a valid record are startable, by its flags; an invalid one gives 31, as Start does
unfoldable pub startable_of : Record → Answer ℕ
startable_of r = unless (first (start_tests r)) 0 (accepted (startable_in r))
