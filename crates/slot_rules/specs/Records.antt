-- The slot record: four slots of fixed place, a to d at 0 to 3, used or not, one current slot, and the count of startable ones.
-- Assumes nothing.
use Rattle.std.specs.Prelude.{Bool, false, ◌&&◌, [], ◌∷◌, ℕ, ◌+◌, ltb, eqb, get_or, set}
use Rattle.slot_rules.specs.declared.Slot.{Slot}
use Rattle.slot_rules.specs.declared.Record.{Record}
use Rattle.slot_rules.specs.OneSlot.{slot_valid, count_of, stepped, new_slot}

-- the slot at place i; past the last place, one that is not used
abbrev pub slot_at : Record → ℕ → Slot
slot_at r i = get_or r.slots i (new_slot false 0)

-- the slot that is current
abbrev pub current_slot : Record → Slot
current_slot r = slot_at r r.current

-- a place that is not past d and in use
abbrev pub is_in_use : Record → ℕ → Bool
is_in_use r i = ltb i 4 && (slot_at r i).used

-- each of the four slots is valid
unfoldable pub slots_valid : Record → Bool
slots_valid r = slot_valid (slot_at r 0) && slot_valid (slot_at r 1) && slot_valid (slot_at r 2) && slot_valid (slot_at r 3)

-- "how many slots in use are neither unbootable nor corrupted", by the flags
unfoldable pub startable_in : Record → ℕ
startable_in r = count_of (slot_at r 0) + count_of (slot_at r 1) + count_of (slot_at r 2) + count_of (slot_at r 3)

-- "A valid record has a current slot in use", and each of its slots is valid; "A record whose count differs from its flags is invalid"
unfoldable pub valid : Record → Bool
valid r = is_in_use r r.current && slots_valid r && eqb r.startable (startable_in r)

-- one entry is replaced, and the count steps with it
abbrev pub replaced : Record → ℕ → Slot → Record
replaced r i s = record { slots = set r.slots i s; current = r.current; startable = stepped r.startable (slot_at r i) s }

-- "The slot becomes current"
abbrev pub with_current : Record → ℕ → Record
with_current r k = record { slots = r.slots; current = k; startable = r.startable }

-- for n up to 4: the first n slots in use and so startable, current a, "in all four places flags clear" and the same tries
abbrev pub new_record : ℕ → ℕ → Record
new_record n t = record { slots = new_slot (ltb 0 n) t ∷ new_slot (ltb 1 n) t ∷ new_slot (ltb 2 n) t ∷ new_slot (ltb 3 n) t ∷ []; current = 0; startable = n }
