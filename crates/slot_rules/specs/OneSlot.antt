-- What the rules say of one slot: what makes it valid, what it may do, and what each operation makes of it.
-- Assumes nothing.
use Rattle.std.specs.Prelude.{Bool, true, false, not, cond, ◌&&◌, ◌||◌, ℕ, ◌+◌, ◌-◌, ltb, leb}
use Rattle.slot_rules.specs.declared.Slot.{Slot}

-- "no used slot with tries above 7, and none both unbootable and successful"; one that is not used is ignored, and corrupted goes with either flag
abbrev pub slot_valid : Slot → Bool
slot_valid s = not s.used || (leb s.tries 7 && not (s.unbootable && s.successful))

-- neither unbootable nor corrupted
abbrev pub sound : Slot → Bool
sound s = not s.unbootable && not s.corrupted

-- what a slot adds to the count of startable ones, the "slots in use" that "are neither unbootable nor corrupted": 1 or 0
unfoldable pub count_of : Slot → ℕ
count_of s = cond (s.used && sound s) 1 0

-- the count n after a slot that was s becomes t: "Every operation keeps it right"
abbrev pub stepped : ℕ → Slot → Slot → ℕ
stepped n s t = n + count_of t - count_of s

-- Start: "not unbootable, and is successful or has tries above 0"; "A corrupted slot may not start, successful or not"
abbrev pub may_start : Slot → Bool
may_start s = sound s && (s.successful || ltb 0 s.tries)

-- Start, of a slot that is not current: in use, "successful and not unbootable"; a corrupted one "is no candidate"
abbrev pub may_take_over : Slot → Bool
may_take_over s = s.used && s.successful && sound s

-- Confirm: "if not unbootable"; "Confirming a corrupted slot gives 33"
abbrev pub may_confirm : Slot → Bool
may_confirm s = sound s

-- the slot with other tries
abbrev pub with_tries : Slot → ℕ → Slot
with_tries s n = record { used = s.used; unbootable = s.unbootable; successful = s.successful; corrupted = s.corrupted; tries = n }

-- Start: "A started slot that is not successful loses one try"
abbrev pub spent : Slot → Slot
spent s = cond s.successful s (with_tries s (s.tries - 1))

-- Start, of a current slot that may not start: "marks it unbootable and clears its successful flag"; in a valid record only a corrupted one can have it
abbrev pub marked : Slot → Slot
marked s = record { used = s.used; unbootable = true; successful = false; corrupted = s.corrupted; tries = s.tries }

-- Set active: all flags clear, "tries 3"
abbrev pub activated : Slot → Slot
activated s = record { used = s.used; unbootable = false; successful = false; corrupted = false; tries = 3 }

-- Partition modified: "The slot's successful flag clears, tries 3. Unbootable stays"; corrupted clears too
abbrev pub modified : Slot → Slot
modified s = record { used = s.used; unbootable = s.unbootable; successful = false; corrupted = false; tries = 3 }

-- Corrupted: "sets the flag"
abbrev pub damaged : Slot → Slot
damaged s = record { used = s.used; unbootable = s.unbootable; successful = s.successful; corrupted = true; tries = s.tries }

-- Confirm: the slot "becomes successful"
abbrev pub confirmed : Slot → Slot
confirmed s = record { used = s.used; unbootable = s.unbootable; successful = true; corrupted = s.corrupted; tries = s.tries }

-- a slot of a fresh record, in use or not: "flags clear", with the tries that are named
abbrev pub new_slot : Bool → ℕ → Slot
new_slot u n = record { used = u; unbootable = false; successful = false; corrupted = false; tries = n }
