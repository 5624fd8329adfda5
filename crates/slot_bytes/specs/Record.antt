-- The slot record as 22 bytes: for a, b, c and d in turn used, unbootable, successful, corrupted (0 or 1 each) and tries;
-- then the current slot, 0 for a; then the count of startable slots. Assumes nothing.
use Rattle.std.specs.Prelude.{Bool, cond, ◌&&◌, List, [], ◌∷◌, ◌++◌, ℕ, ◌+◌, leb, eqb, get_or}
use Rattle.slot_rules.specs.declared.Slot.{Slot}
use Rattle.slot_rules.specs.declared.Record.{Record}
use Rattle.slot_rules.specs.Records.{slot_at}

-- a flag as a number: 1 where it is set
abbrev pub flag : Bool → ℕ
flag f = cond f 1 0

-- a slot's bytes: used, unbootable, successful, corrupted, tries
abbrev pub slot_bytes : Slot → List ℕ
slot_bytes s = flag s.used ∷ flag s.unbootable ∷ flag s.successful ∷ flag s.corrupted ∷ s.tries ∷ []

-- a record's bytes: slots a to d, then the current slot, then the count
unfoldable pub record_bytes : Record → List ℕ
record_bytes r =
    slot_bytes (slot_at r 0) ++ (slot_bytes (slot_at r 1) ++ (slot_bytes (slot_at r 2) ++ (slot_bytes (slot_at r 3) ++ (r.current ∷ r.startable ∷ []))))

-- byte i of a record
abbrev pub at : List ℕ → ℕ → ℕ
at b i = get_or b i 0

-- the slot that the five bytes from i on say
abbrev pub slot_from : List ℕ → ℕ → Slot
slot_from b i = record { used = eqb (at b i) 1; unbootable = eqb (at b (i + 1)) 1; successful = eqb (at b (i + 2)) 1; corrupted = eqb (at b (i + 3)) 1; tries = at b (i + 4) }

-- the record that bytes say
unfoldable pub record_of : List ℕ → Record
record_of b = record { slots = slot_from b 0 ∷ slot_from b 5 ∷ slot_from b 10 ∷ slot_from b 15 ∷ []; current = at b 20; startable = at b 21 }

-- the four bytes from i on are flags, each 0 or 1
abbrev pub are_flags : List ℕ → ℕ → Bool
are_flags b i = leb (at b i) 1 && leb (at b (i + 1)) 1 && leb (at b (i + 2)) 1 && leb (at b (i + 3)) 1

-- bytes are a record: each flag byte is 0 or 1
unfoldable pub is_record : List ℕ → Bool
is_record b = are_flags b 0 && are_flags b 5 && are_flags b 10 && are_flags b 15
