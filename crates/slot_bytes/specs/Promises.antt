-- What holds of the record as bytes: it is the record. Assumes nothing.
use Rattle.std.specs.Prelude.{◌≡◌, true, List, ℕ, ◌<◌, length, get_or}
use Rattle.slot_rules.specs.declared.Record.{Record}
use Rattle.slot_rules.specs.Records.{slot_at}
use Rattle.slot_bytes.specs.Record.{record_bytes, record_of, is_record}

-- tries, the current slot and the count are bytes, and there are four slots
pub record InBytes (r : Record) : Type 0 where
  pub four : length r.slots ≡ 4
  pub tries : (i : ℕ) → (slot_at r i).tries < 256
  pub current : r.current < 256
  pub startable : r.startable < 256

-- what is written of a record r: 22 bytes that are a record, and are read as r again
pub record Written (r : Record) : Type 0 where
  pub long : length (record_bytes r) ≡ 22
  pub bytes : (i : ℕ) → get_or (record_bytes r) i 0 < 256
  pub right : is_record (record_bytes r) ≡ true
  pub again : record_of (record_bytes r) ≡ r

-- writing and reading are a round trip both ways
pub record Promises : Type 0 where
  pub written : (r : Record) → InBytes r → Written r
  pub read : (b : List ℕ) → length b ≡ 22 → is_record b ≡ true → record_bytes (record_of b) ≡ b
