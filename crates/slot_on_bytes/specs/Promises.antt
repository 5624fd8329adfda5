-- What holds of the operations on bytes. Assumes nothing.
use Rattle.std.specs.Prelude.{◌≡◌, cond, List, ℕ, eqb, get_or}
use Rattle.slot_rules.specs.declared.Op.{Op}
use Rattle.slot_rules.specs.declared.Op.TheVariants.{Start}
use Rattle.slot_rules.specs.Records.{startable_in}
use Rattle.slot_bytes.specs.Record.{record_of}
use Rattle.slot_on_bytes.specs.OnBytes.{on_bytes, fresh_bytes, bytes_refusal, bytes_startable}

-- a refusal leaves the bytes as they were; bytes that are no valid record are refused by every operation, and by the count's reader; what that one answers stands in the bytes; and what is accepted leaves a valid record
pub record Promises : Type 0 where
  pub kept : (o : Op) (b : List ℕ) → ((on_bytes o b).number ≡ 0 → ⊥) → (on_bytes o b).bytes ≡ b
  pub fresh_kept : (slots : ℕ) (b : List ℕ) → ((fresh_bytes slots b).number ≡ 0 → ⊥) → (fresh_bytes slots b).bytes ≡ b
  pub as_start : (b : List ℕ) → bytes_refusal b ≡ (on_bytes Start b).number
  -- 31 from every operation where bytes are no valid record
  pub invalid : (o : Op) (b : List ℕ) → (bytes_refusal b ≡ 0 → ⊥) → (on_bytes o b).number ≡ 31
  -- "A record whose count differs from its flags is invalid (31)"
  pub wrong_count : (b : List ℕ) → (get_or b 21 0 ≡ startable_in (record_of b) → ⊥) → bytes_refusal b ≡ 31
  -- the count's reader answers byte 21 where they are one, and 0 beside the refusal
  pub count_read : (b : List ℕ) → bytes_startable b ≡ record { number = bytes_refusal b; startable = cond (eqb (bytes_refusal b) 0) (get_or b 21 0) 0 }
  -- "Every operation keeps it right": the bytes of a valid record stay those of one, their count with them
  pub stays_valid : (o : Op) (b : List ℕ) → bytes_refusal b ≡ 0 → bytes_refusal (on_bytes o b).bytes ≡ 0
  pub fresh_valid : (slots : ℕ) (b : List ℕ) → (fresh_bytes slots b).number ≡ 0 → bytes_refusal (fresh_bytes slots b).bytes ≡ 0
