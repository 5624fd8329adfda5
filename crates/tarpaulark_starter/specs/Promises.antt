-- What holds of the starter on bytes. Assumes nothing.
use Rattle.std.specs.Prelude.{◌≡◌, List, ℕ, length}
use Rattle.rules.specs.Answer.{refused}
use Rattle.slot_rules.specs.declared.Op.TheVariants.{Start}
use Rattle.slot_on_bytes.specs.OnBytes.{on_bytes, bytes_refusal}
use Rattle.tarpaulark_starter.specs.OnBytes.{handed, start_bytes}

-- what becomes of the bytes of a record
pub record Promises : Type 0 where
  -- bytes that Start refuses get 31, and all stays
  pub invalid : (b : List ℕ) (images : List (List ℕ)) (misc loader space : List ℕ) → length b ≡ 22 → (bytes_refusal b ≡ 0 → ⊥) → start_bytes b images misc loader space ≡ handed (refused 31 0) b space
  -- 51 before Start: all stays
  pub misc_length : (b : List ℕ) (images : List (List ℕ)) (misc loader space : List ℕ) → length b ≡ 22 → bytes_refusal b ≡ 0 → (length misc ≡ 32 → ⊥) → start_bytes b images misc loader space ≡ handed (refused 51 0) b space
  -- "The record stays as Start left it, here alone also in a refusal after Start": in every other case the bytes are those that Start alone leaves
  pub as_start : (b : List ℕ) (images : List (List ℕ)) (misc loader space : List ℕ) → bytes_refusal b ≡ 0 → length misc ≡ 32 → (start_bytes b images misc loader space).bytes ≡ (on_bytes Start b).bytes
