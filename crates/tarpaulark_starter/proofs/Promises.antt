-- What becomes of the bytes of a record: they stay where 31 or 51 is answered, and else are as Start alone leaves them.
-- Assumes nothing.
use mathlib.Core.Path.{◌≡◌, sym, ap, ◌∙◌}
use mathlib.Core.Bool.{true}
use mathlib.Core.List.{List}
use Prim.Native.Nat.{ℕ}
use lib.ListN.{length}
use Rattle.rules.specs.Answer.{Answer, refused}
use Rattle.slot_rules.specs.declared.Op.TheVariants.{Start}
use Rattle.slot_bytes.specs.Record.{record_bytes, record_of, is_record}
use Rattle.slot_bytes.proofs.Promises as bytes
use Rattle.slot_on_bytes.specs.OnBytes.{on_bytes, bytes_refusal}
use Rattle.slot_on_bytes.proofs.Refused.{valid_bytes, refused_bytes, start-bytes}
use Rattle.starter_rules.specs.Starter.{Deed, starter}
use Rattle.starter_rules.specs.Theorems.{effect}
use Rattle.starter_rules.proofs.Starting.{left_by_start}
use Rattle.starter_rules.proofs.Theorems.{each_ordered}
use Rattle.tarpaulark_starter.specs.OnBytes.{Handed, handed, as_bytes, start_bytes}
use Rattle.tarpaulark_starter.specs.Promises.{Promises}
use Rattle.tarpaulark_starter.proofs.OnBytes.{of_record, of_none}

module _ (b : List ℕ) (images : List (List ℕ)) (misc loader space : List ℕ) where
  -- a record that the starter hands back as it was
  same : length b ≡ 22 → is_record b ≡ true → {a : Answer Deed} → starter (record_of b) images misc loader space ≡ effect a (record_of b) space → start_bytes b images misc loader space ≡ handed a b space
  same n t {a} e = of_record b images misc loader space t ∙ ap as_bytes e ∙ ap (λ (x : List ℕ). handed a x space) ((bytes.promises).read b n t)

  invalid : length b ≡ 22 → (bytes_refusal b ≡ 0 → ⊥) → start_bytes b images misc loader space ≡ handed (refused 31 0) b space
  invalid n h = refused_bytes b h (of_none b images misc loader space) (λ t v. same n t ((each_ordered (record_of b) images misc loader space).invalid v))

  misc_length : length b ≡ 22 → bytes_refusal b ≡ 0 → (length misc ≡ 32 → ⊥) → start_bytes b images misc loader space ≡ handed (refused 51 0) b space
  misc_length n e h = let p = valid_bytes b e in same n p.0 ((each_ordered (record_of b) images misc loader space).misc_length p.1 h)

  as_start : bytes_refusal b ≡ 0 → length misc ≡ 32 → (start_bytes b images misc loader space).bytes ≡ (on_bytes Start b).bytes
  as_start e h =
      let p = valid_bytes b e in
      ap (λ (x : Handed). x.bytes) (of_record b images misc loader space p.0) ∙ ap record_bytes (left_by_start (record_of b) images misc loader space p.1 h) ∙ sym (start-bytes b e)

pub promises : Promises
promises = record { invalid = invalid; misc_length = misc_length; as_start = as_start }
