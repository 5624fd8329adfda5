-- Whether bytes are refused: by whether they are a record, and whether that is valid; and what Start leaves of those that are not.
-- Assumes nothing.
use mathlib.Core.Path.{◌≡◌, refl, sym, ap, subst, ◌∙◌}
use mathlib.Core.Bool.{Bool, true, false, not, cond, ◌&&◌}
use mathlib.Core.List.{List}
use Prim.Native.Nat.{ℕ}
use native.Mathlib.Omega.{arith}
use Rattle.rules.specs.Answer.{Answer, accepted, refused, number_of, HasNumber}
use Rattle.slot_rules.specs.declared.Op.TheVariants.{Start}
use Rattle.slot_rules.specs.Records.{valid}
use Rattle.slot_rules.specs.Answers.{Deed}
use Rattle.slot_rules.specs.Operations.{start_of}
use Rattle.slot_rules.proofs.Laws.{start_number}
use Rattle.slot_rules.proofs.Promises.{refusal_numbers}
use Rattle.slot_bytes.specs.Record.{record_bytes, record_of, is_record}
use Rattle.slot_on_bytes.specs.OnBytes.{bytes_after, reply_of, on_bytes, bytes_refusal}

module _ (b : List ℕ) where
  -- bytes that are not refused are a valid record
  pub valid_bytes : bytes_refusal b ≡ 0 → (is_record b ≡ true) × (valid (record_of b) ≡ true)
  unfolding bytes_refusal
  valid_bytes e = by (is_record b) (valid (record_of b)) e
    where
      by : (t v : Bool) → ◌≡◌ {A = ℕ} (cond (not (t && v)) 31 0) 0 → (t ≡ true) × (v ≡ true)
      by true true e = (refl, refl)
      by true false e = absurd (omega (arith, e))
      by false v e = absurd (omega (arith, e))

  -- those that are refused are none, or one that is not valid
  pub refused_bytes : {A : Type 0} → (bytes_refusal b ≡ 0 → ⊥) → (is_record b ≡ false → A) → (is_record b ≡ true → valid (record_of b) ≡ false → A) → A
  unfolding bytes_refusal
  refused_bytes {A} h none bad = by (is_record b) refl (valid (record_of b)) refl h
    where
      by : (t : Bool) → is_record b ≡ t → (v : Bool) → valid (record_of b) ≡ v → (◌≡◌ {A = ℕ} (cond (not (t && v)) 31 0) 0 → ⊥) → A
      by true t true v g = absurd (g refl)
      by true t false v g = bad t v
      by false t v e g = none t

  -- Start leaves the bytes of the record that it makes
  pub start-bytes : bytes_refusal b ≡ 0 → (on_bytes Start b).bytes ≡ record_bytes (start_of (record_of b)).after
  unfolding on_bytes reply_of
  start-bytes e = rw (valid_bytes e).0 (by (start_of (record_of b)).answer refl)
    where
      by : (a : Answer Deed) → (start_of (record_of b)).answer ≡ a → bytes_after b a (start_of (record_of b)).after ≡ record_bytes (start_of (record_of b)).after
      by (accepted d) s = refl
      by (refused n place) s =
          let z : n ≡ 0 = sym (ap number_of s) ∙ start_number (record_of b) ∙ ap (λ (v : Bool). cond (not v) 31 0) (valid_bytes e).1 in
          absurd (omega (arith, z, subst HasNumber s (refusal_numbers.operation Start (record_of b))))
