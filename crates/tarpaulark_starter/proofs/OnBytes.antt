-- What the proofs of the starter on bytes cite: each way out.
-- Assumes nothing.
use mathlib.Core.Path.{◌≡◌, sym, ap, ◌∙◌}
use mathlib.Core.Bool.{true, false}
use mathlib.Core.List.{List}
use Prim.Native.Nat.{ℕ}
use Rattle.rules.specs.Answer.{refused, number_of}
use Rattle.slot_rules.specs.declared.Record.{Record}
use Rattle.slot_bytes.specs.Record.{record_bytes, record_of, is_record}
use Rattle.starter_rules.specs.declared.Outcome.{Outcome}
use Rattle.starter_rules.specs.declared.StartRefusal.{StartRefusal}
use Rattle.starter_rules.specs.declared.StartRefusal.TheVariants.{Slots}
use Rattle.slot_rules.specs.declared.Refusal.TheVariants.{Invalid}
use Rattle.std.specs.Prelude.{Result, Err}
use Rattle.starter_rules.specs.Starter.{answer_of, effect_of, starter}
use Rattle.tarpaulark_starter.specs.OnBytes.{start_numbers, Handed, handed, as_bytes, start_bytes}

-- bytes that are a record, and bytes that are none
module _ (b : List ℕ) (images : List (List ℕ)) (misc loader space : List ℕ) where
  pub of_record : is_record b ≡ true → start_bytes b images misc loader space ≡ as_bytes (starter (record_of b) images misc loader space)
  unfolding start_bytes
  of_record t = rw t

  pub of_none : is_record b ≡ false → start_bytes b images misc loader space ≡ handed (refused 31 0) b space
  unfolding start_bytes
  of_none t = rw t

  -- and so by what the code found and made
  pub on_record : is_record b ≡ true → (r : Record) → r ≡ record_of b → (o : Result Outcome StartRefusal) (z : Record) {s : List ℕ} → effect_of o z s ≡ starter r images misc loader space
      → {n : ℕ} {a after : List ℕ} → n ≡ number_of (answer_of o) → a ≡ start_numbers (answer_of o) → after ≡ record_bytes z
      → ◌≡◌ {A = Handed} (record { number = n; answer = a; bytes = after; space = s }) (start_bytes b images misc loader space)
  on_record t r er o z {s} h en ea eb =
      rw (en, ea, eb) (ap as_bytes (h ∙ ap (λ (x : Record). starter x images misc loader space) er) ∙ sym (of_record t))

  pub on_none : is_record b ≡ false → {n : ℕ} {a : List ℕ} → n ≡ number_of (answer_of (Err (Slots Invalid))) → a ≡ start_numbers (answer_of (Err (Slots Invalid)))
      → ◌≡◌ {A = Handed} (record { number = n; answer = a; bytes = b; space = space }) (start_bytes b images misc loader space)
  on_none t en ea = rw (en, ea) (sym (of_none t))
