-- Laws of the whole starter, one for each way out.
-- Assumes nothing.
use mathlib.Core.Path.{◌≡◌, refl, sym, ap, ◌∙◌}
use mathlib.Core.Bool.{Bool, true, false, not, cond}
use mathlib.Core.List.{List}
use Prim.Native.Nat.{ℕ, ◌≤◌, ◌<◌}
use native.Mathlib.Omega.{arith}
use lib.ListN.{length}
use borrow.Author.Tests.{eq-eqb, ne_eqb}
use Rattle.rules.specs.Answer.{Answer, accepted, refused, number_of}
use Rattle.slot_rules.specs.declared.Record.{Record}
use Rattle.slot_rules.specs.Records.{valid}
use Rattle.slot_rules.specs.Answers as slots
use Rattle.slot_rules.specs.Operations.{start_of}
use Rattle.slot_rules.proofs.Laws.{start_number}
use Rattle.starter_rules.specs.Line.{asks_recovery}
use Rattle.starter_rules.specs.Starter.{Deed, Effect, Booted, begun, leaving, after_start, starter}

-- Start is refused by a number exactly where the record is invalid
module _ (r : Record) (n : ℕ) (e : n ≡ number_of (start_of r).answer) where
  by_validity : (b : Bool) → valid r ≡ b → n ≡ cond (not b) 31 0
  by_validity b v = e ∙ start_number r ∙ ap (λ (x : Bool). cond (not x) 31 0) v

  pub invalid : 0 < n → (valid r ≡ false) × (n ≡ 31)
  invalid h = go (valid r) refl
    where
      go : (b : Bool) → valid r ≡ b → (b ≡ false) × (n ≡ 31)
      go true v = absurd (omega (arith, by_validity true v))
      go false v = (refl, by_validity false v)

  pub is_valid : n ≤ 0 → valid r ≡ true
  is_valid h = go (valid r) refl
    where
      go : (b : Bool) → valid r ≡ b → b ≡ true
      go true v = refl
      go false v = absurd (omega (arith, by_validity false v))

-- the three ways out: an invalid record, another misc, and what follows Start
module _ (r : Record) (images : List (List ℕ)) (misc loader space : List ℕ) where
  pub out_31 : valid r ≡ false → ◌≡◌ {A = Effect} (record { answer = refused 31 0; after = r; space = space }) (starter r images misc loader space)
  unfolding starter begun after_start
  out_31 v = rw v

  pub out_51 : valid r ≡ true → (length misc ≡ 32 → ⊥) → ◌≡◌ {A = Effect} (record { answer = refused 51 0; after = r; space = space }) (starter r images misc loader space)
  unfolding starter begun after_start
  out_51 v h = rw (v, ne_eqb (length misc) 32 h)

  begun_start : valid r ≡ true → length misc ≡ 32 → begun r misc ≡ start_of r
  unfolding begun
  begun_start v h = rw (v, eq-eqb (length misc) 32 h)

  -- past the tests before it, the record is as Start left it, whatever is answered
  pub left_by_start : valid r ≡ true → length misc ≡ 32 → (starter r images misc loader space).after ≡ (start_of r).after
  unfolding starter
  left_by_start v h = ap (λ (c : slots.Change). c.after) (begun_start v h)

  pub out_after : valid r ≡ true → length misc ≡ 32 → {a : Answer Deed} {s : List ℕ}
      → leaving a s ≡ after_start (start_of r).answer images (asks_recovery misc) loader space
      → ◌≡◌ {A = Effect} (record { answer = a; after = (start_of r).after; space = s }) (starter r images misc loader space)
  unfolding starter
  out_after v h e = rw (begun_start v h) (ap (λ (b : Booted). record { answer = b.answer; after = (start_of r).after; space = b.space }) e)

  -- and so by what Start answers, c being that and the record after it
  module _ (c : slots.Change) (started : c ≡ start_of r) where
    told : {a : Answer slots.Deed} → c.answer ≡ a → number_of a ≡ number_of (start_of r).answer
    told e = ap number_of (sym e) ∙ ap (λ (x : slots.Change). number_of x.answer) started

    pub ends_31 : (n : ℕ) → 0 < n → c.answer ≡ refused n 0 → ◌≡◌ {A = Effect} (record { answer = refused n 0; after = r; space = space }) (starter r images misc loader space)
    ends_31 n h e =
        let p = invalid r n (told e) h in
        ap (λ (k : ℕ). record { answer = refused k 0; after = r; space = space }) p.1 ∙ out_31 p.0

    module _ (d : slots.Deed) (e : c.answer ≡ accepted d) where
      ok : valid r ≡ true
      ok = is_valid r 0 (told e) (omega arith)

      pub ends_51 : (length misc ≡ 32 → ⊥) → ◌≡◌ {A = Effect} (record { answer = refused 51 0; after = r; space = space }) (starter r images misc loader space)
      ends_51 other = out_51 ok other

      pub ends_after : length misc ≡ 32 → {a : Answer Deed} {s : List ℕ} {asked : Bool} → asked ≡ asks_recovery misc
          → leaving a s ≡ after_start (accepted d) images asked loader space
          → ◌≡◌ {A = Effect} (record { answer = a; after = c.after; space = s }) (starter r images misc loader space)
      ends_after full {a} {s} {asked} ask h =
          let same : accepted d ≡ (start_of r).answer = sym e ∙ ap (λ (x : slots.Change). x.answer) started in
          ap (λ (x : slots.Change). record { answer = a; after = x.after; space = s }) started
          ∙ out_after ok full (h ∙ (λ i. after_start (same i) images (ask i) loader space))
