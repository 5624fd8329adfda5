-- An unproven slot gives up: the sentences of specs/GivesUp.antt, each by the laws of the slot record.
-- Assumes nothing.
use mathlib.Core.Path.{◌≡◌, refl, sym, ap, ◌∙◌}
use mathlib.Core.Bool.{Bool, true, false, not, cond, ◌&&◌}
use mathlib.Core.List.{List}
use mathlib.Core.Logic.{inr}
use Prim.Native.Nat.{ℕ, ◌-◌, ◌≤◌}
use native.Mathlib.Omega.{arith}
use Rattle.rules.specs.Answer.{Answer, accepted, refused}
use Rattle.slot_rules.specs.declared.Record.{Record}
use Rattle.slot_rules.specs.declared.Op.{Op}
use Rattle.slot_rules.specs.declared.Op.TheVariants.{Start}
use Rattle.slot_rules.specs.OneSlot.{may_start}
use Rattle.slot_rules.specs.Records.{slot_at, current_slot, valid}
use Rattle.slot_rules.specs.Answers.{Deed, recovery}
use Rattle.slot_rules.specs.Operations.{fresh_of, start_of}
use Rattle.slot_rules.specs.Applied.{apply}
use Rattle.slot_rules.specs.Promises.{after, starts_slot, renews, confirms, Qualifies}
use Rattle.slot_sequence_rules.specs.Sequences.{reached, starting, Begins, beginning, renewed}
use Rattle.slot_sequence_rules.specs.GivesUp.{CountsAsNone, run_length, GivesUp, EachGivesUp}
use Rattle.slot_rules.proofs.Answers.{starts_none, refused_renews_none, refused_confirms_none}
use Rattle.slot_rules.proofs.Promises.{promises}
use Rattle.slot_sequence_rules.proofs.Bound.{along, bounded, few_after, few_fresh}
use Rattle.slot_sequence_rules.proofs.Fourth.{soon}

-- "Refused operations do not count as any of these"
refused_none : (o : Op) (r : Record) (m p : ℕ) → (apply o r).answer ≡ refused m p → CountsAsNone o r
refused_none o r m p e = record {
  starts_none = λ i. ap (λ (a : Answer Deed). starts_slot a i) e;
  renews_none = λ i. ap (λ (a : Answer Deed). renews o a i) e ∙ refused_renews_none o m p i;
  confirms_none = λ i. ap (λ (a : Answer Deed). confirms o a r i) e ∙ refused_confirms_none o m p r i;
  changes_nothing = (promises.lawful o r).refusal_keeps m p e;
}

-- "A start that does not pick a slot takes no try from it"
tries_kept : (r : Record) (i : ℕ) → starting i Start r ≡ false → (slot_at (after Start r) i).tries ≡ (slot_at r i).tries
tries_kept r i e = (promises.lawful Start r).tries_go i ∙ ap (λ (b : Bool). cond (b && not (slot_at r i).successful) ((slot_at r i).tries - 1) (slot_at r i).tries) e

-- Recovery, in a valid record
module _ (r : Record) (v : valid r ≡ true) where
  recovers : (start_of r).answer ≡ accepted recovery → (may_start (current_slot r) ≡ false) × ((j : ℕ) → Qualifies r j → ⊥)
  recovers e = (stuck, none) where
    stuck : may_start (current_slot r) ≡ false
    stuck = go (may_start (current_slot r)) refl where
      go : (b : Bool) → may_start (current_slot r) ≡ b → b ≡ false
      go true may = starts_none (accepted recovery) r.current refl (sym e ∙ (promises.picks r v).own may)
      go false may = refl

    none : (j : ℕ) → Qualifies r j → ⊥
    none j q = starts_none (accepted recovery) ((promises.picks r v).other stuck j q).slot refl (sym e ∙ ((promises.picks r v).other stuck j q).is_started)

  recovered : (may_start (current_slot r) ≡ false) × ((j : ℕ) → Qualifies r j → ⊥) → (start_of r).answer ≡ accepted recovery
  recovered h = (promises.picks r v).none h.0 h.1

-- what holds of every record of a sequence from a fresh one: it is valid, and no slot has more than three tries
module _ (n : ℕ) (lo : 1 ≤ n) (hi : n ≤ 4) where
  all_valid : (os : List Op) → valid (reached n os) ≡ true
  all_valid os = along (λ (r : Record). valid r ≡ true) (λ o r. (promises.lawful o r).stays_valid) os (fresh_of n).after (promises.fresh_valid n lo hi).1

  all_few : (os : List Op) (i : ℕ) → (slot_at (reached n os) i).tries ≤ 3
  all_few os = along (λ (r : Record). (i : ℕ) → (slot_at r i).tries ≤ 3) few_after os (fresh_of n).after (few_fresh n)

  -- where a stretch begins, the slot is not successful, and has at most three tries
  begins : (i : ℕ) (r : Record) → Begins n i r → ((slot_at r i).successful ≡ false) × ((slot_at r i).tries ≤ 3)
  begins i _ beginning = ((promises.fresh_clear n i).1, few_fresh n i)
  begins i _ (renewed os o e) = (((promises.lawful o (reached n os)).renewal_clears i e).0, few_after o (reached n os) (all_few os) i)

  gives_up : GivesUp n
  gives_up = record {
    at_most_three = λ i r b os p q. omega (arith, bounded os r i (begins i r b).0 p q, (begins i r b).1);
    refused_none = refused_none;
    tries_kept = tries_kept;
    fourth_successful = λ os j q ss s. soon (run_length - 1) (reached n os) ss s (inr (record { is_valid = all_valid os; other = j; qualifies = q; few = omega (arith, all_few os (reached n os).current) }));
    recovery_exactly = λ os. (recovers (reached n os) (all_valid os), recovered (reached n os) (all_valid os));
  }

pub each_gives_up : EachGivesUp
each_gives_up = record { gives_up = gives_up }
