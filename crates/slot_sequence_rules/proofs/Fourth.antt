-- Four starts: where another slot qualifies, each Start of a current one that is not successful takes one of its tries, so that one that is successful starts soon.
-- Assumes nothing.
use mathlib.Core.Path.{◌≡◌, refl, sym, ap, subst, ◌∙◌}
use mathlib.Core.Bool.{Bool, true, false}
use mathlib.Core.List.{List}
use mathlib.Core.Logic.{◌⊎◌, inl, inr}
use Prim.Native.Nat.{ℕ, suc, ◌-◌, ◌<◌, ◌≤◌}
use native.Mathlib.Omega.{arith}
use borrow.Author.Tests.{eq-eqb}
use Rattle.rules.specs.Answer.{accepted}
use Rattle.slot_rules.specs.declared.Slot.{Slot}
use Rattle.slot_rules.specs.declared.Record.{Record}
use Rattle.slot_rules.specs.declared.Op.{Op}
use Rattle.slot_rules.specs.declared.Op.TheVariants.{Start}
use Rattle.slot_rules.specs.OneSlot.{may_start}
use Rattle.slot_rules.specs.Records.{slot_at, current_slot, valid}
use Rattle.slot_rules.specs.Answers.{starts}
use Rattle.slot_rules.specs.Operations.{start_of}
use Rattle.slot_rules.specs.Promises.{after, Started, Qualifies, StartsUpTo}
use Rattle.slot_sequence_rules.specs.Sequences.{run, RunOfStarts, none, start, refusal}
use Rattle.slot_sequence_rules.specs.GivesUp.{StartsSuccessful}
use Rattle.slot_rules.proofs.Search.{qualifies_kept}
use Rattle.slot_rules.proofs.Promises.{promises}

-- the current slot is successful and may start
pub record Settled (r : Record) : Type 0 where
  pub is_valid : valid r ≡ true
  pub may : may_start (current_slot r) ≡ true
  pub is_successful : (current_slot r).successful ≡ true

-- some other slot qualifies, and the current one has at most m tries
pub record Near (m : ℕ) (r : Record) : Type 0 where
  pub is_valid : valid r ≡ true
  pub other : ℕ
  pub qualifies : Qualifies r other
  pub few : (current_slot r).tries ≤ m

-- a Start that starts a successful slot k leaves a record in which it does so again
module _ (r : Record) (v : valid r ≡ true) (k : ℕ) (e : (start_of r).answer ≡ accepted (starts k)) (s : (slot_at r k).successful ≡ true) where
  started : Started r k
  started = promises.started r k e

  same : current_slot (start_of r).after ≡ slot_at r k
  same = ap (slot_at (start_of r).after) started.is_current ∙ started.successful_kept s

  settles : Settled (start_of r).after
  settles = record {
    is_valid = (promises.lawful Start r).stays_valid v;
    may = ap may_start same ∙ started.could_start;
    is_successful = ap (λ (t : Slot). t.successful) same ∙ s;
  }

-- a Start of a current slot that is not successful leaves it with a try less, and the other slot as it was
module _ (r : Record) (m : ℕ) (h : Near (suc m) r) (may : may_start (current_slot r) ≡ true) (u : (current_slot r).successful ≡ false) where
  own : (start_of r).answer ≡ accepted (starts r.current)
  own = (promises.picks r h.is_valid).own may

  stays : (start_of r).after.current ≡ r.current
  stays = (promises.started r r.current own).is_current

  nearer : Near m (start_of r).after
  nearer = record {
    is_valid = (promises.lawful Start r).stays_valid h.is_valid;
    other = h.other;
    qualifies = qualifies_kept r (start_of r).after h.other stays ((promises.lawful Start r).others_kept h.other h.qualifies.not_current) h.qualifies;
    few = rw (stays, less) (omega (arith, h.few));
  } where
    less : (slot_at (start_of r).after r.current).tries ≡ (slot_at r r.current).tries - 1
    less = (promises.lawful Start r).tries_go r.current ∙ simp (own, eq-eqb r.current r.current refl, u)

-- a Start where the current slot may not start and another qualifies, and one on a settled record: it starts a successful slot
module _ (r : Record) where
  over_successful : (m : ℕ) → Near m r → may_start (current_slot r) ≡ false → StartsSuccessful r
  over_successful m h stuck =
      let first : StartsUpTo r h.other = (promises.picks r h.is_valid).other stuck h.other h.qualifies in
      record { slot = first.slot; is_started = first.is_started; is_successful = first.qualifies.is_successful }

  settled_successful : Settled r → StartsSuccessful r
  settled_successful h = record { slot = r.current; is_started = (promises.picks r h.is_valid).own h.may; is_successful = h.is_successful }

  successful_settles : valid r ≡ true → StartsSuccessful r → Settled (start_of r).after
  successful_settles v h = settles r v h.slot h.is_started h.is_successful

-- where the current slot has at most m + 1 tries, a Start starts a successful slot or takes one of them
near_step : (m : ℕ) (r : Record) → Near (suc m) r → Settled (start_of r).after ⊎ Near m (start_of r).after
near_step m r h = go (may_start (current_slot r)) (current_slot r).successful refl refl where
  go : (a b : Bool) → may_start (current_slot r) ≡ a → (current_slot r).successful ≡ b → Settled (start_of r).after ⊎ Near m (start_of r).after
  go true true may s = inl (successful_settles r h.is_valid (settled_successful r (record { is_valid = h.is_valid; may = may; is_successful = s })))
  go true false may u = inr (nearer r m h may u)
  go false b stuck e = inl (successful_settles r h.is_valid (over_successful r (suc m) h stuck))

-- where it has none, a Start starts a successful slot
near_end : (r : Record) → Near 0 r → StartsSuccessful r
near_end r h = go (may_start (current_slot r)) (current_slot r).successful refl refl where
  go : (a b : Bool) → may_start (current_slot r) ≡ a → (current_slot r).successful ≡ b → StartsSuccessful r
  go true true may s = settled_successful r (record { is_valid = h.is_valid; may = may; is_successful = s })
  go true false may u =
      let try : 0 < (current_slot r).tries = (promises.started r r.current ((promises.picks r h.is_valid).own may)).has_try u in
      absurd (omega (arith, try, h.few))
  go false b stuck e = over_successful r 0 h stuck

-- after as many starts as the current slot has tries, the next starts a successful slot
pub soon : (m : ℕ) (r : Record) (ss : List Op) → RunOfStarts m r ss → Settled r ⊎ Near m r → StartsSuccessful (run r ss)
unfolding run
soon _ _ _ (none r) (inl h) = settled_successful r h
soon _ _ _ (none r) (inr h) = near_end r h
soon _ _ _ (start m r ss s) (inl h) = soon m (start_of r).after ss s (inl (successful_settles r h.is_valid (settled_successful r h)))
soon _ _ _ (start m r ss s) (inr h) = soon m (start_of r).after ss s (near_step m r h)
soon _ _ _ (refusal m r o ss k p e s) h = soon m (after o r) ss s (subst (λ (x : Record). Settled x ⊎ Near m x) (sym ((promises.lawful o r).refusal_keeps k p e)) h)
