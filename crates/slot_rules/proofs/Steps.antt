-- Each operation, by its cases: it refuses and keeps the record, or it replaces one entry and names the current slot.
-- Assumes nothing.
use mathlib.Core.Path.{◌≡◌, refl, sym, ap, subst, ◌∙◌}
use mathlib.Core.Bool.{Bool, true, false, not, ◌&&◌, ◌||◌}
use Prim.Native.Nat.{ℕ, ◌<◌}
use native.Mathlib.Omega.{arith}
use lib.Dec.{ltb, eqb}
use borrow.Author.Tests.{ltb-true, eq-eqb, ne_eqb, eqb-true}
use Rattle.rules.specs.Answer.{accepted, refused}
use Rattle.slot_rules.specs.declared.Slot.{Slot}
use Rattle.slot_rules.specs.declared.Record.{Record}
use Rattle.slot_rules.specs.declared.Op.{Op}
use Rattle.slot_rules.specs.declared.Op.TheVariants.{Start, SetActive, Modified, Corrupted, Confirm}
use Rattle.slot_rules.specs.OneSlot.{slot_valid, may_start, may_confirm, with_tries, spent, marked, activated, modified, damaged, confirmed}
use Rattle.slot_rules.specs.Records.{slot_at, current_slot, is_in_use, valid, replaced, with_current}
use Rattle.slot_rules.specs.Answers.{Deed, starts, recovery, done, Change, beside, change}
use Rattle.slot_rules.specs.Operations.{first_other, start_of, on_slot, confirm_of}
use Rattle.slot_rules.specs.Applied.{apply}
use Rattle.slot_rules.specs.Promises.{about, starts_slot, is_done, renews, confirms, marks, is_giving_way, tries_after, current_after, Qualifies}
use Rattle.slot_rules.proofs.Tests.{clash, by_cond}
use Rattle.slot_rules.proofs.Laws.{in_use_place, valid_in_use, valid_slots, start_own, start_other, start_invalid, on_slot_invalid, on_slot_unused, on_slot_done, confirm_invalid, confirm_unsound, confirm_done}
use Rattle.slot_rules.proofs.Answers.{starts_one, starts_none}
use Rattle.slot_rules.proofs.OneSlot.{renewed_valid, spent_valid, spent_same, spent_none, marked_valid, damaged_valid, confirmed_valid, stuck_corrupted}
use Rattle.slot_rules.proofs.Places.{replaced_here, replaced_other, each_valid, in_use_used}
use Rattle.slot_rules.proofs.Search.{qualifies_starts, found_qualifies}

-- what is known of the slot s that o, which does d, puts in place i
pub record Made (o : Op) (r : Record) (d : Deed) (i : ℕ) (s : Slot) : Type 0 where
  pub used_kept : s.used ≡ (slot_at r i).used
  pub still_valid : slot_valid s ≡ true
  pub unbootable_set : (slot_at r i).unbootable ≡ false → s.unbootable ≡ true → marks o r i ≡ true
  pub unbootable_kept : (slot_at r i).unbootable ≡ true → s.unbootable ≡ false → o ≡ SetActive i
  pub successful_set : (slot_at r i).successful ≡ false → s.successful ≡ true → confirms o (accepted d) r i ≡ true
  pub successful_kept : (slot_at r i).successful ≡ true → s.successful ≡ false → (renews o (accepted d) i || is_giving_way o r i) ≡ true
  pub corrupted_set : (slot_at r i).corrupted ≡ false → s.corrupted ≡ true → o ≡ Corrupted i
  pub corrupted_kept : (slot_at r i).corrupted ≡ true → s.corrupted ≡ false → renews o (accepted d) i ≡ true
  pub renewed : renews o (accepted d) i ≡ true → (s.successful ≡ false) × (s.corrupted ≡ false)
  pub tries_now : s.tries ≡ tries_after o (accepted d) i (slot_at r i)

-- what is known where o does d, puts s in place i and makes k current
pub record Entry (o : Op) (r : Record) (d : Deed) (i : ℕ) (s : Slot) (k : ℕ) : Type 0 where
  pub was_valid : valid r ≡ true
  pub made : Made o r d i s
  pub at_place : i ≡ about o r
  pub place_used : is_in_use r i ≡ true
  pub current_used : is_in_use r k ≡ true
  pub current_now : k ≡ current_after o (accepted d) r
  pub started : (j : ℕ) → accepted d ≡ accepted (starts j) → (k ≡ j) × (may_start (slot_at r k) ≡ true) × ((slot_at r k).successful ≡ true → slot_at (replaced r i s) k ≡ slot_at r k)
  pub who_starts : (j : ℕ) → starts_slot (accepted d) j ≡ true → o ≡ Start
  pub who_recovers : accepted d ≡ accepted recovery → o ≡ Start
  pub no_try : (j : ℕ) → (j ≡ i → ⊥) → (starts_slot (accepted d) j && not (slot_at r j).successful) ≡ false

pub data Step (o : Op) (r : Record) : Change → Type 0 where
  refusal : (n : ℕ) → 0 < n → Step o r (beside (refused n 0) r)
  entry : (d : Deed) (i : ℕ) (s : Slot) (k : ℕ) → Entry o r d i s k → Step o r (change d (with_current (replaced r i s) k))

module _ (r : Record) (v : valid r ≡ true) where
  each : (i : ℕ) → is_in_use r i ≡ true → slot_valid (slot_at r i) ≡ true
  each i u = each_valid r (valid_slots r v) i (in_use_place r i u)

  used : is_in_use r r.current ≡ true
  used = valid_in_use r v

  spent_made : Made Start r (starts r.current) r.current (spent (current_slot r))
  spent_made = record {
    used_kept = same (λ t. t.used) (λ _. refl);
    still_valid = spent_valid (current_slot r) (each r.current used);
    unbootable_set = λ p q. clash q (same (λ t. t.unbootable) (λ _. refl) ∙ p);
    unbootable_kept = λ p q. clash (same (λ t. t.unbootable) (λ _. refl) ∙ p) q;
    successful_set = λ p q. clash q (same (λ t. t.successful) (λ _. refl) ∙ p);
    successful_kept = λ p q. clash (same (λ t. t.successful) (λ _. refl) ∙ p) q;
    corrupted_set = λ p q. clash q (same (λ t. t.corrupted) (λ _. refl) ∙ p);
    corrupted_kept = λ p q. clash (same (λ t. t.corrupted) (λ _. refl) ∙ p) q;
    renewed = λ e. clash e refl;
    tries_now = by_cond (current_slot r).successful (λ (t : Slot). t.tries ≡ tries_after Start (accepted (starts r.current)) r.current (current_slot r)) (λ e. simp (eq-eqb r.current r.current refl, e)) (λ e. simp (eq-eqb r.current r.current refl, e));
  } where
    same : {A : Type 0} (f : Slot → A) → ((n : ℕ) → f (with_tries (current_slot r) n) ≡ f (current_slot r)) → f (spent (current_slot r)) ≡ f (current_slot r)
    same = spent_same (current_slot r)

  own_entry : may_start (current_slot r) ≡ true → Entry Start r (starts r.current) r.current (spent (current_slot r)) r.current
  own_entry m = record {
    was_valid = v;
    made = spent_made;
    at_place = refl;
    place_used = used;
    current_used = used;
    current_now = refl;
    started = λ j e. (starts_one r.current j e, m, λ p. replaced_here r r.current (spent (current_slot r)) used ∙ spent_none (current_slot r) p);
    who_starts = λ j e. refl;
    who_recovers = λ e. refl;
    no_try = λ j h. simp (ne_eqb j r.current h);
  }

  module _ (m : may_start (current_slot r) ≡ false) where
    marked_made : (d : Deed) → starts_slot (accepted d) r.current ≡ false → Made Start r d r.current (marked (current_slot r))
    marked_made d e = record {
      used_kept = refl;
      still_valid = marked_valid (current_slot r) (each r.current used);
      unbootable_set = λ p q. simp (eq-eqb r.current r.current refl, m);
      unbootable_kept = λ p q. clash refl q;
      successful_set = λ p q. clash q refl;
      successful_kept = λ p q. simp (eq-eqb r.current r.current refl, stuck_corrupted (current_slot r) (each r.current used) (in_use_used r r.current used) m p);
      corrupted_set = λ p q. clash q p;
      corrupted_kept = λ p q. clash p q;
      renewed = λ e. clash e refl;
      tries_now = simp e;
    }

    other_entry : (k : ℕ) → Qualifies r k → Entry Start r (starts k) r.current (marked (current_slot r)) k
    other_entry k q = record {
      was_valid = v;
      made = marked_made (starts k) (ne_eqb r.current k (λ e. q.not_current (sym e)));
      at_place = refl;
      place_used = used;
      current_used = q.in_use;
      current_now = refl;
      started = λ j e. (starts_one k j e, qualifies_starts r k q, λ _. replaced_other r r.current (marked (current_slot r)) k q.not_current);
      who_starts = λ j e. refl;
      who_recovers = λ e. refl;
      no_try = λ j _. by_place j (eqb j k) refl;
    } where
      by_place : (j : ℕ) (b : Bool) → eqb j k ≡ b → (eqb j k && not (slot_at r j).successful) ≡ false
      by_place j true e = simp (eqb-true j k e, eq-eqb k k refl, q.is_successful)
      by_place j false e = simp e

    none_entry : Entry Start r recovery r.current (marked (current_slot r)) r.current
    none_entry = record {
      was_valid = v;
      made = marked_made recovery refl;
      at_place = refl;
      place_used = used;
      current_used = used;
      current_now = refl;
      started = λ j. starts_none (accepted recovery) j refl;
      who_starts = λ j e. refl;
      who_recovers = λ e. refl;
      no_try = λ j h. refl;
    }

  module _ (k : ℕ) (u : is_in_use r k ≡ true) where
    -- what set active and partition modified share: they differ in the flag b, unbootable
    renewed_made : (o : Op) (b : Bool) → renews o (accepted done) k ≡ true → ((slot_at r k).unbootable ≡ false → b ≡ false) → ((slot_at r k).unbootable ≡ true → b ≡ false → o ≡ SetActive k) → Made o r done k (record { used = (slot_at r k).used; unbootable = b; successful = false; corrupted = false; tries = 3 })
    renewed_made o b e stays cleared = record {
      used_kept = refl;
      still_valid = renewed_valid (slot_at r k).used b;
      unbootable_set = λ p q. clash q (stays p);
      unbootable_kept = cleared;
      successful_set = λ p q. clash q refl;
      successful_kept = λ p q. simp e;
      corrupted_set = λ p q. clash q refl;
      corrupted_kept = λ p q. e;
      renewed = λ _. (refl, refl);
      tries_now = simp e;
    }

    activated_made : Made (SetActive k) r done k (activated (slot_at r k))
    activated_made = renewed_made (SetActive k) false (eq-eqb k k refl) (λ p. refl) (λ p q. refl)

    modified_made : Made (Modified k) r done k (modified (slot_at r k))
    modified_made = renewed_made (Modified k) (slot_at r k).unbootable (eq-eqb k k refl) (λ p. p) (λ p q. clash p q)

    damaged_made : Made (Corrupted k) r done k (damaged (slot_at r k))
    damaged_made = record {
      used_kept = refl;
      still_valid = damaged_valid (slot_at r k) (each k u);
      unbootable_set = λ p q. clash q p;
      unbootable_kept = λ p q. clash p q;
      successful_set = λ p q. clash q p;
      successful_kept = λ p q. clash p q;
      corrupted_set = λ p q. refl;
      corrupted_kept = λ p q. clash refl q;
      renewed = λ e. clash e refl;
      tries_now = refl;
    }

  confirmed_made : may_confirm (current_slot r) ≡ true → Made Confirm r done r.current (confirmed (current_slot r))
  confirmed_made m = record {
    used_kept = refl;
    still_valid = confirmed_valid (current_slot r) (each r.current used) m;
    unbootable_set = λ p q. clash q p;
    unbootable_kept = λ p q. clash p q;
    successful_set = λ p q. eq-eqb r.current r.current refl;
    successful_kept = λ p q. clash refl q;
    corrupted_set = λ p q. clash q p;
    corrupted_kept = λ p q. clash p q;
    renewed = λ e. clash e refl;
    tries_now = refl;
  }

  -- an operation that is done, of which no slot starts
  done_entry : (o : Op) (s : Slot) (k : ℕ) → is_in_use r (about o r) ≡ true → is_in_use r k ≡ true → k ≡ current_after o (accepted done) r → Made o r done (about o r) s → Entry o r done (about o r) s k
  done_entry o s k u w c m = record {
    was_valid = v;
    made = m;
    at_place = refl;
    place_used = u;
    current_used = w;
    current_now = c;
    started = λ j. starts_none (accepted done) j refl;
    who_starts = λ j e. clash e refl;
    who_recovers = λ e. clash refl (ap is_done e);
    no_try = λ j h. refl;
  }

  start_step : (m : Bool) → may_start (current_slot r) ≡ m → Step Start r (start_of r)
  start_step true m = subst (Step Start r) (sym (start_own r v m)) (entry _ _ _ _ (own_entry m))
  start_step false m =
      subst (Step Start r) (sym (start_other r v m))
      (by_cond (ltb (first_other r) 4) (Step Start r) (λ h. entry _ _ _ _ (other_entry m (first_other r) (found_qualifies r (ltb-true _ _ h)))) (λ _. entry _ _ _ _ (none_entry m)))

  -- one argument for every operation on a slot: what it makes of the slot, and that the slot k that it makes current is in use where its own is
  on_slot_step : (o : Op) (s : Slot) (k : ℕ) → k ≡ current_after o (accepted done) r → (is_in_use r (about o r) ≡ true → is_in_use r k ≡ true) → (is_in_use r (about o r) ≡ true → Made o r done (about o r) s) → (u : Bool) → is_in_use r (about o r) ≡ u → Step o r (on_slot r (about o r) s k)
  on_slot_step o s k c w m true u = subst (Step o r) (sym (on_slot_done r v (about o r) s k u)) (entry _ _ _ _ (done_entry o s k u (w u) c (m u)))
  on_slot_step o s k c w m false u = subst (Step o r) (sym (on_slot_unused r v (about o r) s k u)) (refusal 32 (omega arith))

  confirm_step : (m : Bool) → may_confirm (current_slot r) ≡ m → Step Confirm r (confirm_of r)
  confirm_step true m = subst (Step Confirm r) (sym (confirm_done r v m)) (entry _ _ _ _ (done_entry Confirm _ _ used used refl (confirmed_made m)))
  confirm_step false m = subst (Step Confirm r) (sym (confirm_unsound r v m)) (refusal 33 (omega arith))

  valid_step : (o : Op) → Step o r (apply o r)
  valid_step Start = start_step (may_start (current_slot r)) refl
  valid_step (SetActive k) = on_slot_step (SetActive k) (activated (slot_at r k)) k refl (λ u. u) (activated_made k) (is_in_use r k) refl
  valid_step (Modified k) = on_slot_step (Modified k) (modified (slot_at r k)) r.current refl (λ _. used) (modified_made k) (is_in_use r k) refl
  valid_step (Corrupted k) = on_slot_step (Corrupted k) (damaged (slot_at r k)) r.current refl (λ _. used) (damaged_made k) (is_in_use r k) refl
  valid_step Confirm = confirm_step (may_confirm (current_slot r)) refl

module _ (r : Record) (v : valid r ≡ false) where
  pub invalid_answer : (o : Op) → apply o r ≡ beside (refused 31 0) r
  invalid_answer Start = start_invalid r v
  invalid_answer (SetActive k) = on_slot_invalid r v k (activated (slot_at r k)) k
  invalid_answer (Modified k) = on_slot_invalid r v k (modified (slot_at r k)) r.current
  invalid_answer (Corrupted k) = on_slot_invalid r v k (damaged (slot_at r k)) r.current
  invalid_answer Confirm = confirm_invalid r v

step_by : (r : Record) (o : Op) (b : Bool) → valid r ≡ b → Step o r (apply o r)
step_by r o true v = valid_step r v o
step_by r o false v = subst (Step o r) (sym (invalid_answer r v o)) (refusal 31 (omega arith))

pub step : (o : Op) (r : Record) → Step o r (apply o r)
step o r = step_by r o (valid r) refl
