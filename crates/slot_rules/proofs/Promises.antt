-- What holds of every operation on every record.
-- Assumes nothing.
use mathlib.Core.Path.{◌≡◌, refl, sym, ap, subst, ◌∙◌}
use mathlib.Core.Bool.{Bool, true, false, cond, ◌&&◌, ◌||◌}
use Prim.Native.Nat.{ℕ, zero, suc, ◌+◌, ◌<◌, ◌≤◌}
use native.Mathlib.Omega.{arith}
use lib.Dec.{ltb, leb}
use lib.ListN.{length, length-set}
use borrow.Author.Tests.{le-ltb, eq-eqb, ne_eqb}
use Rattle.rules.specs.First.{first}
use Rattle.rules.specs.Answer.{Answer, accepted, refused, number_of}
use Rattle.slot_rules.specs.declared.Slot.{Slot}
use Rattle.slot_rules.specs.declared.Record.{Record}
use Rattle.slot_rules.specs.declared.Op.{Op}
use Rattle.slot_rules.specs.declared.Op.TheVariants.{Start, SetActive, Modified, Corrupted, Confirm}
use Rattle.slot_rules.specs.OneSlot.{slot_valid, count_of, stepped, may_start, marked, activated, modified, damaged}
use Rattle.slot_rules.specs.Records.{slot_at, current_slot, is_in_use, slots_valid, startable_in, valid, replaced, with_current, new_record}
use Rattle.slot_rules.specs.Answers.{Deed, starts, recovery, done, Change, beside, change}
use Rattle.slot_rules.specs.Operations.{fresh_tests, fresh_of, start_tests, first_other, start_of, corrupted_of, confirm_of, startable_of}
use Rattle.slot_rules.specs.Applied.{apply}
use Rattle.slot_rules.specs.Promises.{about, starts_slot, is_done, renews, confirms, marks, is_giving_way, tries_after, current_after, Lawful, Started, Damages, Counts, RefusalNumbers, PastD, Promises}
use Rattle.rules.proofs.Answer.{unless_number, has_number}
use Rattle.slot_rules.proofs.Tests.{and_false, clash, by_cond}
use Rattle.slot_rules.proofs.OneSlot.{corrupted_unsound, corrupted_stuck, starts_bootable, starts_intact, starts_try}
use Rattle.slot_rules.proofs.Answers.{starts_none, not_refused, refused_renews_none, refused_or_numbered}
use Rattle.slot_rules.proofs.Laws.{valid_in_use, valid_slots, valid_count, miscounted, count_invalid, count_told, start_invalid, start_own, start_other, on_slot_done, confirm_unsound, past_alike, fresh_made, fresh_none, fresh_past}
use Rattle.slot_rules.proofs.Places.{replaced_here, by_place, each_valid, all_valid, in_use_used, counted_in, count_replaced, count_moves}
use Rattle.slot_rules.proofs.Steps.{Made, Step, refusal, entry, step, invalid_answer}
use Rattle.slot_rules.proofs.Picks.{picks}

-- a refusal makes no slot current
not_moved : (o : Op) (r : Record) (n p : ℕ) → r.current ≡ current_after o (refused n p) r
not_moved Start r n p = refl
not_moved (SetActive k) r n p = refl
not_moved (Modified k) r n p = refl
not_moved (Corrupted k) r n p = refl
not_moved Confirm r n p = refl

-- no operation renews a slot that it is not about
others_not_renewed : (o : Op) (r : Record) (a : Answer Deed) (j : ℕ) → (j ≡ about o r → ⊥) → renews o a j ≡ false
others_not_renewed Start r a j h = refl
others_not_renewed (SetActive k) r a j h = ap (◌&&◌ (is_done a)) (ne_eqb j k h) ∙ and_false (is_done a)
others_not_renewed (Modified k) r a j h = ap (◌&&◌ (is_done a)) (ne_eqb j k h) ∙ and_false (is_done a)
others_not_renewed (Corrupted k) r a j h = refl
others_not_renewed Confirm r a j h = refl

module _ (o : Op) (r : Record) where
  keeps : (c : Change) → Step o r c → (n p : ℕ) → c.answer ≡ refused n p → c.after ≡ r
  keeps _ (refusal _ _) n p e = refl
  keeps _ (entry d i s k known) n p e = not_refused d n p e

  numbers : (c : Change) → Step o r c → (n p : ℕ) → c.answer ≡ refused n p → 0 < n
  numbers _ (refusal m h) n p e = let q : m ≡ n = ap number_of e in omega (arith, h, q)
  numbers _ (entry d i s k known) n p e = not_refused d n p e

  uses : (c : Change) → Step o r c → (i : ℕ) → (slot_at c.after i).used ≡ (slot_at r i).used
  uses _ (refusal _ _) j = refl
  uses _ (entry d i s k known) j = by_place r i s known.place_used (λ (j : ℕ) (t : Slot). t.used ≡ (slot_at r j).used) known.made.used_kept (λ j _. refl) j

  unused : (c : Change) → Step o r c → (i : ℕ) → (slot_at r i).used ≡ false → slot_at c.after i ≡ slot_at r i
  unused _ (refusal _ _) j e = refl
  unused _ (entry d i s k known) j e =
      by_place r i s known.place_used (λ (j : ℕ) (t : Slot). (slot_at r j).used ≡ false → t ≡ slot_at r j) (λ e. clash (in_use_used r i known.place_used) e) (λ j _ _. refl) j e

  others : (c : Change) → Step o r c → (i : ℕ) → (i ≡ about o r → ⊥) → slot_at c.after i ≡ slot_at r i
  others _ (refusal _ _) j h = refl
  others _ (entry d i s k known) j h =
      by_place r i s known.place_used (λ (j : ℕ) (t : Slot). (j ≡ about o r → ⊥) → t ≡ slot_at r j) (λ h. absurd (h known.at_place)) (λ j _ _. refl) j h

  places : (c : Change) → Step o r c → length c.after.slots ≡ length r.slots
  places _ (refusal _ _) = refl
  places _ (entry d i s k known) = length-set r.slots i s

  -- the count that is kept steps as the count of the flags does
  right : (c : Change) → Step o r c → r.startable ≡ startable_in r → c.after.startable ≡ startable_in c.after
  right _ (refusal _ _) e = e
  right _ (entry d i s k known) e = count_replaced r i known.place_used s e k

  steps : (c : Change) → Step o r c → c.after.startable + count_of (slot_at r (about o r)) ≡ r.startable + count_of (slot_at c.after (about o r))
  steps _ (refusal _ _) = refl
  steps _ (entry d i s k known) =
      subst (λ (j : ℕ). stepped r.startable (slot_at r i) s + count_of (slot_at r j) ≡ r.startable + count_of (slot_at (replaced r i s) j)) known.at_place
      (count_moves r i known.place_used s (valid_count r known.was_valid))

  stays : (c : Change) → Step o r c → valid r ≡ true → valid c.after ≡ true
  unfolding valid
  stays _ (refusal _ _) v = v
  stays _ (entry d i s k known) v = simp (current, slots, eq-eqb _ _ (right _ (entry d i s k known) (valid_count r v))) where
    slots : slots_valid (with_current (replaced r i s) k) ≡ true
    slots = all_valid (with_current (replaced r i s) k) (by_place r i s known.place_used (λ (j : ℕ) (t : Slot). j < 4 → slot_valid t ≡ true) (λ _. known.made.still_valid) (λ j _. each_valid r (valid_slots r v) j))

    current : is_in_use (with_current (replaced r i s) k) k ≡ true
    current = ap (◌&&◌ (ltb k 4)) (uses _ (entry d i s k known) k) ∙ known.current_used

  -- a flag f that an operation sets, or clears, only where W says so of the answer and the place
  module _ (f : Slot → Bool) (W : Answer Deed → ℕ → Type 0) where
    sets : ((d : Deed) (i : ℕ) (s : Slot) → Made o r d i s → f (slot_at r i) ≡ false → f s ≡ true → W (accepted d) i) → (c : Change) → Step o r c → (i : ℕ) → f (slot_at r i) ≡ false → f (slot_at c.after i) ≡ true → W c.answer i
    sets here _ (refusal _ _) j p q = clash q p
    sets here _ (entry d i s k known) j p q =
        by_place r i s known.place_used (λ (j : ℕ) (t : Slot). f (slot_at r j) ≡ false → f t ≡ true → W (accepted d) j) (here d i s known.made) (λ j _ p q. clash q p) j p q

    clears : ((d : Deed) (i : ℕ) (s : Slot) → Made o r d i s → f (slot_at r i) ≡ true → f s ≡ false → W (accepted d) i) → (c : Change) → Step o r c → (i : ℕ) → f (slot_at r i) ≡ true → f (slot_at c.after i) ≡ false → W c.answer i
    clears here _ (refusal _ _) j p q = clash p q
    clears here _ (entry d i s k known) j p q =
        by_place r i s known.place_used (λ (j : ℕ) (t : Slot). f (slot_at r j) ≡ true → f t ≡ false → W (accepted d) j) (here d i s known.made) (λ j _ p q. clash p q) j p q

  renewals : (c : Change) → Step o r c → (i : ℕ) → renews o c.answer i ≡ true → ((slot_at c.after i).successful ≡ false) × ((slot_at c.after i).corrupted ≡ false)
  renewals _ (refusal n _) j e = clash e (refused_renews_none o n 0 j)
  renewals _ (entry d i s k known) j e =
      by_place r i s known.place_used (λ (j : ℕ) (t : Slot). renews o (accepted d) j ≡ true → (t.successful ≡ false) × (t.corrupted ≡ false)) known.made.renewed
      (λ j h e. clash e (others_not_renewed o r (accepted d) j (λ q. h (q ∙ sym known.at_place)))) j e

  moves : (c : Change) → Step o r c → c.after.current ≡ current_after o c.answer r
  moves _ (refusal n _) = not_moved o r n 0
  moves _ (entry d i s k known) = known.current_now

  starting : (c : Change) → Step o r c → (i : ℕ) → starts_slot c.answer i ≡ true → o ≡ Start
  starting _ (refusal _ _) j e = clash e refl
  starting _ (entry d i s k known) j e = known.who_starts j e

  recovering : (c : Change) → Step o r c → c.answer ≡ accepted recovery → o ≡ Start
  recovering _ (refusal n _) e = not_refused recovery n 0 (sym e)
  recovering _ (entry d i s k known) e = known.who_recovers e

  tries : (c : Change) → Step o r c → (i : ℕ) → (slot_at c.after i).tries ≡ tries_after o c.answer i (slot_at r i)
  tries _ (refusal n _) j = sym (ap (λ (b : Bool). cond b 3 (slot_at r j).tries) (refused_renews_none o n 0 j))
  tries _ (entry d i s k known) j =
      by_place r i s known.place_used (λ (j : ℕ) (t : Slot). t.tries ≡ tries_after o (accepted d) j (slot_at r j)) known.made.tries_now
      (λ j h. simp (others_not_renewed o r (accepted d) j (λ q. h (q ∙ sym known.at_place)), known.no_try j h)) j

-- every operation is lawful
pub lawful : (o : Op) (r : Record) → Lawful o r
lawful o r = record {
  refusal_keeps = keeps o r (apply o r) (step o r);
  stays_valid = stays o r (apply o r) (step o r);
  count_right = right o r (apply o r) (step o r);
  count_steps = steps o r (apply o r) (step o r);
  unused_kept = unused o r (apply o r) (step o r);
  others_kept = others o r (apply o r) (step o r);
  places_kept = places o r (apply o r) (step o r);
  use_kept = uses o r (apply o r) (step o r);
  current_goes = moves o r (apply o r) (step o r);
  unbootable_waits = sets o r (λ s. s.unbootable) (λ a i. marks o r i ≡ true) (λ d i s made. made.unbootable_set) (apply o r) (step o r);
  unbootable_stays = clears o r (λ s. s.unbootable) (λ a i. o ≡ SetActive i) (λ d i s made. made.unbootable_kept) (apply o r) (step o r);
  successful_waits = sets o r (λ s. s.successful) (λ a i. confirms o a r i ≡ true) (λ d i s made. made.successful_set) (apply o r) (step o r);
  successful_stays = clears o r (λ s. s.successful) (λ a i. (renews o a i || is_giving_way o r i) ≡ true) (λ d i s made. made.successful_kept) (apply o r) (step o r);
  corrupted_waits = sets o r (λ s. s.corrupted) (λ a i. o ≡ Corrupted i) (λ d i s made. made.corrupted_set) (apply o r) (step o r);
  corrupted_stays = clears o r (λ s. s.corrupted) (λ a i. renews o a i ≡ true) (λ d i s made. made.corrupted_kept) (apply o r) (step o r);
  renewal_clears = renewals o r (apply o r) (step o r);
  start_alone = starting o r (apply o r) (step o r);
  recovery_alone = recovering o r (apply o r) (step o r);
  tries_go = tries o r (apply o r) (step o r);
}

-- what Start starts
started_by : (r : Record) (c : Change) → Step Start r c → (k : ℕ) → c.answer ≡ accepted (starts k) → (is_in_use r k ≡ true) × (may_start (slot_at r k) ≡ true) × ((slot_at r k).successful ≡ true → slot_at c.after k ≡ slot_at r k) × (c.after.current ≡ k)
started_by r _ (refusal n _) j e = starts_none (refused n 0) j refl e
started_by r _ (entry d i s k known) j e =
    let q : (k ≡ j) × (may_start (slot_at r k) ≡ true) × ((slot_at r k).successful ≡ true → slot_at (replaced r i s) k ≡ slot_at r k) = known.started j e in
    subst (λ (m : ℕ). (is_in_use r m ≡ true) × (may_start (slot_at r m) ≡ true) × ((slot_at r m).successful ≡ true → slot_at (replaced r i s) m ≡ slot_at r m) × (k ≡ m)) q.0 (known.current_used, q.1, q.2, refl)

pub started : (r : Record) (k : ℕ) → (start_of r).answer ≡ accepted (starts k) → Started r k
started r k e =
    let known : (is_in_use r k ≡ true) × (may_start (slot_at r k) ≡ true) × ((slot_at r k).successful ≡ true → slot_at (start_of r).after k ≡ slot_at r k) × ((start_of r).after.current ≡ k) = started_by r (start_of r) (step Start r) k e in
    record {
      in_use = known.0;
      bootable = starts_bootable (slot_at r k) known.1;
      intact = starts_intact (slot_at r k) known.1;
      could_start = known.1;
      has_try = starts_try (slot_at r k) known.1;
      successful_kept = known.2;
      is_current = known.3;
    }

-- a corrupted slot that is current gives way
module _ (r : Record) (v : valid r ≡ true) (e : (current_slot r).corrupted ≡ true) where
  abbrev Gone : Slot → Type 0
  Gone s = (s.unbootable ≡ true) × (s.successful ≡ false)

  gone : Gone (slot_at (replaced r r.current (marked (current_slot r))) r.current)
  gone = subst Gone (sym (replaced_here r r.current (marked (current_slot r)) (valid_in_use r v))) (refl, refl)

  pub gives_way : Gone (slot_at (start_of r).after r.current)
  gives_way =
      subst (λ (c : Change). Gone (slot_at c.after r.current)) (sym (start_other r v (corrupted_stuck (current_slot r) e)))
      (by_cond (ltb (first_other r) 4) (λ (c : Change). Gone (slot_at c.after r.current)) (λ _. gone) (λ _. gone))

-- what Corrupted does with a slot in use
pub damages : (r : Record) (k : ℕ) → valid r ≡ true → is_in_use r k ≡ true → Damages r k
damages r k v u = record {
  taken = ap (λ (c : Change). c.answer) made;
  flag_set = ap (λ (s : Slot). s.corrupted) here;
  same_unbootable = ap (λ (s : Slot). s.unbootable) here;
  same_successful = ap (λ (s : Slot). s.successful) here;
  same_current = ap (λ (c : Change). c.after.current) made;
} where
  made : corrupted_of r k ≡ change done (replaced r k (damaged (slot_at r k)))
  made = on_slot_done r v k (damaged (slot_at r k)) r.current u

  here : slot_at (corrupted_of r k).after k ≡ damaged (slot_at r k)
  here = ap (λ (c : Change). slot_at c.after k) made ∙ replaced_here r k (damaged (slot_at r k)) u

-- a corrupted slot is not confirmed
pub not_confirmed : (r : Record) → valid r ≡ true → (current_slot r).corrupted ≡ true → (confirm_of r).answer ≡ refused 33 0
not_confirmed r v e = ap (λ (c : Change). c.answer) (confirm_unsound r v (corrupted_unsound (current_slot r) e))

-- a fresh record for 1 to 4 slots is valid
pub fresh_valid : (n : ℕ) → 1 ≤ n → n ≤ 4 → ((fresh_of n).answer ≡ accepted done) × (valid (fresh_of n).after ≡ true)
unfolding fresh_of valid slots_valid startable_in count_of
fresh_valid zero h l = absurd (omega arith)
fresh_valid (suc zero) h l = (refl, refl)
fresh_valid (suc (suc zero)) h l = (refl, refl)
fresh_valid (suc (suc (suc zero))) h l = (refl, refl)
fresh_valid (suc (suc (suc (suc zero)))) h l = (refl, refl)
fresh_valid (suc (suc (suc (suc (suc n))))) h l = absurd (omega arith)

-- an invalid record is refused by every operation and by the count's reader
pub invalid : (o : Op) (r : Record) → valid r ≡ false → (apply o r ≡ beside (refused 31 0) r) × (startable_of r ≡ refused 31 0)
invalid o r v = (invalid_answer r v o, count_invalid r v)

-- what is counted, by the flags
pub counts : (s : Slot) → Counts s
unfolding count_of
counts s = record {
  once = λ u b c. simp (u, b, c);
  not_unused = λ u. simp u;
  not_unbootable = λ b. simp (b, and_false s.used);
  not_corrupted = λ c. simp (corrupted_unsound s c, and_false s.used);
}

-- a slot that starts is counted, so where none is, none starts
module _ (r : Record) (v : valid r ≡ true) (z : r.startable ≡ 0) where
  no_start : {A : Type 0} (k : ℕ) → (start_of r).answer ≡ accepted (starts k) → A
  no_start k e =
      let s : Started r k = started r k e in
      absurd (omega (arith, z, valid_count r v, counted_in r k s.in_use, (counts (slot_at r k)).once (in_use_used r k s.in_use) s.bootable s.intact))

  pub none_starts : (start_of r).answer ≡ accepted recovery
  none_starts = by (may_start (current_slot r)) refl where
    by : (b : Bool) → may_start (current_slot r) ≡ b → (start_of r).answer ≡ accepted recovery
    by true e = no_start r.current ((picks r v).own e)
    by false e = (picks r v).none e (λ j q. no_start ((picks r v).other e j q).slot ((picks r v).other e j q).is_started)

-- Start never answers that a change is made
pub decides : (r : Record) → is_done (start_of r).answer ≡ false
decides r = by (valid r) refl (may_start (current_slot r)) refl
  where
    over : (b : Bool) (m : Record) (k : ℕ) → is_done (cond b (change (starts k) (with_current m k)) (change recovery m)).answer ≡ false
    over true m k = refl
    over false m k = refl

    by : (a : Bool) → valid r ≡ a → (b : Bool) → may_start (current_slot r) ≡ b → is_done (start_of r).answer ≡ false
    by false v b e = ap (λ (c : Change). is_done c.answer) (start_invalid r v)
    by true v true e = ap (λ (c : Change). is_done c.answer) (start_own r v e)
    by true v false e = ap (λ (c : Change). is_done c.answer) (start_other r v e) ∙ over (ltb (first_other r) 4) (replaced r r.current (marked (current_slot r))) (first_other r)

-- what holds of the fresh record for a number of slots that is taken, and of the one beside the refusal
by_number : (n : ℕ) (Q : Bool → Record → Type 0) → Q true (new_record n 3) → Q false (new_record 0 0) → Q (leb 1 n && leb n 4) (fresh_of n).after
by_number n Q taken none = go (leb 1 n && leb n 4) refl where
  go : (b : Bool) → (leb 1 n && leb n 4) ≡ b → Q (leb 1 n && leb n 4) (fresh_of n).after
  go true e = rw (e, fresh_made n e) taken
  go false e = rw (e, fresh_none n e) none

-- its count
pub fresh_count : (n : ℕ) → (fresh_of n).after.startable ≡ cond (leb 1 n && leb n 4) n 0
fresh_count n = by_number n (λ (b : Bool) (r : Record). r.startable ≡ cond b n 0) refl refl

-- its places
pub fresh_places : (n : ℕ) → length (fresh_of n).after.slots ≡ 4
fresh_places n = by_number n (λ (b : Bool) (r : Record). length r.slots ≡ 4) refl refl

-- a fresh record, or the one beside its refusal, has every flag clear
abbrev Clear : Slot → Type 0
Clear s = (s.unbootable ≡ false) × (s.successful ≡ false) × (s.corrupted ≡ false)

new_clear : (n t i : ℕ) → Clear (slot_at (new_record n t) i)
new_clear n t zero = (refl, refl, refl)
new_clear n t (suc zero) = (refl, refl, refl)
new_clear n t (suc (suc zero)) = (refl, refl, refl)
new_clear n t (suc (suc (suc zero))) = (refl, refl, refl)
new_clear n t (suc (suc (suc (suc i)))) = (refl, refl, refl)

pub fresh_clear : (n i : ℕ) → Clear (slot_at (fresh_of n).after i)
fresh_clear n i = by_number n (λ (b : Bool) (r : Record). Clear (slot_at r i)) (new_clear n 3 i) (new_clear 0 0 i)

-- the tries of its four places are the same
new_tries : (n t i : ℕ) → (slot_at (new_record n t) i).tries ≡ cond (ltb i 4) t 0
new_tries n t zero = refl
new_tries n t (suc zero) = refl
new_tries n t (suc (suc zero)) = refl
new_tries n t (suc (suc (suc zero))) = refl
new_tries n t (suc (suc (suc (suc i)))) = rw (le-ltb (suc (suc (suc (suc i)))) 4 (omega arith)) refl

pub fresh_tries : (n i : ℕ) → (slot_at (fresh_of n).after i).tries ≡ cond (leb 1 n && leb n 4 && ltb i 4) 3 0
fresh_tries n i = by_number n (λ (b : Bool) (r : Record). (slot_at r i).tries ≡ cond (b && ltb i 4) 3 0) (new_tries n 3 i) (new_tries 0 0 i ∙ none) where
  none : ◌≡◌ {A = ℕ} (cond (ltb i 4) 0 0) 0
  none = by_cond (ltb i 4) (λ (t : ℕ). t ≡ 0) (λ _. refl) (λ _. refl)

-- no refusal has the number 0
pub refusal_numbers : RefusalNumbers
unfolding fresh_of startable_of
refusal_numbers = record {
  operation = λ o r. has_number (apply o r).answer (numbers o r (apply o r) (step o r));
  fresh = λ k. has_number (fresh_of k).answer (refused_or_numbered (first (fresh_tests k)) (new_record 0 0) (new_record k 3) done);
  startable = λ r. unless_number (first (start_tests r)) 0 (accepted (startable_in r)) tt;
}

-- all numbers past d are refused alike
pub past_d : PastD
past_d = record {
  set_active = λ r k h. past_alike r k 4 k 4 (activated (slot_at r k)) (activated (slot_at r 4)) h (omega arith);
  modified = λ r k h. past_alike r k 4 r.current r.current (modified (slot_at r k)) (modified (slot_at r 4)) h (omega arith);
  corrupted = λ r k h. past_alike r k 4 r.current r.current (damaged (slot_at r k)) (damaged (slot_at r 4)) h (omega arith);
  fresh = λ n h. fresh_past n h ∙ sym (fresh_past 5 (omega arith));
}

pub promises : Promises
promises = record { lawful = lawful; started = started; picks = picks; decides = decides; gives_way = gives_way; damages = damages; not_confirmed = not_confirmed; fresh_valid = fresh_valid; fresh_clear = fresh_clear; fresh_tries = fresh_tries; fresh_places = fresh_places; invalid = invalid; wrong_count = miscounted; counts = counts; none_starts = none_starts; count_read = count_told; fresh_count = fresh_count; refusal_numbers = refusal_numbers; past_d = past_d }
