-- What the proofs of the operations cite: the facts that a valid record gives, the search, and each operation's result by its cases.
-- Assumes nothing.
use mathlib.Core.Path.{◌≡◌, refl, ap, sym, ◌∙◌}
use mathlib.Core.List.{List, [], ◌∷◌}
use mathlib.Core.Bool.{Bool, true, false, not, cond, ◌&&◌, and_assoc, and-true}
use Prim.Native.Nat.{ℕ, ◌+◌, ◌<◌, ◌≤◌}
use native.Mathlib.Omega.{arith}
use lib.Dec.{ltb, leb, eqb}
use lib.ListN.{length, get_or}
use Rattle.std.specs.Prelude.{Some, None}
use Rattle.std.specs.List.{list_all, sum_by, find}
use borrow.Author.Tests.{ltb-true, le-ltb, lt-leb, eqb-true, ne_eqb}
use Rattle.rules.specs.Answer.{accepted, refused, unless, number_of}
use Rattle.slot_rules.specs.declared.Slot.{Slot}
use Rattle.slot_rules.proofs.Tests.{and_left, and_right, and_false}
use Rattle.slot_rules.specs.declared.Record.{Record}
use Rattle.slot_rules.proofs.OneSlot.{count_most}
use Rattle.slot_rules.specs.OneSlot.{slot_valid, count_of, may_start, may_confirm, spent, marked, confirmed, new_slot}
use Rattle.slot_rules.specs.Records.{slot_at, current_slot, is_in_use, slots_valid, startable_in, valid, replaced, with_current, new_record}
use Rattle.slot_rules.specs.Answers.{starts, recovery, done, Change, beside, change}
use Rattle.slot_rules.specs.Operations.{takes_over, first_from, first_other, found, take_over, fresh_of, start_of, on_slot, confirm_of, startable_of}

-- a place in use is one of the four
pub in_use_place : (r : Record) (i : ℕ) → is_in_use r i ≡ true → i < 4
in_use_place r i e = ltb-true i 4 (and_left (ltb i 4) (slot_at r i).used e)

-- a valid record: its count is that of its flags, its current slot is in use, its slots are valid
module _ (r : Record) (v : valid r ≡ true) where
  pub valid_count : r.startable ≡ startable_in r
  unfolding valid
  valid_count = eqb-true r.startable (startable_in r) (and_right (is_in_use r r.current && slots_valid r) (eqb r.startable (startable_in r)) v)

  flags : (is_in_use r r.current && slots_valid r) ≡ true
  unfolding valid
  flags = and_left (is_in_use r r.current && slots_valid r) (eqb r.startable (startable_in r)) v

  pub valid_in_use : is_in_use r r.current ≡ true
  valid_in_use = and_left (is_in_use r r.current) (slots_valid r) flags

  pub valid_slots : slots_valid r ≡ true
  valid_slots = and_right (is_in_use r r.current) (slots_valid r) flags

-- the search, as a list of the places in letter order is searched
pub search_found : (r : Record) → find (takes_over r) (0 ∷ 1 ∷ 2 ∷ 3 ∷ []) ≡ found (first_other r)
unfolding first_from
search_found r = by (takes_over r 0) (takes_over r 1) (takes_over r 2) (takes_over r 3) where
  by : (a b c d : Bool) → cond a (Some 0) (cond b (Some 1) (cond c (Some 2) (cond d (Some 3) None))) ≡ found (cond a 0 (cond b 1 (cond c 2 (cond d 3 4))))
  by true b c d = refl
  by false true c d = refl
  by false false true d = refl
  by false false false true = refl
  by false false false false = refl

-- a record whose count differs from its flags is invalid
pub miscounted : (r : Record) → (r.startable ≡ startable_in r → ⊥) → valid r ≡ false
unfolding valid
miscounted r h = ap (◌&&◌ (is_in_use r r.current && slots_valid r)) (ne_eqb r.startable (startable_in r) h) ∙ and_false (is_in_use r r.current && slots_valid r)

-- an invalid record is refused by each operation, and by the count's reader
module _ (r : Record) (v : valid r ≡ false) where
  pub start_invalid : start_of r ≡ beside (refused 31 0) r
  unfolding start_of
  start_invalid = simp v

  pub on_slot_invalid : (k : ℕ) (s : Slot) (m : ℕ) → on_slot r k s m ≡ beside (refused 31 0) r
  unfolding on_slot
  on_slot_invalid k s m = simp v

  pub confirm_invalid : confirm_of r ≡ beside (refused 31 0) r
  unfolding confirm_of
  confirm_invalid = simp v

  pub count_invalid : startable_of r ≡ refused 31 0
  unfolding startable_of
  count_invalid = simp v

module _ (r : Record) (v : valid r ≡ true) where
  pub count_told : startable_of r ≡ accepted r.startable
  unfolding startable_of
  count_told = ap (λ (b : Bool). unless (cond (not b) 31 0) 0 (accepted (startable_in r))) v ∙ ap accepted (sym (valid_count r v))

  pub start_own : may_start (current_slot r) ≡ true → start_of r ≡ change (starts r.current) (replaced r r.current (spent (current_slot r)))
  unfolding start_of
  start_own e = simp (v, e)

  pub start_other : may_start (current_slot r) ≡ false → start_of r ≡ take_over (replaced r r.current (marked (current_slot r))) (first_other r)
  unfolding start_of
  start_other e = simp (v, e)

  start_taken : (b : Bool) → may_start (current_slot r) ≡ b → number_of (start_of r).answer ≡ 0
  start_taken true e = ap (λ (c : Change). number_of c.answer) (start_own e)
  start_taken false e = ap (λ (c : Change). number_of c.answer) (start_other e) ∙ either (ltb (first_other r) 4) where
    either : (t : Bool) → number_of (cond t (change (starts (first_other r)) (with_current (replaced r r.current (marked (current_slot r))) (first_other r))) (change recovery (replaced r r.current (marked (current_slot r))))).answer ≡ 0
    either true = refl
    either false = refl

  module _ (k : ℕ) (s : Slot) (m : ℕ) where
    pub on_slot_unused : is_in_use r k ≡ false → on_slot r k s m ≡ beside (refused 32 0) r
    unfolding on_slot
    on_slot_unused e = simp (v, e)

    pub on_slot_done : is_in_use r k ≡ true → on_slot r k s m ≡ change done (with_current (replaced r k s) m)
    unfolding on_slot
    on_slot_done e = simp (v, e)

  pub confirm_unsound : may_confirm (current_slot r) ≡ false → confirm_of r ≡ beside (refused 33 0) r
  unfolding confirm_of
  confirm_unsound e = simp (v, e)

  pub confirm_done : may_confirm (current_slot r) ≡ true → confirm_of r ≡ change done (replaced r r.current (confirmed (current_slot r)))
  unfolding confirm_of
  confirm_done e = simp (v, e)

-- Start is refused exactly where the record is invalid
pub start_number : (r : Record) → number_of (start_of r).answer ≡ cond (not (valid r)) 31 0
start_number r = go (valid r) refl where
  go : (b : Bool) → valid r ≡ b → number_of (start_of r).answer ≡ cond (not b) 31 0
  go true v = start_taken r v (may_start (current_slot r)) refl
  go false v = ap (λ (c : Change). number_of c.answer) (start_invalid r v)

-- where a slot is not in use, it does not matter which
unused_alike : (r : Record) (i j m n : ℕ) (s t : Slot) → is_in_use r i ≡ false → is_in_use r j ≡ false → on_slot r i s m ≡ on_slot r j t n
unused_alike r i j m n s t u w = go (valid r) refl where
  go : (b : Bool) → valid r ≡ b → on_slot r i s m ≡ on_slot r j t n
  go true v = on_slot_unused r v i s m u ∙ sym (on_slot_unused r v j t n w)
  go false v = on_slot_invalid r v i s m ∙ sym (on_slot_invalid r v j t n)

past_unused : (r : Record) (k : ℕ) → 4 ≤ k → is_in_use r k ≡ false
past_unused r k h = ap (λ (b : Bool). b && (slot_at r k).used) (le-ltb k 4 h)

-- an operation on a slot past d: its number does not matter
pub past_alike : (r : Record) (i j m n : ℕ) (s t : Slot) → 4 ≤ i → 4 ≤ j → on_slot r i s m ≡ on_slot r j t n
past_alike r i j m n s t h l = unused_alike r i j m n s t (past_unused r i h) (past_unused r j l)

-- a fresh record by its test
module _ (n : ℕ) where
  pub fresh_made : (leb 1 n && leb n 4) ≡ true → fresh_of n ≡ change done (new_record n 3)
  unfolding fresh_of
  fresh_made e = simp e

  pub fresh_none : (leb 1 n && leb n 4) ≡ false → fresh_of n ≡ beside (refused 31 0) (new_record 0 0)
  unfolding fresh_of
  fresh_none e = simp e

  pub fresh_past : 4 < n → fresh_of n ≡ beside (refused 31 0) (new_record 0 0)
  fresh_past h = fresh_none (ap (λ (b : Bool). leb 1 n && b) (lt-leb n 4 h) ∙ and_false (leb 1 n))

-- what holds of each list of four slots
of_four : (P : List Slot → Type 0) → ((a b c d : Slot) → P (a ∷ b ∷ c ∷ d ∷ [])) → (l : List Slot) → length l ≡ 4 → P l
of_four P h [] e = absurd (omega (arith, e))
of_four P h (a ∷ []) e = absurd (omega (arith, e))
of_four P h (a ∷ b ∷ []) e = absurd (omega (arith, e))
of_four P h (a ∷ b ∷ c ∷ []) e = absurd (omega (arith, e))
of_four P h (a ∷ b ∷ c ∷ d ∷ []) e = h a b c d
of_four P h (a ∷ b ∷ c ∷ d ∷ x ∷ l) e = absurd (omega (arith, e))

-- a record of four slots: the tests of all in its list of them, and their counts together, which a byte holds
module _ (r : Record) (four : length r.slots ≡ 4) where
  pub four_valid : list_all slot_valid r.slots ≡ slots_valid r
  unfolding slots_valid
  four_valid =
      of_four (λ l. list_all slot_valid l ≡ (slot_valid (get_or l 0 (new_slot false 0)) && slot_valid (get_or l 1 (new_slot false 0)) && slot_valid (get_or l 2 (new_slot false 0)) && slot_valid (get_or l 3 (new_slot false 0))))
      (λ a b c d. simp (and_assoc, and-true)) r.slots four

  pub four_counts : sum_by count_of r.slots ≡ startable_in r
  unfolding startable_in
  four_counts =
      of_four (λ l. sum_by count_of l ≡ count_of (get_or l 0 (new_slot false 0)) + count_of (get_or l 1 (new_slot false 0)) + count_of (get_or l 2 (new_slot false 0)) + count_of (get_or l 3 (new_slot false 0)))
      (λ a b c d. omega arith) r.slots four

  pub four_few : sum_by count_of r.slots ≤ 4
  unfolding startable_in
  four_few = omega (arith, four_counts, count_most)
