-- The places of a record, one entry of it replaced.
-- Assumes nothing.
use mathlib.Core.Path.{◌≡◌, refl, sym, ap, subst}
use mathlib.Core.Bool.{Bool, true, false, ◌&&◌}
use mathlib.Core.List.{List, [], ◌∷◌}
use Prim.Native.Nat.{ℕ, zero, suc, ◌+◌, ◌<◌, ◌≤◌, suc-le-suc, zero-le}
use native.Mathlib.Omega.{arith}
use lib.Dec.{eqb, ltb}
use lib.ListN.{length, get_or}
use lib.Seq.{get_or-set_same, get_or-set_other}
use borrow.Author.Tests.{eqb-true, eqb-false}
use Rattle.slot_rules.specs.declared.Slot.{Slot}
use Rattle.slot_rules.specs.declared.Record.{Record}
use Rattle.slot_rules.specs.OneSlot.{slot_valid, count_of, stepped, new_slot}
use Rattle.slot_rules.specs.Records.{slot_at, is_in_use, slots_valid, startable_in, valid, replaced, with_current}
use Rattle.slot_rules.proofs.Tests.{and_left, and_right}
use Rattle.slot_rules.proofs.Laws.{in_use_place, valid_count}
use Rattle.slot_rules.proofs.OneSlot.{count_most}

-- a slot that is used has a place
inside : (xs : List Slot) (i : ℕ) → (get_or xs i (new_slot false 0)).used ≡ true → i < length xs
inside [] i e = let z : ◌≡◌ {A = ℕ} 0 1 = cc in absurd (omega arith)
inside (x ∷ xs) zero e = suc-le-suc zero-le
inside (x ∷ xs) (suc i) e = suc-le-suc (inside xs i e)

pub in_use_used : (r : Record) (i : ℕ) → is_in_use r i ≡ true → (slot_at r i).used ≡ true
in_use_used r i e = and_right (ltb i 4) (slot_at r i).used e

-- the slot put in stands in its place
pub replaced_here : (r : Record) (i : ℕ) (s : Slot) → is_in_use r i ≡ true → slot_at (replaced r i s) i ≡ s
replaced_here r i s h = get_or-set_same r.slots i s (new_slot false 0) (inside r.slots i (in_use_used r i h))

-- and every other slot stays
pub replaced_other : (r : Record) (i : ℕ) (s : Slot) (j : ℕ) → (j ≡ i → ⊥) → slot_at (replaced r i s) j ≡ slot_at r j
replaced_other r i s j h = get_or-set_other r.slots i j s (new_slot false 0) h

-- what holds of the slot put in and of each other slot holds at every place
pub by_place : (r : Record) (i : ℕ) (s : Slot) → is_in_use r i ≡ true → (Q : ℕ → Slot → Type 0) → Q i s → ((j : ℕ) → (j ≡ i → ⊥) → Q j (slot_at r j)) → (j : ℕ) → Q j (slot_at (replaced r i s) j)
by_place r i s h Q here there j = go (eqb j i) refl where
  go : (b : Bool) → eqb j i ≡ b → Q j (slot_at (replaced r i s) j)
  go true e = subst (λ (k : ℕ). Q k (slot_at (replaced r i s) k)) (sym (eqb-true j i e)) (subst (Q i) (sym (replaced_here r i s h)) here)
  go false e = subst (Q j) (sym (replaced_other r i s j (eqb-false j i e))) (there j (eqb-false j i e))

-- the four slots are valid exactly where each is
module _ (r : Record) (e : slots_valid r ≡ true) where
  three : (slot_valid (slot_at r 0) && slot_valid (slot_at r 1) && slot_valid (slot_at r 2)) ≡ true
  unfolding slots_valid
  three = and_left (slot_valid (slot_at r 0) && slot_valid (slot_at r 1) && slot_valid (slot_at r 2)) (slot_valid (slot_at r 3)) e

  two : (slot_valid (slot_at r 0) && slot_valid (slot_at r 1)) ≡ true
  two = and_left (slot_valid (slot_at r 0) && slot_valid (slot_at r 1)) (slot_valid (slot_at r 2)) three

  pub each_valid : (j : ℕ) → j < 4 → slot_valid (slot_at r j) ≡ true
  unfolding slots_valid
  each_valid zero h = and_left (slot_valid (slot_at r 0)) (slot_valid (slot_at r 1)) two
  each_valid (suc zero) h = and_right (slot_valid (slot_at r 0)) (slot_valid (slot_at r 1)) two
  each_valid (suc (suc zero)) h = and_right (slot_valid (slot_at r 0) && slot_valid (slot_at r 1)) (slot_valid (slot_at r 2)) three
  each_valid (suc (suc (suc zero))) h = and_right (slot_valid (slot_at r 0) && slot_valid (slot_at r 1) && slot_valid (slot_at r 2)) (slot_valid (slot_at r 3)) e
  each_valid (suc (suc (suc (suc j)))) h = absurd (omega arith)

pub all_valid : (r : Record) → ((j : ℕ) → j < 4 → slot_valid (slot_at r j) ≡ true) → slots_valid r ≡ true
unfolding slots_valid
all_valid r f = simp (f 0 (omega arith), f 1 (omega arith), f 2 (omega arith), f 3 (omega arith))

-- one number of four is not above their sum; and where one of them becomes c, so does the sum
one_of_four : (f : ℕ → ℕ) (i : ℕ) → i < 4 → f i ≤ f 0 + f 1 + f 2 + f 3
one_of_four f zero h = omega arith
one_of_four f (suc zero) h = omega arith
one_of_four f (suc (suc zero)) h = omega arith
one_of_four f (suc (suc (suc zero))) h = omega arith
one_of_four f (suc (suc (suc (suc i)))) h = absurd (omega arith)

one_becomes : (f g : ℕ → ℕ) (i c : ℕ) → i < 4 → g i ≡ c → ((j : ℕ) → (j ≡ i → ⊥) → g j ≡ f j) → g 0 + g 1 + g 2 + g 3 + f i ≡ f 0 + f 1 + f 2 + f 3 + c
one_becomes f g zero c h e o = omega (arith, e, o 1 (λ p. omega (arith, p)), o 2 (λ p. omega (arith, p)), o 3 (λ p. omega (arith, p)))
one_becomes f g (suc zero) c h e o = omega (arith, e, o 0 (λ p. omega (arith, p)), o 2 (λ p. omega (arith, p)), o 3 (λ p. omega (arith, p)))
one_becomes f g (suc (suc zero)) c h e o = omega (arith, e, o 0 (λ p. omega (arith, p)), o 1 (λ p. omega (arith, p)), o 3 (λ p. omega (arith, p)))
one_becomes f g (suc (suc (suc zero))) c h e o = omega (arith, e, o 0 (λ p. omega (arith, p)), o 1 (λ p. omega (arith, p)), o 2 (λ p. omega (arith, p)))
one_becomes f g (suc (suc (suc (suc i)))) c h e o = absurd (omega arith)

-- a slot is counted in its record; where s comes in its place, the count of the flags changes by what it was and what it is, and the kept one with it
module _ (r : Record) (i : ℕ) (u : is_in_use r i ≡ true) where
  pub counted_in : count_of (slot_at r i) ≤ startable_in r
  unfolding startable_in
  counted_in = one_of_four (λ j. count_of (slot_at r j)) i (in_use_place r i u)

  module _ (s : Slot) where
    here : count_of (slot_at (replaced r i s) i) ≡ count_of s
    here = ap count_of (replaced_here r i s u)

    flags_step : (k : ℕ) → startable_in (with_current (replaced r i s) k) + count_of (slot_at r i) ≡ startable_in r + count_of s
    unfolding startable_in
    flags_step k = one_becomes (λ j. count_of (slot_at r j)) (λ j. count_of (slot_at (replaced r i s) j)) i (count_of s) (in_use_place r i u) here (λ j h. ap count_of (replaced_other r i s j h))

    module _ (e : r.startable ≡ startable_in r) where
      pub count_replaced : (k : ℕ) → stepped r.startable (slot_at r i) s ≡ startable_in (with_current (replaced r i s) k)
      count_replaced k = let m : _ = flags_step k in omega (arith, e, m)

      pub count_moves : stepped r.startable (slot_at r i) s + count_of (slot_at r i) ≡ r.startable + count_of (slot_at (replaced r i s) i)
      count_moves = omega (arith, e, counted_in, here)

-- a valid record: its count is small, a slot of it that was read is in the count, and a slot is replaced by the counts of both
module _ (r : Record) (v : valid r ≡ true) where
  pub count_few : r.startable ≤ 4
  unfolding startable_in
  count_few = omega (arith, valid_count r v, count_most)

  pub count_held : (i : ℕ) → is_in_use r i ≡ true → count_of (slot_at r i) ≤ r.startable
  count_held i u = omega (arith, valid_count r v, counted_in r i u)
