-- The search of Start: what it finds qualifies, and nothing before that does.
-- Assumes nothing.
use mathlib.Core.Path.{◌≡◌, refl, ap, ◌∙◌}
use mathlib.Core.Bool.{Bool, true, false, not, ◌&&◌}
use Prim.Native.Nat.{ℕ, zero, suc, ◌+◌, ◌<◌, ◌≤◌, zero-le}
use native.Mathlib.Omega.{arith}
use lib.Dec.{ltb, eqb}
use borrow.Author.Tests.{lt-ltb, eqb-true, eqb-false, ne_eqb, not-true}
use Rattle.slot_rules.specs.declared.Slot.{Slot}
use Rattle.slot_rules.specs.declared.Record.{Record}
use Rattle.slot_rules.specs.OneSlot.{may_start, may_take_over}
use Rattle.slot_rules.specs.Records.{slot_at}
use Rattle.slot_rules.specs.Operations.{takes_over, first_from, first_other}
use Rattle.slot_rules.specs.Promises.{Qualifies}
use Rattle.slot_rules.proofs.Tests.{and_left, and_right, clash, by_cond}
use Rattle.slot_rules.proofs.OneSlot.{starts_bootable, starts_intact, over_used, over_successful, over_starts}
use Rattle.slot_rules.proofs.Laws.{in_use_place}
use Rattle.slot_rules.proofs.Places.{in_use_used}

-- a slot that qualifies takes over, and one of the four that takes over qualifies
qualifies_takes : (r : Record) (j : ℕ) → Qualifies r j → takes_over r j ≡ true
qualifies_takes r j q = simp (ne_eqb j r.current q.not_current, in_use_used r j q.in_use, q.is_successful, q.bootable, q.intact)

takes_qualifies : (r : Record) (j : ℕ) → j < 4 → takes_over r j ≡ true → Qualifies r j
takes_qualifies r j h t = record {
  in_use = simp (lt-ltb j 4 h, over_used (slot_at r j) may);
  not_current = eqb-false j r.current (not-true (eqb j r.current) (and_left (not (eqb j r.current)) (may_take_over (slot_at r j)) t));
  is_successful = over_successful (slot_at r j) may;
  intact = starts_intact (slot_at r j) (over_starts (slot_at r j) may);
  bootable = starts_bootable (slot_at r j) (over_starts (slot_at r j) may);
} where
  may : may_take_over (slot_at r j) ≡ true
  may = and_right (not (eqb j r.current)) (may_take_over (slot_at r j)) t

-- it may start
pub qualifies_starts : (r : Record) (j : ℕ) → Qualifies r j → may_start (slot_at r j) ≡ true
qualifies_starts r j q = simp (q.bootable, q.intact, q.is_successful)

-- it qualifies in any record where the same slot is current and its place holds the same
pub qualifies_kept : (r q : Record) (j : ℕ) → q.current ≡ r.current → slot_at q j ≡ slot_at r j → Qualifies r j → Qualifies q j
qualifies_kept r q j c e h = record {
  in_use = ap (λ (s : Slot). ltb j 4 && s.used) e ∙ h.in_use;
  not_current = λ p. h.not_current (p ∙ c);
  is_successful = ap (λ (s : Slot). s.successful) e ∙ h.is_successful;
  intact = ap (λ (s : Slot). s.corrupted) e ∙ h.intact;
  bootable = ap (λ (s : Slot). s.unbootable) e ∙ h.bootable;
}

-- what is found qualifies
takes : (r : Record) (n k : ℕ) → first_from r n k < 4 → takes_over r (first_from r n k) ≡ true
unfolding first_from
takes r zero k h = absurd (omega arith)
takes r (suc n) k h = by_cond (takes_over r k) (λ (m : ℕ). m < 4 → takes_over r m ≡ true) (λ e _. e) (λ _. takes r n (k + 1)) h

pub found_qualifies : (r : Record) → first_other r < 4 → Qualifies r (first_other r)
found_qualifies r h = takes_qualifies r (first_other r) h (takes r _ _ h)

-- none is found after one that qualifies
not_after : (r : Record) (n k j : ℕ) → k ≤ j → j < k + n → takes_over r j ≡ true → first_from r n k ≤ j
unfolding first_from
not_after r zero k j a b t = absurd (omega arith)
not_after r (suc n) k j a b t =
    by_cond (takes_over r k) (λ (m : ℕ). m ≤ j) (λ _. a) (λ e. not_after r n (k + 1) j (further e) (omega (arith, b)) t) where
      further : takes_over r k ≡ false → k + 1 ≤ j
      further e = go (eqb j k) refl where
        go : (b : Bool) → eqb j k ≡ b → k + 1 ≤ j
        go true q = clash t (ap (takes_over r) (eqb-true j k q) ∙ e)
        go false q = let d : j ≡ k → ⊥ = eqb-false j k q in omega (arith, a, d)

pub found_first : (r : Record) (j : ℕ) → Qualifies r j → first_other r ≤ j
found_first r j q = not_after r _ _ j zero-le (in_use_place r j q.in_use) (qualifies_takes r j q)
