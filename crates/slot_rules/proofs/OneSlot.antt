-- One slot: a slot that an operation makes of a valid one is valid, and what a slot is that may start, that may take over, and that may not start.
-- Assumes nothing.
use mathlib.Core.Path.{◌≡◌, refl, sym, ap, ◌∙◌}
use mathlib.Core.Bool.{Bool, true, false, not, cond, ◌&&◌, ◌||◌}
use Prim.Native.Nat.{ℕ, ◌-◌, ◌<◌, ◌≤◌}
use native.Mathlib.Omega.{arith}
use lib.Dec.{ltb, leb}
use borrow.Author.Tests.{not-true, ltb-true, leb-true, le-leb}
use Rattle.slot_rules.specs.declared.Slot.{Slot}
use Rattle.slot_rules.specs.OneSlot.{slot_valid, sound, count_of, may_start, may_take_over, may_confirm, with_tries, spent, marked, damaged, confirmed}
use Rattle.slot_rules.proofs.Tests.{and_left, and_right, and_false, clash, by_cond}

-- a slot counts once at most
pub count_most : (s : Slot) → count_of s ≤ 1
unfolding count_of
count_most s = go (s.used && sound s) where
  go : (b : Bool) → cond b 1 0 ≤ 1
  go true = omega arith
  go false = omega arith

-- the tests of a slot, as tests of its flags: d used, u unbootable, s successful, c corrupted, a tries at most 7, l so too with no more tries, b tries above 0
less_valid : (d u s a l : Bool) → (a ≡ true → l ≡ true) → (not d || (a && not (u && s))) ≡ true → (not d || (l && not (u && s))) ≡ true
less_valid false u s a l f e = refl
less_valid true u s true l f e = ap (λ (x : Bool). x && not (u && s)) (f refl) ∙ e
less_valid true u s false l f e = clash refl (sym e)

mark_valid : (d u s a l : Bool) → (a ≡ true → l ≡ true) → (not d || (a && not (u && s))) ≡ true → (not d || (l && not (true && false))) ≡ true
mark_valid false u s a l f e = refl
mark_valid true u s true l f e = ap (λ (x : Bool). x && true) (f refl)
mark_valid true u s false l f e = clash refl (sym e)

pub renewed_valid : (d u : Bool) → (not d || (true && not (u && false))) ≡ true
renewed_valid false u = refl
renewed_valid true false = refl
renewed_valid true true = refl

confirm_valid : (d u s a : Bool) → (not d || (a && not (u && s))) ≡ true → not u ≡ true → (not d || (a && not (u && true))) ≡ true
confirm_valid false u s a e f = refl
confirm_valid true true s a e f = clash f refl
confirm_valid true false s a e f = e

why_no_start : (d u s c a b : Bool) → d ≡ true → (not d || (a && not (u && s))) ≡ true → ((not u && not c) && (s || b)) ≡ false → s ≡ true → c ≡ true
why_no_start d u s true a b h v m e = refl
why_no_start false u s false a b h v m e = h
why_no_start true u false false a b h v m e = e
why_no_start true true true false a b h v m e = clash v (and_false a)
why_no_start true false true false a b h v m e = clash refl m

taken : (m n : ℕ) → m - n ≤ m
taken m n = omega arith

no_more : (m n : ℕ) → n ≤ m → leb m 7 ≡ true → leb n 7 ≡ true
no_more m n h e = le-leb n 7 (omega (arith, h, leb-true m 7 e))

-- what an operation makes of a valid slot is valid
module _ (s : Slot) (v : slot_valid s ≡ true) where
  fewer_valid : (n : ℕ) → n ≤ s.tries → slot_valid (with_tries s n) ≡ true
  fewer_valid n h = less_valid s.used s.unbootable s.successful (leb s.tries 7) (leb n 7) (no_more s.tries n h) v

  pub spent_valid : slot_valid (spent s) ≡ true
  spent_valid = by_cond s.successful (λ (t : Slot). slot_valid t ≡ true) (λ _. v) (λ _. fewer_valid _ (taken s.tries _))

  pub marked_valid : slot_valid (marked s) ≡ true
  marked_valid = mark_valid s.used s.unbootable s.successful (leb s.tries 7) (leb (marked s).tries 7) (no_more s.tries (marked s).tries (omega arith)) v

  pub damaged_valid : slot_valid (damaged s) ≡ true
  damaged_valid = v

  pub confirmed_valid : may_confirm s ≡ true → slot_valid (confirmed s) ≡ true
  confirmed_valid e = confirm_valid s.used s.unbootable s.successful (leb s.tries 7) v (and_left (not s.unbootable) (not s.corrupted) e)

  -- a slot in use that is successful and yet may not start is corrupted
  pub stuck_corrupted : s.used ≡ true → may_start s ≡ false → s.successful ≡ true → s.corrupted ≡ true
  stuck_corrupted u = why_no_start s.used s.unbootable s.successful s.corrupted (leb s.tries 7) _ u v

-- a corrupted slot is not sound, and so may not start
module _ (s : Slot) (e : s.corrupted ≡ true) where
  pub corrupted_unsound : sound s ≡ false
  corrupted_unsound = ap (λ (c : Bool). not s.unbootable && not c) e ∙ and_false (not s.unbootable)

  pub corrupted_stuck : may_start s ≡ false
  corrupted_stuck = simp corrupted_unsound

-- a slot that may start is neither unbootable nor corrupted
module _ (s : Slot) (e : may_start s ≡ true) where
  starts_sound : sound s ≡ true
  starts_sound = and_left (sound s) _ e

  pub starts_bootable : s.unbootable ≡ false
  starts_bootable = not-true s.unbootable (and_left (not s.unbootable) (not s.corrupted) starts_sound)

  pub starts_intact : s.corrupted ≡ false
  starts_intact = not-true s.corrupted (and_right (not s.unbootable) (not s.corrupted) starts_sound)

  -- and it has a try left, if it is not successful
  pub starts_try : s.successful ≡ false → 0 < s.tries
  starts_try u = ltb-true 0 s.tries (ap (λ (b : Bool). b || ltb 0 s.tries) (sym u) ∙ and_right (sound s) (s.successful || ltb 0 s.tries) e)

-- a slot that may take over is in use and successful, and may start
module _ (s : Slot) (e : may_take_over s ≡ true) where
  flags : (s.used && s.successful) ≡ true
  flags = and_left (s.used && s.successful) (sound s) e

  pub over_used : s.used ≡ true
  over_used = and_left s.used s.successful flags

  pub over_successful : s.successful ≡ true
  over_successful = and_right s.used s.successful flags

  pub over_starts : may_start s ≡ true
  over_starts = simp (and_right (s.used && s.successful) (sound s) e, over_successful)

-- what does not look at the tries is the same of a slot after it starts
pub spent_same : {A : Type 0} (s : Slot) (f : Slot → A) → ((n : ℕ) → f (with_tries s n) ≡ f s) → f (spent s) ≡ f s
spent_same s f e = by_cond s.successful (λ (t : Slot). f t ≡ f s) (λ _. refl) (λ _. e _)

-- a successful slot starts as it is
pub spent_none : (s : Slot) → s.successful ≡ true → spent s ≡ s
spent_none s e = by_cond s.successful (λ (t : Slot). t ≡ s) (λ _. refl) (λ u. clash e u)
