-- Laws of answers: what a number that is 0 or not makes of one, and that its cases differ.
-- Assumes nothing.
use mathlib.Core.Path.{◌≡◌, refl, ap}
use Prim.Native.Nat.{ℕ, zero, suc, ◌≤◌, ◌<◌}
use native.Mathlib.Nat.{zero-lt-suc}
use native.Mathlib.Omega.{arith}
use Rattle.rules.specs.Answer.{Answer, accepted, refused, unless, onward, number_of, HasNumber}

module _ {A : Type 0} where
  -- a number that is not 0 refuses
  pub unless_refused : (n place : ℕ) (a : Answer A) → 0 < n → unless n place a ≡ refused n place
  unless_refused zero place a h = absurd (omega arith)
  unless_refused (suc n) place a h = refl

  -- the number 0 refuses nothing
  pub unless_passed : (n place : ℕ) (a : Answer A) → n ≡ 0 → unless n place a ≡ a
  unless_passed zero place a e = refl
  unless_passed (suc n) place a e = absurd (omega arith)

  -- what is accepted past a number was accepted, and the number was 0
  pub unless_accepted : (n place : ℕ) (a : Answer A) (x : A) → unless n place a ≡ accepted x → (n ≡ 0) × (a ≡ accepted x)
  unless_accepted zero place a x e = (refl, e)
  unless_accepted (suc n) place a x e = absurd (let z : ◌≡◌ {A = ℕ} (suc n) 0 = ap number_of e in omega arith)

  -- two accepted answers that are equal have one value
  pub accepted_same : {x y : A} → accepted x ≡ accepted y → x ≡ y
  accepted_same {x = x} e = ap (value_or x) e
    where
      value_or : A → Answer A → A
      value_or d (accepted z) = z
      value_or d (refused n place) = d

-- what follows an answer that a number may refuse
pub onward_unless : {A B : Type 0} (n place : ℕ) (a : Answer A) (go : A → Answer B) → onward (unless n place a) go ≡ unless n place (onward a go)
onward_unless zero place a go = refl
onward_unless (suc n) place a go = refl

-- ---- refusal numbers

pub unless_number : {A : Type 0} (n place : ℕ) (a : Answer A) → HasNumber a → HasNumber (unless n place a)
unless_number zero place a h = h
unless_number (suc n) place a h = zero-lt-suc n

pub onward_number : {A B : Type 0} (a : Answer A) (go : A → Answer B) → HasNumber a → ((x : A) → HasNumber (go x)) → HasNumber (onward a go)
onward_number (accepted x) go h f = f x
onward_number (refused n place) go h f = h

-- an answer whose refusals are shown to have a number
pub has_number : {A : Type 0} (a : Answer A) → ((n place : ℕ) → a ≡ refused n place → 0 < n) → HasNumber a
has_number (accepted x) h = tt
has_number (refused n place) h = h n place refl

-- ---- refusals whose numbers do not pass one

pub unless_most : {A : Type 0} (n place m : ℕ) (a : Answer A) → n ≤ m → number_of a ≤ m → number_of (unless n place a) ≤ m
unless_most zero place m a h i = i
unless_most (suc n) place m a h i = h

pub onward_most : {A B : Type 0} (m : ℕ) (a : Answer A) (go : A → Answer B) → number_of a ≤ m → ((x : A) → number_of (go x) ≤ m) → number_of (onward a go) ≤ m
onward_most m (accepted x) go h f = f x
onward_most m (refused n place) go h f = h
