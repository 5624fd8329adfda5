-- Tests: two that hold together, two that differ, and a choice by one.
-- Assumes nothing.
use mathlib.Core.Path.{◌≡◌, refl}
use mathlib.Core.Bool.{Bool, true, false, cond, ◌&&◌}
use Prim.Native.Nat.{ℕ}
use native.Mathlib.Omega.{arith}

-- both of two tests that hold together
pub and_left : (a b : Bool) → (a && b) ≡ true → a ≡ true
and_left true b e = refl
and_left false b e = e

pub and_right : (a b : Bool) → (a && b) ≡ true → b ≡ true
and_right true b e = e
and_right false b e = cc

-- a test beside one that fails
pub and_false : (a : Bool) → (a && false) ≡ false
and_false true = refl
and_false false = refl

-- what two tests that differ prove
pub clash : {A : Type 0} {b : Bool} → b ≡ true → b ≡ false → A
clash p q = let z : ◌≡◌ {A = ℕ} 0 1 = cc in absurd (omega arith)

-- what holds of both branches of a choice holds of the choice
pub by_cond : {A : Type 0} (b : Bool) {x y : A} (Q : A → Type 0) → (b ≡ true → Q x) → (b ≡ false → Q y) → Q (cond b x y)
by_cond true Q f g = f refl
by_cond false Q f g = g refl
