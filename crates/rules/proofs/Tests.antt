-- A list of tests none of which applies, and two tests in one.
-- Assumes nothing.
use mathlib.Core.Path.{◌≡◌, refl, sym}
use mathlib.Core.Bool.{Bool, true, false, cond, ◌&&◌, ◌||◌}
use mathlib.Core.List.{List, [], ◌∷◌}
use Prim.Native.Nat.{ℕ, ◌≤◌, zero-le}
use native.Mathlib.Omega.{arith}
use lib.Dec.{T, leb, ltb, leb→le, ltb→lt}
use Rattle.rules.specs.First.{first}
use Rattle.rules.proofs.First.{first_none, first_rest}

-- each test of a list fails
abbrev pub AllFail : List (Bool × ℕ) → Type 0
AllFail [] = Unit {0}
AllFail (t ∷ ts) = (t.0 ≡ false) × AllFail ts

-- each test of a list has a number that is not 0
abbrev pub Numbered : List (Bool × ℕ) → Type 0
Numbered [] = Unit {0}
Numbered (t ∷ ts) = T (ltb 0 t.1) × Numbered ts

-- where no test applies, each fails
pub all_fail : (ts : List (Bool × ℕ)) → Numbered ts → first ts ≡ 0 → AllFail ts
all_fail [] n e = tt
all_fail (t ∷ ts) n e =
    let p = ltb→lt 0 t.1 n.0 in
    (first_none t.0 t.1 ts p e, all_fail ts n.1 (first_rest t.0 t.1 ts p e))

-- each test of a list has a number up to one
abbrev pub NumberedTo : ℕ → List (Bool × ℕ) → Type 0
NumberedTo m [] = Unit {0}
NumberedTo m (t ∷ ts) = T (leb t.1 m) × NumberedTo m ts

-- and so has the first that applies
pub first_most : (m : ℕ) (ts : List (Bool × ℕ)) → NumberedTo m ts → first ts ≤ m
first_most m [] n = zero-le
first_most m (t ∷ ts) n = go t.0 (first_most m ts n.1)
  where
    go : (b : Bool) → first ts ≤ m → cond b t.1 (first ts) ≤ m
    go true h = leb→le t.1 m n.0
    go false h = h

-- both of two tests that hold together
pub both : (a b : Bool) → (a && b) ≡ true → (a ≡ true) × (b ≡ true)
both true b e = (refl, e)
both false b e = (e, cc)

-- neither of two tests holds
pub or_left : (a b : Bool) → (a || b) ≡ false → a ≡ false
or_left true b h = h
or_left false b h = refl

pub or_right : (a b : Bool) → (a || b) ≡ false → b ≡ false
or_right true b h = absurd (let z : ◌≡◌ {A = ℕ} 0 1 = cc in omega arith)
or_right false b h = h

-- two tests fail together and the first holds, so the second fails
pub and_rest : (a b : Bool) → (a && b) ≡ false → a ≡ true → b ≡ false
and_rest true b e t = e
and_rest false b e t = cc

-- two truths that follow from one another are one
pub equal_truths : (a b : Bool) → (a ≡ true → b ≡ true) → (b ≡ true → a ≡ true) → a ≡ b
equal_truths true b f g = sym (f refl)
equal_truths false true f g = g refl
equal_truths false false f g = refl
