-- Steps of `first`: past a test that does not hold, and at one that does.
-- Assumes nothing.
use mathlib.Core.Path.{◌≡◌, refl}
use mathlib.Core.Bool.{Bool, true, false}
use mathlib.Core.List.{List, ◌∷◌}
use Prim.Native.Nat.{ℕ, ◌<◌}
use native.Mathlib.Omega.{arith}
use Rattle.rules.specs.First.{first}

-- a test that holds gives its number
pub first_hit : (t : Bool) (n : ℕ) (ts : List (Bool × ℕ)) → t ≡ true → first ((t, n) ∷ ts) ≡ n
first_hit t n ts e = rw e

-- a test that does not hold is passed over
pub first_pass : (t : Bool) (n : ℕ) (ts : List (Bool × ℕ)) → t ≡ false → first ((t, n) ∷ ts) ≡ first ts
first_pass t n ts e = rw e

-- where no test holds, the first does not
pub first_none : (t : Bool) (n : ℕ) (ts : List (Bool × ℕ)) → 0 < n → first ((t, n) ∷ ts) ≡ 0 → t ≡ false
first_none true n ts h e = absurd (omega arith)
first_none false n ts h e = refl

-- and none of the others does
pub first_rest : (t : Bool) (n : ℕ) (ts : List (Bool × ℕ)) → 0 < n → first ((t, n) ∷ ts) ≡ 0 → first ts ≡ 0
first_rest true n ts h e = absurd (omega arith)
first_rest false n ts h e = e
