-- An array that a closure gives: where each call gives what stands at its index and changes nothing, so does the array.
-- Assumes nothing.
use mathlib.Core.Path.{◌≡◌, ◌∙◌, subst}
use mathlib.Core.List.{List}
use Prim.Native.Nat.{ℕ, zero, suc, ◌+◌, ◌<◌}
use native.Mathlib.Nat.{add-zero, le_of_suc-le-suc, not-suc-le-zero}
use native.Mathlib.Omega.{arith}
use denote.Param.Members.{Mut, Called}
use lib.ListN.{get_or}
use Rattle.std.specs.Array.{IsFromFnResultFrom}

pub each_call : {F : Type 0} (g : Mut F (ℕ × Unit {0}) ℕ) (f : F) (want : ℕ → ℕ)
    → ((i y : ℕ) (q : F) → Called g f (i, tt) y q → (y ≡ want i) × (q ≡ f))
    → (ys : List ℕ) (i n : ℕ) → IsFromFnResultFrom g f ys i n → (k : ℕ) → k < n → get_or ys (i + k) 0 ≡ want (i + k)
each_call g f want h ys i zero c k l = absurd (not-suc-le-zero l)
each_call g f want h ys i (suc n) c zero l = rw add-zero (c.2.1 0 ∙ (h i c.1 c.0 c.3).0)
each_call {F} g f want h ys i (suc n) c (suc k) l =
    let next : i + suc k ≡ i + 1 + k = omega arith in
    rw next (each_call g f want h ys (i + 1) n (subst (λ (q : F). IsFromFnResultFrom g q ys (i + 1) n) (h i c.1 c.0 c.3).1 c.4) k (le_of_suc-le-suc l))
