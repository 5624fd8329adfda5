-- How many decimal digits a number has, and how long a labelled number can be.
-- Assumes nothing.
use mathlib.Core.Path.{◌≡◌, refl, sym, ap}
use mathlib.Core.Bool.{Bool, true, false, cond}
use mathlib.Core.List.{List, [], ◌∷◌, ◌++◌}
use Prim.Native.Nat.{ℕ, zero, suc, ◌+◌, ◌*◌, ◌/◌, ◌%◌, ◌^◌, ◌≤◌, ◌<◌}
use native.Mathlib.Nat.{not-suc-le-zero, pow-suc, div-lt_iff_lt-mul}
use native.Mathlib.Omega.{arith}
use lib.Dec.{leb, ltb}
use lib.ListN.{length, length-append}
use borrow.Author.Tests.{lt-ltb, leb-true, leb-false}
use Rattle.text_rules.specs.Words.{digits_up_to, decimal, labelled}

-- where so many digits hold a number, looking at more gives no other
settled : (k m n : ℕ) → 0 < k → n < 10 ^ k → k ≤ m → digits_up_to m n ≡ digits_up_to k n
unfolding digits_up_to
settled zero m n some h le = absurd (omega arith)
settled (suc k) zero n some h le = absurd (not-suc-le-zero le)
settled (suc zero) (suc m) n some h le = rw (lt-ltb n 10 h)
settled (suc (suc k)) (suc m) n some h le =
    let u : n < 10 ^ suc k * 10 = rw (pow-suc 10 (suc k)) at h in
    ap (λ (l : List ℕ). cond (ltb n 10) [] l ++ ((48 + n % 10) ∷ []))
    (settled (suc k) m (n / 10) (omega arith) ((div-lt_iff_lt-mul {k = 10} {x = n} {y = 10 ^ suc k} (omega arith)).1 u) (omega arith))

-- a number of 64 bits by any digits that hold it, for no more are put than it has
pub decimal_held : (k n : ℕ) → 0 < k → n < 10 ^ k → n < 0x10000000000000000 → digits_up_to k n ≡ decimal n
unfolding decimal
decimal_held k n some h small = go (leb k 20) refl
  where
    go : (x : Bool) → leb k 20 ≡ x → digits_up_to k n ≡ digits_up_to 20 n
    go true e = let p = leb-true k 20 e in sym (settled k _ n some h p)
    go false e = let p : 20 < k = leb-false k 20 e in settled _ k n (omega arith) (omega (arith, small)) (omega arith)

-- so many digits at most
digits_most : (k n : ℕ) → length (digits_up_to k n) ≤ k
unfolding digits_up_to
digits_most zero n = omega arith
digits_most (suc k) n = go (ltb n 10) (digits_most k (n / 10))
  where
    go : (x : Bool) → length (digits_up_to k (n / 10)) ≤ k → length (cond x [] (digits_up_to k (n / 10)) ++ ((48 + n % 10) ∷ [])) ≤ suc k
    go true p = omega arith
    go false p = omega (arith, length-append (digits_up_to k (n / 10)) ((48 + n % 10) ∷ []))

-- a number has at most 20 digits
pub decimal_most : (n : ℕ) → length (decimal n) ≤ 20
unfolding decimal
decimal_most n = digits_most 20 n

-- and a labelled one its word besides
pub labelled_most : (word : List ℕ) (n : ℕ) → length (labelled word n) ≤ length word + 20
unfolding labelled
labelled_most word n = omega (arith, length-append word (decimal n), decimal_most n)
