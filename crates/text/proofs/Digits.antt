-- The fewest decimal digits of a number are its digits as they are put.
-- Assumes nothing.
use mathlib.Core.Path.{◌≡◌, ap, ◌∙◌}
use mathlib.Core.List.{List, [], ◌∷◌, ◌++◌}
use Prim.Native.Nat.{ℕ, zero, suc, ◌+◌, ◌-◌, ◌*◌, ◌/◌, ◌%◌, ◌^◌, ◌≤◌, ◌<◌}
use native.Mathlib.Nat.{mod-lt, pow-suc, pow-le-pow_right, le-div_iff_mul-le, div-lt_iff_lt-mul}
use native.Mathlib.Numerals.{sub-one}
use native.Mathlib.Omega.{arith}
use lib.ListN.{take}
use borrow.Author.Tests.{lt-ltb, le-ltb}
use Rattle.io.specs.Digits.{hex_digit_ascii, last_digits, IsDigitCount}
use Rattle.text_rules.specs.Put.{Put}
use Rattle.text_rules.specs.Words.{digits_up_to, decimal}
use Rattle.text_rules.proofs.Digits.{decimal_held}

-- a decimal digit's code
digit : (n : ℕ) → hex_digit_ascii (n % 10) ≡ 48 + n % 10
digit n = rw (lt-ltb (n % 10) 10 (mod-lt n (omega arith)))

-- a number of two digits or more is at least 10
large : (k n : ℕ) → IsDigitCount 10 1 n (suc (suc k)) → 10 ≤ n
large k n f =
    let e : suc (suc k) - 1 ≡ suc k = sub-one (suc (suc k)) in
    let p : 10 ^ suc k ≤ n = rw e at (f.2 (omega arith)) in
    let q : 10 ^ 1 ≤ 10 ^ suc k = pow-le-pow_right (omega arith) {i = 1} {j = suc k} (omega arith) in
    omega (arith, p, q)

-- and its tenth part has one digit less
tenth : (k n : ℕ) → IsDigitCount 10 1 n (suc (suc k)) → IsDigitCount 10 1 (n / 10) (suc k)
tenth k n f =
    let e : suc (suc k) - 1 ≡ suc k = sub-one (suc (suc k)) in
    let p : 10 ^ suc k ≤ n = rw e at (f.2 (omega arith)) in
    let d : suc k - 1 ≡ k = sub-one (suc k) in
    let q : 10 ^ k * 10 ≤ n = rw (pow-suc 10 k) at p in
    let u : n < 10 ^ suc k * 10 = rw (pow-suc 10 (suc k)) at f.1 in
    (omega arith, (div-lt_iff_lt-mul {k = 10} {x = n} {y = 10 ^ suc k} (omega arith)).1 u, λ h. rw d ((le-div_iff_mul-le {k = 10} {x = 10 ^ k} {y = n} (omega arith)).1 q))

-- so many digits, where so many are the fewest
fewest : (k n : ℕ) → IsDigitCount 10 1 n k → last_digits 10 k n ≡ digits_up_to k n
unfolding digits_up_to
fewest zero n f = absurd (omega (arith, f.0))
fewest (suc zero) n f = let small : n < 10 = f.1 in rw (lt-ltb n 10 small, digit n)
fewest (suc (suc k)) n f =
    rw (le-ltb n 10 (large k n f), digit n) (ap (λ (l : List ℕ). l ++ ((48 + n % 10) ∷ [])) (fewest (suc k) (n / 10) (tenth k n f)))

-- a number that is put by the digits that a buffer holds
pub number_put : {a b : List ℕ} {at r : ℕ} (ds : List ℕ) (k n : ℕ) → n < 0x10000000000000000 → Put a at (take k ds) b r
    → IsDigitCount 10 1 n k → take k ds ≡ last_digits 10 k n → Put a at (decimal n) b r
number_put ds k n small p f e = rw (e ∙ fewest k n f ∙ decimal_held k n f.0 f.1 small) at p
