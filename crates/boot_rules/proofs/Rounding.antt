-- Laws of pages: a number with a single one bit is the power of two that its trailing zeros say, so the shifts round up
-- to a page; and rounding up goes to a multiple of the page, never down and by a page at most. Assumes nothing.
use mathlib.Core.Path.{◌≡◌, refl, sym, ap, ◌∙◌, subst}
use mathlib.Core.Bool.{true, ◌&&◌}
use Prim.Native.Nat.{ℕ, zero, suc, ◌+◌, ◌-◌, ◌*◌, ◌/◌, ◌%◌, ◌^◌, ◌≤◌, ◌<◌}
use native.Mathlib.Nat.{div-add-mod', mod-lt, pow-suc, div-mul-le_self, mod-eq_of_lt, mul-mod_left}
use native.Mathlib.Omega.{arith}
use lib.Arith.{lt-one}
use lib.Count.{ones, ones_step, count_trailing_zeros, trailing_le, under}
use lib.Dec.{leb, eqb}
use lib.Pow.{shr_lt}
use borrow.Author.Tests.{leb-true, eqb-true}
use Rattle.boot_rules.specs.Pages.{is_page, round_up}
use Rattle.rules.proofs.Tests.{both}

half : (k n : ℕ) → n < 2 ^ suc k → n / 2 < 2 ^ k
half k n h = shr_lt k 1 (subst (λ (x : ℕ). n < 2 ^ x) (e k) h)
  where
    e : (k : ℕ) → suc k ≡ k + 1
    e k = omega arith

-- a number with no one bit is 0
no_bit : (k n : ℕ) → n < 2 ^ k → ones n ≡ 0 → n ≡ 0
no_bit zero n h e = lt-one h
no_bit (suc k) n h e =
    let s = ones_step n in
    let i : n / 2 ≡ 0 = no_bit k (n / 2) (half k n h) (omega arith) in
    let d = div-add-mod' n 2 in
    omega arith

ones_zero : ones 0 ≡ 0
unfolding ones
ones_zero = refl

-- a number with a single one bit is a power of two
one_bit : (k n : ℕ) → n < 2 ^ k → ones n ≡ 1 → n ≡ 2 ^ count_trailing_zeros k n
unfolding count_trailing_zeros
one_bit zero n h e = let z = ap ones (lt-one h) in let o = ones_zero in omega arith
one_bit (suc k) n h e = go (one_bit k (n / 2) (half k n h)) (n % 2) refl
  where
    go : (ones (n / 2) ≡ 1 → n / 2 ≡ 2 ^ count_trailing_zeros k (n / 2)) → (r : ℕ) → n % 2 ≡ r → n ≡ 2 ^ under r (count_trailing_zeros k (n / 2))
    go rest zero q =
        let s = ones_step n in
        let d = div-add-mod' n 2 in
        let i = rest (omega arith) in
        let p = pow-suc 2 (count_trailing_zeros k (n / 2)) in
        omega arith
    go rest (suc r) q =
        let s = ones_step n in
        let d = div-add-mod' n 2 in
        let i : n / 2 ≡ 0 = no_bit k (n / 2) (half k n h) (omega arith) in
        omega arith

-- what the test of a page size says
pub record Page (x : ℕ) : Type 0 where
  pub low : 2048 ≤ x
  pub high : x ≤ 16384
  pub power : x ≡ 2 ^ count_trailing_zeros 32 x
  pub shift : count_trailing_zeros 32 x < 64

pub page : (x : ℕ) → is_page x ≡ true → Page x
page x t =
    let u = both (leb 2048 x && leb x 16384) (eqb (ones x) 1) t in
    let v = both (leb 2048 x) (leb x 16384) u.0 in
    let lo = leb-true 2048 x v.0 in
    let hi = leb-true x 16384 v.1 in
    let l = trailing_le 32 x in
    record {
      low = lo;
      high = hi;
      power = one_bit 32 x (omega arith) (eqb-true (ones x) 1 u.1);
      shift = omega arith;
    }

-- rounding up goes to a multiple of the page
pub round_whole : (n x : ℕ) → round_up n x % x ≡ 0
round_whole n x = mul-mod_left ((n + (x - 1)) / x) x

-- and never down
pub round-up : (n x : ℕ) → 0 < x → n ≤ round_up n x
round-up n x h = let d = div-add-mod' (n + (x - 1)) x in let m = mod-lt (n + (x - 1)) h in omega arith

-- and by a page at most
pub round_most : (n x : ℕ) → round_up n x ≤ n + x
round_most n x = let l = div-mul-le_self (n + (x - 1)) x in omega arith

-- the shifts round up to a page
pub rounded : (n x : ℕ) → Page x → n + (x - 1) < 2 ^ 64 → ((n + (x - 1)) / 2 ^ count_trailing_zeros 32 x * 2 ^ count_trailing_zeros 32 x) % 2 ^ 64 ≡ round_up n x
rounded n x p h =
    ap (λ (y : ℕ). ((n + (x - 1)) / y * y) % 2 ^ 64) (sym p.power)
    ∙ mod-eq_of_lt (let l = div-mul-le_self (n + (x - 1)) x in let q = p.low in omega arith)
