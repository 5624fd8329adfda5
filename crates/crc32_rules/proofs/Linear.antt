-- The one-bit step is linear over exclusive or; what lies above the bits that leave only moves down.
-- Assumes nothing.
use mathlib.Core.Path.{◌≡◌, refl, sym, ap, ap₂, ◌∙◌}
use Prim.Native.Nat.{ℕ, zero, suc, ◌+◌, ◌*◌, ◌/◌, ◌%◌, ◌^◌, ◌≤◌, ◌<◌}
use native.Mathlib.Nat.{suc-add, zero-add, zero-mul, one-mul, mul-one, mod-lt, mul-le-mul_right}
use native.Mathlib.Omega.{arith}
use lib.Bits.{bit_xor, bit_and, differ, xor_shr, xor_shifted, xor_zero_r, xor_lt, shifted_half, shifted_even}
use lib.Pow.{pow_pos, split}
use Rattle.crc32_rules.specs.Crc.{polynomial, bit, steps}
use Rattle.crc32_rules.proofs.Xor.{no_two, digit, xor_odd, xor_four}

-- ---- one step

differ_times : (x y : ℕ) → x < 2 → y < 2 → differ x y * polynomial ≡ bit_xor (x * polynomial) (y * polynomial)
differ_times zero y hx hy = refl
differ_times (suc zero) zero hx hy = refl
differ_times (suc zero) (suc zero) hx hy = refl
differ_times (suc zero) (suc (suc y)) hx hy = no_two hy
differ_times (suc (suc x)) y hx hy = no_two hx

masked : (d : ℕ) → d < 2 → bit_and (d * 0xFFFFFFFF) polynomial ≡ d * polynomial
masked zero h = refl
masked (suc zero) h = refl
masked (suc (suc d)) h = no_two h

-- the step by a mask: all ones where the lowest bit is 1
pub bit_masked : (s : ℕ) → bit_xor (s / 2) (bit_and (s % 2 * 0xFFFFFFFF) polynomial) ≡ bit s
unfolding bit
bit_masked s = ap (bit_xor (s / 2)) (masked (s % 2) (digit s))

pub bit-xor : (a b : ℕ) → bit (bit_xor a b) ≡ bit_xor (bit a) (bit b)
unfolding bit
bit-xor a b =
    ap₂ bit_xor (xor_shr a b 1)
    (ap (λ (x : ℕ). x * polynomial) (xor_odd a b) ∙ differ_times (a % 2) (b % 2) (digit a) (digit b))
    ∙ xor_four (a / 2) (b / 2) (a % 2 * polynomial) (b % 2 * polynomial)

pub bit_times : (d a : ℕ) → d < 2 → bit (d * a) ≡ d * bit a
unfolding bit
bit_times zero a h = ap bit (zero-mul a) ∙ sym (zero-mul (bit a))
bit_times (suc zero) a h = ap bit (one-mul a) ∙ sym (one-mul (bit a))
bit_times (suc (suc d)) a h = no_two h

-- what stands above the lowest bit moves down
pub bit_up : (c n : ℕ) → bit (c * 2 ^ suc n) ≡ c * 2 ^ n
unfolding bit
bit_up c n =
    ap₂ (λ (x y : ℕ). bit_xor x (y * polynomial)) (shifted_half c n) (shifted_even c n) ∙ xor_zero_r (c * 2 ^ n)

-- a bit times a number is no larger than it
pub times_lt : (d a n : ℕ) → d < 2 → a < n → d * a < n
times_lt d a n two h =
    let small : d ≤ 1 = omega arith in
    omega (arith, mul-le-mul_right a small, one-mul a)

bit_lt : (s : ℕ) → s < 2 ^ 32 → bit s < 2 ^ 32
unfolding bit
bit_lt s h = xor_lt 32 (s / 2) (s % 2 * polynomial) (omega arith) (omega arith)

-- ---- so many steps

pub steps_xor : (k a b : ℕ) → steps k (bit_xor a b) ≡ bit_xor (steps k a) (steps k b)
unfolding steps
steps_xor zero a b = refl
steps_xor (suc k) a b = ap (steps k) (bit-xor a b) ∙ steps_xor k (bit a) (bit b)

pub steps-add : (j k s : ℕ) → steps (j + k) s ≡ steps k (steps j s)
unfolding steps
steps-add zero k s = ap (λ (n : ℕ). steps n s) (zero-add k)
steps-add (suc j) k s = ap (λ (n : ℕ). steps n s) (suc-add j k) ∙ steps-add j k (bit s)

pub steps-zero : (k : ℕ) → steps k 0 ≡ 0
unfolding steps bit
steps-zero zero = refl
steps-zero (suc k) = steps-zero k

pub steps_lt : (k s : ℕ) → s < 2 ^ 32 → steps k s < 2 ^ 32
unfolding steps
steps_lt zero s h = h
steps_lt (suc k) s h = steps_lt k (bit s) (bit_lt s h)

steps_up : (k h : ℕ) → steps k (h * 2 ^ k) ≡ h
unfolding steps
steps_up zero h = mul-one h
steps_up (suc k) h = ap (steps k) (bit_up h k) ∙ steps_up k h

-- the low k bits go through k steps, the others move down
pub steps_split : (k s : ℕ) → steps k s ≡ bit_xor (s / 2 ^ k) (steps k (s % 2 ^ k))
steps_split k s =
    ap (steps k) (sym (xor_shifted (s / 2 ^ k) k (s % 2 ^ k) (mod-lt s (pow_pos k)) ∙ split s k))
    ∙ steps_xor k (s / 2 ^ k * 2 ^ k) (s % 2 ^ k)
    ∙ ap (λ (x : ℕ). bit_xor x (steps k (s % 2 ^ k))) (steps_up k (s / 2 ^ k))
