-- The product of two polynomials is linear in the second, and by a power of x it is so many one-bit steps; the fixed point of a word.
-- Assumes nothing.
use mathlib.Core.Path.{◌≡◌, refl, sym, ap, ap₂, subst, ◌∙◌}
use Prim.Native.Nat.{ℕ, zero, suc, ◌+◌, ◌*◌, ◌/◌, ◌%◌, ◌^◌, ◌<◌}
use native.Mathlib.Nat.{zero-add, add-zero, add_assoc, add-mul, zero-mul, one-mul, mul-one, mul_assoc, mod-lt, pow-suc, pow-succ'}
use native.Mathlib.Omega.{arith}
use lib.Arith.{lt-one}
use lib.Bits.{bit_xor, xor_shifted}
use lib.Pow.{pow_pos, pow-add, shr_lt, shl_lt, split, high, low}
use Rattle.crc32_rules.specs.Crc.{bit, steps}
use Rattle.crc32_rules.specs.Power.{unit, shift_add, times, fixed_one, fixed_point}
use Rattle.crc32_rules.proofs.Xor.{no_two, xor_four}
use Rattle.crc32_rules.proofs.Linear.{bit-xor, bit_times, bit_up, steps-zero}

-- the highest of 32 bits, and the others one place up
top : (b : ℕ) → b < 2 ^ 32 → b / 2 ^ 31 < 2
top b h = shr_lt 1 31 h

rest : (b : ℕ) → b % 2 ^ 31 * 2 < 2 ^ 32
rest b = shl_lt 31 1 (mod-lt b (pow_pos 31))

-- ---- linear in the second factor

digit_xor : (d a c : ℕ) → d < 2 → d * bit_xor a c ≡ bit_xor (d * a) (d * c)
digit_xor zero a c h = zero-mul (bit_xor a c) ∙ sym (ap₂ bit_xor (zero-mul a) (zero-mul c))
digit_xor (suc zero) a c h = one-mul (bit_xor a c) ∙ sym (ap₂ bit_xor (one-mul a) (one-mul c))
digit_xor (suc (suc d)) a c h = no_two h

shift_add_xor : (n b x y a c : ℕ) → b < 2 ^ 32 → shift_add n b (bit_xor x y) (bit_xor a c) ≡ bit_xor (shift_add n b x a) (shift_add n b y c)
unfolding shift_add
shift_add_xor zero b x y a c h = refl
shift_add_xor (suc n) b x y a c h =
    let d = b / 2 ^ 31 in
    ap₂ (shift_add n (b % 2 ^ 31 * 2))
    (ap (bit_xor (bit_xor x y)) (digit_xor d a c (top b h)) ∙ xor_four x y (d * a) (d * c)) (bit-xor a c)
    ∙ shift_add_xor n (b % 2 ^ 31 * 2) (bit_xor x (d * a)) (bit_xor y (d * c)) (bit a) (bit c) (rest b)

times_xor : (b a c : ℕ) → b < 2 ^ 32 → times b (bit_xor a c) ≡ bit_xor (times b a) (times b c)
times_xor b a c h = shift_add_xor 32 b 0 0 a c h

shift_add_bit : (n b acc a : ℕ) → b < 2 ^ 32 → shift_add n b (bit acc) (bit a) ≡ bit (shift_add n b acc a)
unfolding shift_add
shift_add_bit zero b acc a h = refl
shift_add_bit (suc n) b acc a h =
    ap (λ (x : ℕ). shift_add n (b % 2 ^ 31 * 2) x (bit (bit a)))
    (ap (bit_xor (bit acc)) (sym (bit_times (b / 2 ^ 31) a (top b h))) ∙ sym (bit-xor acc (b / 2 ^ 31 * a)))
    ∙ shift_add_bit n (b % 2 ^ 31 * 2) (bit_xor acc (b / 2 ^ 31 * a)) (bit a) (rest b)

shift_add-steps : (k n b acc a : ℕ) → b < 2 ^ 32 → shift_add n b (steps k acc) (steps k a) ≡ steps k (shift_add n b acc a)
unfolding steps
shift_add-steps zero n b acc a h = refl
shift_add-steps (suc k) n b acc a h = shift_add-steps k n b (bit acc) (bit a) h ∙ ap (steps k) (shift_add_bit n b acc a h)

-- a product by what so many steps make of a number is as many steps of the product
steps_times : (k b a : ℕ) → b < 2 ^ 32 → times b (steps k a) ≡ steps k (times b a)
steps_times k b a h = ap (λ (x : ℕ). shift_add 32 b x (steps k a)) (sym (steps-zero k)) ∙ shift_add-steps k 32 b 0 a h

-- ---- by a power of x

-- a number m places up: what stands above its low n bits, and these bits
digits : (n m c : ℕ) → c * 2 ^ m ≡ c / 2 ^ n * 2 ^ (n + m) + c % 2 ^ n * 2 ^ m
digits n m c =
    ap (λ (x : ℕ). x * 2 ^ m) (sym (split c n))
    ∙ add-mul (c / 2 ^ n * 2 ^ n) (c % 2 ^ n) (2 ^ m)
    ∙ ap (λ (x : ℕ). x + c % 2 ^ n * 2 ^ m)
    (mul_assoc (c / 2 ^ n) (2 ^ n) (2 ^ m) ∙ ap (λ (x : ℕ). c / 2 ^ n * x) (sym (pow-add 2 n m)))

-- by one: the bits come back in their places, below those that were met before
by_unit : (n m c h a : ℕ) → c < 2 ^ n → n + m ≡ 32 → ((k : ℕ) → n ≡ suc k → a ≡ 2 ^ k) → shift_add n (c * 2 ^ m) (h * 2 ^ n) a ≡ h * 2 ^ n + c
unfolding shift_add
by_unit zero m c h a small e power = sym (ap (λ (x : ℕ). h * 1 + x) (lt-one small) ∙ add-zero (h * 1))
by_unit (suc n) m c h a small e power =
    let d = c / 2 ^ n in
    let r = c % 2 ^ n in
    let e31 : n + m ≡ 31 = omega arith in
    let whole : c * 2 ^ m ≡ d * 2 ^ 31 + r * 2 ^ m =
    digits n m c ∙ ap (λ (x : ℕ). d * 2 ^ x + r * 2 ^ m) e31 in
    let fits : r * 2 ^ m < 2 ^ 31 = subst (λ (x : ℕ). r * 2 ^ m < 2 ^ x) e31 (shl_lt n m (mod-lt c (pow_pos n))) in
    let digit : c * 2 ^ m / 2 ^ 31 ≡ d = ap (λ (x : ℕ). x / 2 ^ 31) whole ∙ high d 31 fits in
    let left : c * 2 ^ m % 2 ^ 31 * 2 ≡ r * 2 ^ suc m =
    ap (λ (x : ℕ). x % 2 ^ 31 * 2) whole ∙ ap (λ (x : ℕ). x * 2) (low d 31 fits)
    ∙ mul_assoc r (2 ^ m) 2 ∙ ap (λ (x : ℕ). r * x) (sym (pow-suc 2 m)) in
    let place : d * 2 ^ n < 2 ^ suc n = omega (arith, split c n) in
    let met : h * 2 ^ suc n + d * 2 ^ n ≡ (h * 2 + d) * 2 ^ n =
    ap (λ (x : ℕ). h * x + d * 2 ^ n) (pow-succ' 2 n) ∙ ap (λ (x : ℕ). x + d * 2 ^ n) (sym (mul_assoc h 2 (2 ^ n)))
    ∙ sym (add-mul (h * 2) d (2 ^ n)) in
    let acc : bit_xor (h * 2 ^ suc n) (c * 2 ^ m / 2 ^ 31 * a) ≡ (h * 2 + d) * 2 ^ n =
    ap₂ (λ (x y : ℕ). bit_xor (h * 2 ^ suc n) (x * y)) digit (power n refl)
    ∙ xor_shifted h (suc n) (d * 2 ^ n) place ∙ met in
    let next : (k : ℕ) → n ≡ suc k → bit a ≡ 2 ^ k =
    λ k en. ap bit (power n refl ∙ ap (λ (x : ℕ). 2 ^ x) en ∙ sym (one-mul (2 ^ suc k))) ∙ bit_up 1 k ∙ one-mul (2 ^ k) in
    ap₂ (λ (x y : ℕ). shift_add n x y (bit a)) left acc
    ∙ by_unit n (suc m) r (h * 2 + d) (bit a) (mod-lt c (pow_pos n)) (omega arith) next
    ∙ ap (λ (x : ℕ). x + r) (sym met) ∙ add_assoc (h * 2 ^ suc n) (d * 2 ^ n) r ∙ ap (λ (x : ℕ). h * 2 ^ suc n + x) (split c n)

-- k steps of a number are its product by the k-th power of x
pub times_steps : (k b : ℕ) → b < 2 ^ 32 → times b (steps k unit) ≡ steps k b
times_steps k b h =
    steps_times k b unit h
    ∙ ap (steps k) (ap (λ (x : ℕ). shift_add 32 x 0 unit) (sym (mul-one b)) ∙ by_unit 32 0 b 0 unit h refl top_power ∙ zero-add b)
  where
    top_power : (k : ℕ) → 32 ≡ suc k → unit ≡ 2 ^ k
    top_power k e =
        let e31 : 31 ≡ k = omega arith in
        ap (λ (x : ℕ). 2 ^ x) e31

-- ---- the fixed point of a word

-- where k steps of p with one added make p, k steps of w times p with w added make w times p
stays_fixed : (k p w : ℕ) → w < 2 ^ 32 → steps k (bit_xor p unit) ≡ p → steps k (bit_xor (times w p) w) ≡ times w p
unfolding steps
stays_fixed k p w h e =
    ap (λ (x : ℕ). steps k (bit_xor (times w p) x)) (sym (times_steps 0 w h))
    ∙ ap (steps k) (sym (times_xor w p unit h))
    ∙ sym (steps_times k w (bit_xor p unit) h)
    ∙ ap (times w) e

-- a word leaves its fixed point as it is
pub word_fixed : (w : ℕ) → w < 2 ^ 32 → steps 32 (bit_xor (fixed_point w) w) ≡ fixed_point w
unfolding steps bit
word_fixed w h = stays_fixed 32 fixed_one w h refl

-- the fixed point of the word 0 is 0
pub zero_fixed : fixed_point 0 ≡ 0
unfolding shift_add bit
zero_fixed = refl
