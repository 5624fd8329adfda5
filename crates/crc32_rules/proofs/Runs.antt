-- Runs of zero bytes and of a word, as so many one-bit steps.
-- Assumes nothing.
use mathlib.Core.Path.{◌≡◌, refl, sym, ap, ◌∙◌}
use mathlib.Core.List.{flatten}
use Prim.Native.Nat.{ℕ, zero, suc, ◌+◌, ◌*◌, ◌/◌, ◌%◌, ◌^◌, ◌<◌}
use native.Mathlib.Omega.{arith}
use lib.Arith.{lt-one}
use lib.Bits.{bit_xor, xor_comm, xor_zero_r, xor_self}
use lib.ListN.{replicate}
use lib.Pow.{pow-add}
use Rattle.fields_rules.specs.Number.{bytes}
use Rattle.crc32_rules.specs.Crc.{steps, byte_step, crc_from}
use Rattle.crc32_rules.specs.Power.{repeated, unit, times, fixed_point}
use Rattle.crc32_rules.proofs.Xor.{xor_assoc, xor_four}
use Rattle.crc32_rules.proofs.Linear.{steps_xor, steps-add, steps_split}
use Rattle.crc32_rules.proofs.Products.{times_steps, word_fixed}
use Rattle.crc32_rules.proofs.Laws.{crc-append}

-- n zero bytes are eight times as many steps
pub zero-steps : (n s : ℕ) → crc_from s (replicate n 0) ≡ steps (n * 8) s
unfolding crc_from byte_step steps
zero-steps zero s = refl
zero-steps (suc n) s =
    let e : suc n * 8 ≡ 8 + n * 8 = omega arith in
    zero-steps n (byte_step s 0)
    ∙ ap (λ (x : ℕ). steps (n * 8) (steps 8 x)) (xor_zero_r s)
    ∙ sym (ap (λ (k : ℕ). steps k s) e ∙ steps-add 8 (n * 8) s)

-- a state is carried over n zero bytes by one product with what they make of one
pub zeros_times : (n s p : ℕ) → s < 2 ^ 32 → p ≡ crc_from unit (replicate n 0) → times s p ≡ crc_from s (replicate n 0)
zeros_times n s p h e = ap (times s) (e ∙ zero-steps n unit) ∙ times_steps (n * 8) s h ∙ sym (zero-steps n s)

-- the low byte of a number goes in, the others move down
low_byte : (s v : ℕ) → steps 8 (bit_xor s v) ≡ bit_xor (byte_step s (v % 256)) (v / 256)
unfolding byte_step
low_byte s v =
    steps_xor 8 s v
    ∙ ap (bit_xor (steps 8 s)) (steps_split 8 v ∙ xor_comm (v / 256) (steps 8 (v % 256)))
    ∙ sym (xor_assoc (steps 8 s) (steps 8 (v % 256)) (v / 256))
    ∙ ap (λ (x : ℕ). bit_xor x (v / 256)) (sym (steps_xor 8 s (v % 256)))

-- a number of w bytes goes in at once
number : (w s v : ℕ) → v < 2 ^ (w * 8) → steps (w * 8) (bit_xor s v) ≡ crc_from s (bytes w v)
unfolding crc_from steps
number zero s v h = ap (bit_xor s) (lt-one h) ∙ xor_zero_r s
number (suc w) s v h =
    let e : suc w * 8 ≡ 8 + w * 8 = omega arith in
    let p : 2 ^ (suc w * 8) ≡ 256 * 2 ^ (w * 8) = ap (λ (n : ℕ). 2 ^ n) e ∙ pow-add 2 8 (w * 8) in
    let small : v / 256 < 2 ^ (w * 8) = omega arith in
    ap (λ (n : ℕ). steps n (bit_xor s v)) e
    ∙ steps-add 8 (w * 8) (bit_xor s v)
    ∙ ap (steps (w * 8)) (low_byte s v)
    ∙ number w (byte_step s (v % 256)) (v / 256) small

-- over a word, the difference of a state from the word's fixed point goes on as over zero bytes
apart : (s v fixed : ℕ) → steps 32 (bit_xor fixed v) ≡ fixed → bit_xor (steps 32 (bit_xor s v)) fixed ≡ steps 32 (bit_xor s fixed)
apart s v fixed stays =
    ap (bit_xor (steps 32 (bit_xor s v))) (sym stays)
    ∙ sym (steps_xor 32 (bit_xor s v) (bit_xor fixed v))
    ∙ ap (steps 32) (xor_four s v fixed v ∙ ap (bit_xor (bit_xor s fixed)) (xor_self v) ∙ xor_zero_r (bit_xor s fixed))

-- n times the four bytes of a word
pub word_steps : (n s v : ℕ) → v < 2 ^ 32 → crc_from s (repeated n (bytes 4 v)) ≡ bit_xor (steps (n * 32) (bit_xor s (fixed_point v))) (fixed_point v)
unfolding crc_from steps flatten
word_steps zero s v h = sym (xor_assoc s (fixed_point v) (fixed_point v) ∙ ap (bit_xor s) (xor_self (fixed_point v)) ∙ xor_zero_r s)
word_steps (suc n) s v h =
    let e : suc n * 32 ≡ 32 + n * 32 = omega arith in
    let fixed = fixed_point v in
    crc-append s (bytes 4 v) (repeated n (bytes 4 v))
    ∙ word_steps n (crc_from s (bytes 4 v)) v h
    ∙ ap (λ (x : ℕ). bit_xor (steps (n * 32) x) fixed)
    (ap (λ (x : ℕ). bit_xor x fixed) (sym (number 4 s v h)) ∙ apart s v fixed (word_fixed v h))
    ∙ ap (λ (x : ℕ). bit_xor x fixed) (sym (ap (λ (k : ℕ). steps k (bit_xor s fixed)) e ∙ steps-add 32 (n * 32) (bit_xor s fixed)))
