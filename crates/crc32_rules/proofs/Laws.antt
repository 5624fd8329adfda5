-- What callers use of `crc_from` and `crc32`: pieces one after the other, runs, and that a state fits in 32 bits.
-- Assumes nothing.
use mathlib.Core.Path.{◌≡◌, refl, sym, ap, ◌∙◌}
use mathlib.Core.List.{List, [], ◌∷◌, ◌++◌, foldl-append, flatten, append_assoc}
use Prim.Native.Nat.{ℕ, zero, suc, ◌+◌, ◌^◌, ◌<◌}
use native.Mathlib.Nat.{zero-add, suc-add}
use native.Mathlib.Omega.{arith}
use lib.Bits.{bit_xor, xor_lt}
use lib.ListN.{get_or, replicate, replicate-append-replicate}
use Rattle.crc32_rules.specs.Crc.{byte_step, crc_from, crc32, all_ones}
use Rattle.crc32_rules.specs.Power.{repeated}
use Rattle.crc32_rules.proofs.Linear.{steps_lt}

-- ---- pieces

-- no bytes leave the state
pub crc_nil : (s : ℕ) → crc_from s [] ≡ s
unfolding crc_from
crc_nil s = refl

-- the append law: the state over xs ++ ys is the state over xs, then ys
pub crc-append : (s : ℕ) (xs ys : List ℕ) → crc_from s (xs ++ ys) ≡ crc_from (crc_from s xs) ys
unfolding crc_from
crc-append s xs ys = foldl-append byte_step s xs ys

-- the checksum is the state from all all_ones, inverted
pub crc_finish : (xs : List ℕ) → crc32 xs ≡ bit_xor (crc_from all_ones xs) all_ones
unfolding crc32
crc_finish xs = refl

-- ---- runs

-- a list n + m times over
pub repeated_add : (n m : ℕ) (xs : List ℕ) → repeated (n + m) xs ≡ repeated n xs ++ repeated m xs
unfolding flatten
repeated_add zero m xs = ap (λ (k : ℕ). repeated k xs) (zero-add m)
repeated_add (suc n) m xs =
    ap (λ (k : ℕ). repeated k xs) (suc-add n m)
    ∙ ap (λ (r : List ℕ). xs ++ r) (repeated_add n m xs)
    ∙ sym (append_assoc xs (repeated n xs) (repeated m xs))

-- a run of n + m zero bytes is a run of n, then one of m
pub crc_zeros_add : (s n m : ℕ) → crc_from s (replicate (n + m) 0) ≡ crc_from (crc_from s (replicate n 0)) (replicate m 0)
crc_zeros_add s n m = ap (crc_from s) (sym (replicate-append-replicate n m 0)) ∙ crc-append s (replicate n 0) (replicate m 0)

-- ---- 32 bits

-- a state stays within 32 bits
crc_fits : (s : ℕ) (xs : List ℕ) → s < 2 ^ 32 → ((k : ℕ) → get_or xs k 0 < 256) → crc_from s xs < 2 ^ 32
unfolding crc_from byte_step
crc_fits s [] h b = h
crc_fits s (x ∷ xs) h b =
    let small : x < 2 ^ 32 = omega (arith, b 0) in
    crc_fits (byte_step s x) xs (steps_lt 8 (bit_xor s x) (xor_lt 32 s x h small)) (λ k. b (suc k))

-- and so does a checksum
pub crc32_fits : (xs : List ℕ) → ((k : ℕ) → get_or xs k 0 < 256) → crc32 xs < 2 ^ 32
unfolding crc32
crc32_fits xs b = xor_lt 32 (crc_from all_ones xs) all_ones (crc_fits all_ones xs (omega arith) b) (omega arith)
