-- What stands between the one-bit step and a run of n equal pieces in O(log n) steps.
-- Assumes nothing.
use mathlib.Core.List.{List, flatten}
use Rattle.std.specs.Prelude.{ℕ, zero, suc, ◌*◌, ◌/◌, ◌%◌, ◌^◌, replicate}
use Rattle.std.specs.Int.Bits.{bit_xor}
use Rattle.crc32_rules.specs.Crc.{bit}

-- a list n times over
abbrev pub repeated : ℕ → List ℕ → List ℕ
repeated n xs = flatten (replicate n xs)

-- one, as a reflected polynomial: the highest bit
abbrev pub unit : ℕ
unit = 0x80000000

-- shift and add, over the n highest of the 32 bits of b: a is added where the bit is 1, and then goes a one-bit step on
unfoldable pub shift_add : ℕ → ℕ → ℕ → ℕ → ℕ
shift_add zero b acc a = acc
shift_add (suc n) b acc a = shift_add n (b % 2 ^ 31 * 2) (bit_xor acc (b / 2 ^ 31 * a)) (bit a)

-- the product of two reflected polynomials modulo the polynomial
abbrev pub times : ℕ → ℕ → ℕ
times b a = shift_add 32 b 0 a

-- one's fixed point: 32 steps of it with one added make it again
abbrev pub fixed_one : ℕ
fixed_one = 0x39A38F74

-- a word's fixed point: the state that the four bytes of the word leave as it is
abbrev pub fixed_point : ℕ → ℕ
fixed_point w = times w fixed_one
