-- "CRC-32 of IEEE 802.3 (reflected, start and final inversion all ones)", one bit a step.
-- Assumes nothing.
use mathlib.Core.List.{List, foldl}
use Rattle.std.specs.Prelude.{ℕ, zero, suc, ◌*◌, ◌/◌, ◌%◌}
use Rattle.std.specs.Int.Bits.{bit_xor}

-- "IEEE 802.3", "reflected": the polynomial, the coefficient of x to the power 31 in the lowest bit
abbrev pub polynomial : ℕ
polynomial = 0xEDB88320

-- one step: the lowest bit is shifted out, and where it is 1 the polynomial is added
unfoldable pub bit : ℕ → ℕ
bit s = bit_xor (s / 2) (s % 2 * polynomial)

-- so many one-bit steps
unfoldable pub steps : ℕ → ℕ → ℕ
steps zero s = s
steps (suc k) s = steps k (bit s)

-- a byte is added to the state, and eight one-bit steps follow
unfoldable pub byte_step : ℕ → ℕ → ℕ
byte_step s x = steps 8 (bit_xor s x)

-- the state after a list of bytes, from a state
unfoldable pub crc_from : ℕ → List ℕ → ℕ
crc_from s xs = foldl byte_step s xs

-- "all ones"
abbrev pub all_ones : ℕ
all_ones = 0xFFFFFFFF

-- "start and final inversion all ones": the checksum of a list of bytes
unfoldable pub crc32 : List ℕ → ℕ
crc32 xs = bit_xor (crc_from all_ones xs) all_ones
