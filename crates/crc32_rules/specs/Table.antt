-- The rule of the table of sixteen numbers, as one test over the whole table.
-- Assumes nothing.
use Rattle.std.specs.Prelude.{◌≡◌, Bool, List, ℕ, T, eqb, length}
use Rattle.rules.specs.Every.{every}
use Rattle.crc32_rules.specs.Crc.{steps}

-- the number at k is what four one-bit steps make of k
abbrev pub half_byte : ℕ → ℕ → Bool
half_byte k x = eqb x (steps 4 k)

-- sixteen numbers, each of which passes the test
abbrev pub HalfBytes : List ℕ → Type 0
HalfBytes t = (length t ≡ 16) × T (every half_byte 0 t)
