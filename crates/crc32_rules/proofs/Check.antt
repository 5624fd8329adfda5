-- The check value of CRC-32: 0xCBF43926 for the bytes of `123456789`.
-- Assumes nothing.
use mathlib.Core.Path.{◌≡◌, refl}
use mathlib.Core.List.{[], ◌∷◌}
use Rattle.crc32_rules.specs.Crc.{bit, steps, byte_step, crc_from, crc32}

pub check_value : crc32 (49 ∷ 50 ∷ 51 ∷ 52 ∷ 53 ∷ 54 ∷ 55 ∷ 56 ∷ 57 ∷ []) ≡ 0xCBF43926
unfolding crc32 crc_from byte_step steps bit
check_value = refl
