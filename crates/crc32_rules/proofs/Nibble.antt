-- What the table's rule says of each entry, and the step of half a byte that it serves.
-- Assumes nothing.
use mathlib.Core.Path.{◌≡◌, sym, ap, ◌∙◌}
use mathlib.Core.List.{List}
use Prim.Native.Nat.{ℕ, ◌/◌, ◌%◌, ◌<◌}
use native.Mathlib.Nat.{zero-lt-suc, mod-lt}
use native.Mathlib.Omega.{arith}
use lib.Bits.{bit_xor, xor_comm}
use lib.Dec.{eqb→eq}
use lib.ListN.{length, get_or}
use Rattle.rules.proofs.Table.{at}
use Rattle.crc32_rules.specs.Crc.{steps}
use Rattle.crc32_rules.specs.Table.{half_byte, HalfBytes}
use Rattle.crc32_rules.proofs.Linear.{steps_split}

-- each entry is what four one-bit steps make of its index
pub half-byte : (t : List ℕ) → HalfBytes t → (k : ℕ) → k < 16 → get_or t k 0 ≡ steps 4 k
half-byte t rule k h =
    let inside : k < length t = omega arith in
    eqb→eq (get_or t k 0) (steps 4 k) (at 0 half_byte t rule.1 k inside)

-- four steps of a state: its low half byte through the table, and the rest moves down
pub nibble : (t : List ℕ) → HalfBytes t → (s : ℕ) → bit_xor (get_or t (s % 16) 0) (s / 16) ≡ steps 4 s
nibble t rule s =
    ap (λ (x : ℕ). bit_xor x (s / 16)) (half-byte t rule (s % 16) (mod-lt s (zero-lt-suc 15)))
    ∙ xor_comm (steps 4 (s % 16)) (s / 16)
    ∙ sym (steps_split 4 s)
