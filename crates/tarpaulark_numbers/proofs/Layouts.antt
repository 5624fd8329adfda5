-- What the proof of the layout cites: its numbers.
-- Assumes nothing.
use mathlib.Core.Path.{◌≡◌}
use mathlib.Core.List.{List, [], ◌∷◌}
use Prim.Native.Nat.{ℕ}
use lib.ListN.{get_or}
use Rattle.boot_rules.specs.declared.Layout.{Layout}
use Rattle.slot_bytes.specs.Record.{flag}
use Rattle.tarpaulark_numbers.specs.Numbers.{section_of, found_numbers}

-- the numbers of a layout: its version, five sections, read one by one, and the flag
pub five : (l : Layout) (a b c d e : List ℕ) (r : ℕ) → a ≡ section_of l.kernel → b ≡ section_of l.ramdisk → c ≡ section_of l.recovery → d ≡ section_of l.dtb → e ≡ section_of l.signature → r ≡ flag l.retired → ◌≡◌ {A = List ℕ} (l.version ∷ get_or a 0 0 ∷ get_or a 1 0 ∷ get_or a 2 0 ∷ get_or b 0 0 ∷ get_or b 1 0 ∷ get_or b 2 0 ∷ get_or c 0 0 ∷ get_or c 1 0 ∷ get_or c 2 0 ∷ get_or d 0 0 ∷ get_or d 1 0 ∷ get_or d 2 0 ∷ get_or e 0 0 ∷ get_or e 1 0 ∷ get_or e 2 0 ∷ r ∷ []) (found_numbers l)
five l a b c d e r ea eb ec ed ee er = rw (ea, eb, ec, ed, ee, er)
