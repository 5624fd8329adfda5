-- Laws of the line, part by part.
-- Assumes nothing.
use mathlib.Core.Path.{◌≡◌}
use mathlib.Core.Bool.{Bool, true, false}
use mathlib.Core.List.{List, [], ◌∷◌, ◌++◌}
use Prim.Native.Nat.{ℕ}
use Rattle.text_rules.specs.Words.{ascii}
use Rattle.boot_rules.specs.declared.Field.{Field}
use Rattle.boot_rules.specs.Sections.{cmdline_in, extra_in}
use Rattle.starter_rules.specs.Line.{text_in, image_line, letter, suffix, mode}

-- the image's line, by where its fields were found
pub image-line : (s : List ℕ) (f g : Field) → f ≡ cmdline_in s → g ≡ extra_in s → text_in s f ++ text_in s g ≡ image_line s
unfolding image_line
image-line s f g e h = rw (e, h)

-- the slot, by its letter
pub suffix_by : (k n : ℕ) → n ≡ letter k → ascii " androidboot.slot_suffix=_" ++ (n ∷ []) ≡ suffix k
unfolding suffix
suffix_by k n e = rw e

-- the mode, by whether recovery is asked for
pub mode_asked : (asked : Bool) → asked ≡ true → mode asked ≡ []
unfolding mode
mode_asked asked e = rw e

pub mode_plain : (asked : Bool) → asked ≡ false → mode asked ≡ ascii " skip_initramfs"
unfolding mode
mode_plain asked e = rw e
