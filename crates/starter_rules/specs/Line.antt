-- The final command line: the loader's, the started image's, the slot and the mode; and whether recovery is asked for.
-- Assumes nothing.
use Rattle.std.specs.Prelude.{Bool, true, false, cond, ◌&&◌, List, [], ◌∷◌, ◌++◌, ℕ, eqb, get_or, take, drop}
use Rattle.text_rules.specs.Words.{ascii}
use Rattle.boot_rules.specs.declared.Field.{Field}
use Rattle.boot_rules.specs.Sections.{cmdline_in, extra_in}

-- "up to the first zero byte or its end"
unfoldable pub up_to_zero : List ℕ → List ℕ
up_to_zero [] = []
up_to_zero (x ∷ xs) = cond (eqb x 0) [] (x ∷ up_to_zero xs)

-- the text in a field of an image
unfoldable pub text_in : List ℕ → Field → List ℕ
text_in s f = up_to_zero (take f.width (drop f.at s))

-- "its cmdline up to the first zero byte or its end, followed in versions 0 to 2 by the extra cmdline read the same way": the other versions have no such field, so it is without bytes
unfoldable pub image_line : List ℕ → List ℕ
image_line s = text_in s (cmdline_in s) ++ text_in s (extra_in s)

-- "the right letter": a for the slot 0, to d; no slot is past d
abbrev pub letter : ℕ → ℕ
letter k = get_or (ascii "abcd") k 0

-- "` androidboot.slot_suffix=_a` with the right letter"
unfoldable pub suffix : ℕ → List ℕ
suffix k = ascii " androidboot.slot_suffix=_" ++ (letter k ∷ [])

-- "then ` skip_initramfs` unless recovery was asked for"
unfoldable pub mode : Bool → List ℕ
mode asked = cond asked [] (ascii " skip_initramfs")

-- "the loader's line, a space, the image's line", then slot and mode: the line of the slot k with the image s
unfoldable pub line : List ℕ → List ℕ → ℕ → Bool → List ℕ
line loader s k asked = loader ++ (ascii " " ++ (image_line s ++ (suffix k ++ mode asked)))

-- a list begins with another
unfoldable pub begins : List ℕ → List ℕ → Bool
begins [] s = true
begins (w ∷ ws) [] = false
begins (w ∷ ws) (x ∷ s) = eqb x w && begins ws s

-- "Recovery is asked for when misc begins with `boot-recovery` and a zero byte"
unfoldable pub asks_recovery : List ℕ → Bool
asks_recovery misc = begins (ascii "boot-recovery" ++ (0 ∷ [])) misc
