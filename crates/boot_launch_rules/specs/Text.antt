-- What the program prints for an input: the pairs of release and kernel that take a boot image.
-- Assumes nothing.
use Rattle.std.specs.Prelude.{cond, ℕ, ◌≤◌, ltb, eqb, length}
use mathlib.Core.List.{List, [], ◌∷◌, map, flatten}
use Rattle.rules.specs.Answer.{Answer, accepted, refused}
use Rattle.text_rules.specs.Input.{longest, too_long}
use Rattle.text_rules.specs.Words.{ascii, decimal, labelled, line}
use Rattle.boot_rules.specs.declared.Layout.{Layout}
use Rattle.boot_rules.specs.Tests as boot
use Rattle.boot_launch_rules.specs.Rules.{Pair, plain, pairs}
use Rattle.boot_launch_rules.specs.Tests.{answer}

-- what a kernel is called, after a space
abbrev pub kernel_word : ℕ → List ℕ
kernel_word kernel = cond (eqb kernel plain) (ascii " plain") (ascii " generic")

-- a pair's line, "as `12 plain` or `12 generic`"
unfoldable pub pair_line : Pair → List ℕ
pair_line p = line (decimal p.release ∷ kernel_word p.kernel ∷ [])

-- a pair's line where it takes the image, and nothing where it does not
abbrev pub line_by : Pair → Answer Layout → List ℕ
line_by p (accepted l) = pair_line p
line_by p (refused n place) = []

-- the line of a pair for an image, if there is one
unfoldable pub taken_line : List ℕ → Pair → List ℕ
taken_line s p = line_by p (answer p.release p.kernel s)

-- "a line for every pair that takes it .. in order of release, plain first"
abbrev pub taken_lines : List ℕ → List Pair → List ℕ
taken_lines s ps = flatten (map (taken_line s) ps)

-- "a boot refusal prints `refused N` alone"
unfoldable pub refused_line : ℕ → List ℕ
refused_line n = line (labelled (ascii "refused ") n ∷ [])

-- the text of an input that is not too long, by what the boot part answers
unfoldable pub text_of : List ℕ → Answer Layout → List ℕ
text_of s (accepted l) = taken_lines s pairs
text_of s (refused n place) = refused_line n

-- "longer input `too long`"
unfoldable pub text : List ℕ → List ℕ
text s =
    let found : List ℕ = text_of s (boot.answer s) in
    cond (ltb longest (length s)) too_long found

-- a length that no text passes
abbrev pub most : ℕ
most = 348

-- a buffer of that length holds every text
abbrev pub TextMost : Type 0
TextMost = (s : List ℕ) → length (text s) ≤ most
