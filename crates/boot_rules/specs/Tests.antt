-- The tests of a boot image in their order, and the answer.
-- Assumes nothing.
use Rattle.std.specs.Prelude.{Bool, ◌&&◌, not, List, [], ◌∷◌, ℕ, ◌+◌, ◌≤◌, ltb, eqb, get_or, length, Option, Result, Ok, Err}
use Rattle.boot_rules.specs.declared.Layout.{Layout}
use Rattle.boot_rules.specs.declared.Refusal.{Refusal}
use Rattle.boot_rules.specs.declared.Refusal.TheVariants.{TooShort, Magic, Version, HeaderSize, PageSize, SectionEnd, RecoveryOffset}
use Rattle.boot_rules.specs.declared.Section.{Section}
use Rattle.boot_rules.specs.declared.Row.{Row}
use Rattle.boot_rules.specs.Pages.{is_page}
use Rattle.boot_rules.specs.Sections.{version_in, row_in, page_in, offset_in, position_of, size_of, no_section, sections_of, filled, any_of, layout_of}
use Rattle.boot_rules.specs.Table.{has, number, header_size}
use Rattle.fields_rules.specs.Number.{number_at}
use Rattle.rules.specs.Answer.{Answer, accepted, refused, unless, number_of, HasNumber}
use Rattle.rules.specs.First.{first}

-- "Magic is `ANDROID!`"
abbrev pub magic : List ℕ
magic = 0x41 ∷ 0x4E ∷ 0x44 ∷ 0x52 ∷ 0x4F ∷ 0x49 ∷ 0x44 ∷ 0x21 ∷ []

-- "recovery size not 0 and its offset not the computed position"
abbrev pub misplaced : ℕ → Option Section → Bool
misplaced offset x = filled x && not (eqb offset (position_of x))

-- "a section that is not empty ends past the input"
abbrev pub overruns : ℕ → Option Section → Bool
overruns n x = filled x && ltb n (position_of x + size_of x)

-- "header size field (versions 1 to 4) not the header length"
abbrev pub missized : List ℕ → Row → Bool
missized s r = has (header_size r) && not (eqb (number s (header_size r)) r.header)

-- the tests of the header, with the numbers of their refusals, in their order
unfoldable pub head_tests : List ℕ → List (Bool × ℕ)
head_tests s =
    (ltb (length s) 44, 21)
    ∷ (not (eqb (number_at s 0 8) (number_at magic 0 8)), 22)
    ∷ (ltb 4 (version_in s), 23)
    ∷ (ltb (length s) (row_in s).header, 21)
    ∷ (missized s (row_in s), 24)
    ∷ (not (is_page (page_in s)), 25)
    ∷ []

-- the tests of the sections, with the numbers of their refusals, in their order
unfoldable pub section_tests : List ℕ → List (Bool × ℕ)
section_tests s =
    (misplaced (offset_in s) (get_or (sections_of s) 3 no_section), 27)
    ∷ (any_of (overruns (length s)) (sections_of s), 26)
    ∷ []

-- the answer for an image: the first refusal of the header, then of the sections, or else the layout
unfoldable pub answer : List ℕ → Answer Layout
answer s = unless (first (head_tests s)) 0 (unless (first (section_tests s)) 0 (accepted (layout_of (version_in s) (sections_of s))))

-- the number of each refusal
abbrev pub refusal_number : Refusal → ℕ
refusal_number TooShort = 21
refusal_number Magic = 22
refusal_number Version = 23
refusal_number HeaderSize = 24
refusal_number PageSize = 25
refusal_number SectionEnd = 26
refusal_number RecoveryOffset = 27

-- the number of the refusal that a test finds, 0 where it finds none
abbrev pub found_number : {T : Type 0} → Result T Refusal → ℕ
found_number (Ok x) = 0
found_number (Err r) = refusal_number r

-- "All other refusals carry 0": each case of the code's answer, with its number and place or its layout
abbrev pub answer_of : Result Layout Refusal → Answer Layout
answer_of (Ok l) = accepted l
answer_of (Err r) = refused (refusal_number r) 0

-- no refusal of a boot image has the number 0
abbrev pub RefusalNumbers : Type 0
RefusalNumbers = (s : List ℕ) → HasNumber (answer s)

-- "28 is never used again": no refusal of a boot image has a number above 27
abbrev pub NumbersTo27 : Type 0
NumbersTo27 = (s : List ℕ) → number_of (answer s) ≤ 27
