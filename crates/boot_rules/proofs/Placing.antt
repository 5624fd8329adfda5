-- Laws of where sections begin: the first at one page, each next one after the last, and each section at its own start.
-- Assumes nothing.
use mathlib.Core.Path.{◌≡◌, refl}
use mathlib.Core.List.{List, [], ◌∷◌}
use Prim.Native.Nat.{ℕ, zero, suc, ◌+◌, ◌<◌}
use native.Mathlib.Nat.{le_of_suc-le-suc, not-suc-le-zero}
use lib.ListN.{get_or, length}
use Rattle.std.specs.Prelude.{Option}
use Rattle.boot_rules.specs.declared.Field.{Field}
use Rattle.boot_rules.specs.declared.Section.{Section}
use Rattle.boot_rules.specs.Pages.{round_up}
use Rattle.boot_rules.specs.Sections.{row_in, page_in, no_section, section_at, starts, starts_of, place, sections_of}
use Rattle.boot_rules.specs.Table.{has, number, lacking, size_fields}

-- the sections of these size fields, the first of them at a position
abbrev pub laid : List ℕ → ℕ → ℕ → List Field → List (Option Section)
laid s x p fs = place s (starts s x p fs) fs

module _ (s : List ℕ) (x : ℕ) where
  after_last : (fs : List Field) (p i : ℕ) → suc i < length fs → round_up (get_or (starts s x p fs) i 0 + number s (get_or fs i lacking)) x ≡ get_or (starts s x p fs) (suc i) 0
  after_last [] p i l = absurd (not-suc-le-zero l)
  after_last (f ∷ []) p i l = absurd (not-suc-le-zero (le_of_suc-le-suc l))
  after_last (f ∷ g ∷ fs) p zero l = refl
  after_last (f ∷ g ∷ fs) p (suc i) l = after_last (g ∷ fs) (round_up (p + number s f) x) i (le_of_suc-le-suc l)

  at_start : (fs : List Field) (p i : ℕ) → i < length fs → section_at (has (get_or fs i lacking)) (get_or (starts s x p fs) i 0) (number s (get_or fs i lacking)) ≡ get_or (laid s x p fs) i no_section
  at_start [] p i l = absurd (not-suc-le-zero l)
  at_start (f ∷ fs) p zero l = refl
  at_start (f ∷ fs) p (suc i) l = at_start fs (round_up (p + number s f) x) i (le_of_suc-le-suc l)

-- the sections of an image
module _ (s : List ℕ) where
  pub start_first : page_in s ≡ get_or (starts_of s) 0 0
  unfolding starts_of
  start_first = refl

  pub start_next : (i : ℕ) → suc i < 6 → round_up (get_or (starts_of s) i 0 + number s (get_or (size_fields (row_in s)) i lacking)) (page_in s) ≡ get_or (starts_of s) (suc i) 0
  unfolding starts_of
  start_next i l = after_last s (page_in s) (size_fields (row_in s)) (page_in s) i l

  pub section-at : (i : ℕ) → i < 6 → section_at (has (get_or (size_fields (row_in s)) i lacking)) (get_or (starts_of s) i 0) (number s (get_or (size_fields (row_in s)) i lacking)) ≡ get_or (sections_of s) i no_section
  unfolding starts_of sections_of
  section-at i l = at_start s (page_in s) (size_fields (row_in s)) (page_in s) i l

  -- there are six
  pub sections_six : get_or (sections_of s) 0 no_section ∷ get_or (sections_of s) 1 no_section ∷ get_or (sections_of s) 2 no_section ∷ get_or (sections_of s) 3 no_section ∷ get_or (sections_of s) 4 no_section ∷ get_or (sections_of s) 5 no_section ∷ [] ≡ sections_of s
  unfolding starts_of sections_of
  sections_six = refl
