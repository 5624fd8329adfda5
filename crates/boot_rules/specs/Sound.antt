-- What holds of the sections of an accepted image.
-- Assumes nothing.
use Rattle.std.specs.Prelude.{◌≡◌, true, List, ℕ, ◌+◌, ◌%◌, ◌≤◌, ◌<◌, get_or, length, Option}
use Rattle.rules.specs.Answer.{accepted}
use Rattle.boot_rules.specs.declared.Layout.{Layout}
use Rattle.boot_rules.specs.declared.Section.{Section}
use Rattle.boot_rules.specs.Sections.{position_of, size_of, present, no_section, page_in, sections_of, offered_of, retired_of, sections_in}
use Rattle.boot_rules.specs.Table.{Within}
use Rattle.boot_rules.specs.Tests.{answer}

-- byte k of the input is one of a section's
abbrev pub Holds : Option Section → ℕ → Type 0
Holds x k = Within (position_of x) (size_of x) k

-- sections in an input of n bytes with this page: each that is not empty lies inside the input, each begins at a multiple of the page and not before the first page, they stand in order, and no byte belongs to two
pub record SoundSections (n page : ℕ) (xs : List (Option Section)) : Type 0 where
  pub inside : (i : ℕ) → 0 < size_of (get_or xs i no_section) → position_of (get_or xs i no_section) + size_of (get_or xs i no_section) ≤ n
  pub whole : (i : ℕ) → position_of (get_or xs i no_section) % page ≡ 0
  pub begins : (i : ℕ) → present (get_or xs i no_section) ≡ true → page ≤ position_of (get_or xs i no_section)
  pub order : (i j : ℕ) → i < j → present (get_or xs j no_section) ≡ true → position_of (get_or xs i no_section) + size_of (get_or xs i no_section) ≤ position_of (get_or xs j no_section)
  pub apart : (i j k : ℕ) → i < j → Holds (get_or xs i no_section) k → Holds (get_or xs j no_section) k → ⊥

-- a layout in an input of n bytes with this page whose sections take these rooms: all the rooms are sound, that of the retired section in its place among them; the sections of the layout are the rooms that are offered, and sound too; and no byte of one is in the room of a retired section
pub record SoundLayout (n page : ℕ) (rooms : List (Option Section)) (l : Layout) : Type 0 where
  pub all : SoundSections n page rooms
  pub chosen : sections_in l ≡ offered_of rooms
  pub offered : SoundSections n page (sections_in l)
  pub spared : (i j k : ℕ) → Holds (get_or (sections_in l) i no_section) k → Holds (get_or (retired_of rooms) j no_section) k → ⊥

-- the layout of every accepted image, in that image, with its page and its rooms
abbrev pub Sound : Type 0
Sound = (s : List ℕ) (l : Layout) → answer s ≡ accepted l → SoundLayout (length s) (page_in s) (sections_of s) l
