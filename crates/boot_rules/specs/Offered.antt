-- Which sections each version has, which of them are offered, and what is said of a retired one.
-- Assumes nothing.
use Rattle.std.specs.Prelude.{◌≡◌, true, false, cond, List, [], ◌∷◌, map, ℕ, ◌≤◌, ◌<◌}
use Rattle.rules.specs.Answer.{accepted}
use Rattle.boot_rules.specs.declared.Layout.{Layout}
use Rattle.boot_rules.specs.declared.Row.{Row}
use Rattle.boot_rules.specs.Sections.{row_in}
use Rattle.boot_rules.specs.Table.{SectionKind, has, number, row_of, section_kinds}
use Rattle.boot_rules.specs.Tests.{answer}

-- what a version makes of a kind of section: it lacks the section, has it offered, or has it retired
pub data Standing : Type 0 where
  lacked : Standing
  offered : Standing
  retired : Standing

-- the standing of a kind of section, by the row of the version
abbrev pub standing : Row → SectionKind → Standing
standing r k = cond (has (k.size r)) (cond k.offered offered retired) lacked

-- which sections a version has and which of them are offered, in the order of the sections
abbrev pub standings : ℕ → List Standing
standings v = map (standing (row_of v)) section_kinds

-- "Sections after the header page" of versions 0 to 4: kernel, ramdisk, second, recovery, dtb, signature, of which the second is retired
abbrev pub StandingsOfAll : Type 0
StandingsOfAll =
    map standings (0 ∷ 1 ∷ 2 ∷ 3 ∷ 4 ∷ [])
    ≡ (offered ∷ offered ∷ retired ∷ lacked ∷ lacked ∷ lacked ∷ [])
    ∷ (offered ∷ offered ∷ retired ∷ offered ∷ lacked ∷ lacked ∷ [])
    ∷ (offered ∷ offered ∷ retired ∷ offered ∷ offered ∷ lacked ∷ [])
    ∷ (offered ∷ offered ∷ lacked ∷ lacked ∷ lacked ∷ lacked ∷ [])
    ∷ (offered ∷ offered ∷ lacked ∷ lacked ∷ lacked ∷ offered ∷ [])
    ∷ []

-- the size that an image states of its second section; 0 where the version lacks it
abbrev pub second_size : List ℕ → ℕ
second_size s = number s (row_in s).second

-- what the layout of an image says of its second section: "exactly when its size is not 0, that a retired section is present", and nothing in versions that lack it, 3 and 4
pub record Told (s : List ℕ) (l : Layout) : Type 0 where
  pub present : 0 < second_size s → l.retired ≡ true
  pub empty : second_size s ≡ 0 → l.retired ≡ false
  pub never : 3 ≤ l.version → l.retired ≡ false

-- the layout of every accepted image
abbrev pub RetiredTold : Type 0
RetiredTold = (s : List ℕ) (l : Layout) → answer s ≡ accepted l → Told s l
