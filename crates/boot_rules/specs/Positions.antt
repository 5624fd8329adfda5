-- Where the sections of any input begin, refused or not: every position fits in 64 bits, so no test asks whether one does.
-- Assumes nothing.
use Rattle.std.specs.Prelude.{List, ℕ, ◌^◌, ◌<◌, get_or, Option}
use Rattle.boot_rules.specs.declared.Section.{Section}
use Rattle.boot_rules.specs.Sections.{position_of, no_section, starts_of, sections_of}
use Rattle.fields_rules.specs.Number.{Bytes}

-- what no position reaches
abbrev pub position_bound : ℕ
position_bound = 2 ^ 36

-- where sections begin, or would where the version lacks one, and the positions of all that it has: below the bound; and so every position fits in 64 bits
pub record NearPositions (ps : List ℕ) (xs : List (Option Section)) : Type 0 where
  pub starts : (i : ℕ) → get_or ps i 0 < position_bound
  pub positions : (i : ℕ) → position_of (get_or xs i no_section) < position_bound
  pub fits : (i : ℕ) → position_of (get_or xs i no_section) < 2 ^ 64

-- the sections of every input, whatever its version and whatever its fields hold, a page size that breaks its rule included
abbrev pub Near : Type 0
Near = (s : List ℕ) → Bytes s → NearPositions (starts_of s) (sections_of s)
