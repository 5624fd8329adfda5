-- A block's kind as the code carries it, and what blocks of a kind hold.
-- Assumes nothing.
use Rattle.std.specs.Prelude.{◌≡◌, Option, None, Some, List, ℕ, ◌/◌, length}
use Rattle.fields_rules.specs.Number.{bytes}
use Rattle.crc32_rules.specs.Power.{repeated}
use Rattle.sparse_write_rules.specs.declared.Stored.{Stored}
use Rattle.sparse_write_rules.specs.declared.Stored.TheVariants.{Raw, Fill}
use Rattle.sparse_write_rules.specs.Kinds.{BlockKind, kept, raw, fill}

-- the kind of blocks of which this is stored, kept where nothing is
abbrev pub kind_of : Option Stored → BlockKind
kind_of None = kept
kind_of (Some Raw) = raw
kind_of (Some (Fill w)) = fill w

-- the bytes of stored blocks of a kind: any for raw, the word repeated for fill
abbrev pub OfKind : BlockKind → List ℕ → Type 0
OfKind kept xs = ⊥
OfKind raw xs = Unit {0}
OfKind (fill w) xs = xs ≡ repeated (length xs / 4) (bytes 4 w)
