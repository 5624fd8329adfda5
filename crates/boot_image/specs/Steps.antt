-- What a step over a section asks for. Assumes nothing.
use Rattle.std.specs.Prelude.{◌≡◌, true, ℕ, ◌<◌}
use Rattle.boot_rules.specs.declared.Field.{Field}
use Rattle.boot_rules.specs.Pages.{is_page}
use Rattle.boot_rules.specs.Positions.{position_bound}
use Rattle.boot_rules.specs.Table.{is_word}

-- a page that is right, a size field of four bytes where the version has it, and a start below the bound
abbrev pub Ready : ℕ → Field → ℕ → Type 0
Ready page f start = (is_page page ≡ true) × (is_word f ≡ true) × (start < position_bound)
