-- `boot_table::row_at` meets its contract: the constant is the table, and past it no version has a row. Assumes nothing.
use mathlib.Core.Path.{refl, sym}
use lib.ListN.{get_or-eq_default}
use Rattle.boot_rules.specs.Table.{table, no_row, row_of}
use Rattle.boot_table.proofs.row_at.Goals as goal

pub returns-then-version-lt5 : goal.returns-then-version-lt5
unfolding row_of
returns-then-version-lt5 c = refl

pub returns-else-version-lt5 : goal.returns-else-version-lt5
unfolding row_of
returns-else-version-lt5 c = sym (get_or-eq_default table no_row c.if-version-lt5.false)
