-- `boot_header::row_in` meets its contract. Assumes nothing.
use mathlib.Core.Path.{ap, ◌∙◌}
use Rattle.boot_rules.specs.Table.{row_of}
use Rattle.boot_header.proofs.row_in.Goals as goal

pub returns : goal.returns
returns c = c.row_at.ensures ∙ ap row_of c.version_in.ensures
