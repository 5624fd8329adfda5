-- `boot_header::offset_in` meets its contract. Assumes nothing.
use mathlib.Core.Path.{◌∙◌}
use Rattle.boot_header.proofs.Reading.{offset_read}
use Rattle.boot_header.proofs.offset_in.Goals as goal

pub returns : goal.returns
returns c = c.unwrap_or.ensures ∙ offset_read _ _ c.row_in.ensures _ c.double.ensures
