-- `boot_header::os_in` meets its contract. Assumes nothing.
use mathlib.Core.Path.{◌∙◌}
use Rattle.boot_header.proofs.Reading.{os_read}
use Rattle.boot_header.proofs.os_in.Goals as goal

pub returns : goal.returns
returns c = c.unwrap_or.ensures ∙ os_read _ _ c.row_in.ensures _ c.word.ensures
