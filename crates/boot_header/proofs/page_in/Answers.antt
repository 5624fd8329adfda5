-- `boot_header::page_in` meets its contract. Assumes nothing.
use mathlib.Core.Path.{◌∙◌}
use Rattle.boot_header.proofs.Reading.{page_read}
use Rattle.boot_header.proofs.page_in.Goals as goal

pub returns : goal.returns
returns c = c.unwrap_or.ensures ∙ page_read _ _ c.row_in.ensures _ c.word.ensures
