-- `boot_header::tests::missized` meets its contract. Assumes nothing.
use borrow.Author.Rules.{rules}
use Rattle.boot_header.proofs.Reading.{size_tested}
use Rattle.boot_header.proofs.tests.missized.Goals as goal

pub returns : goal.returns
returns c = size_tested _ _ c.row_in-row.ensures _ c.word.ensures _ (search rules)
