-- `boot_header::tests::check_header` meets its contract: the last test, where all others pass. Assumes nothing.
use Rattle.boot_header.proofs.Judging.{page_wrong, page_right}
use Rattle.boot_header.proofs.tests.check_header.Goals as goal

pub returns-then-wrong_page : goal.returns-then-wrong_page
returns-then-wrong_page c =
    page_wrong c.args.image.now _ _ _ _ _ c.if-image-lt44.false c.read64.ensures c.if-read64-ne-MAGIC.false c.version_in.ensures c.if-version_in-gt4.false c.row_in.ensures c.if-image-row_in.false c.missized.ensures c.if-missized.false c.wrong_page.ensures c.if-wrong_page.true

pub returns : goal.returns
returns c =
    page_right c.args.image.now _ _ _ _ _ c.if-image-lt44.false c.read64.ensures c.if-read64-ne-MAGIC.false c.version_in.ensures c.if-version_in-gt4.false c.row_in.ensures c.if-image-row_in.false c.missized.ensures c.if-missized.false c.wrong_page.ensures c.if-wrong_page.false
