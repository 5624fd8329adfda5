-- `tarpaulark_images::header` meets its contract. Assumes nothing.
use Rattle.tarpaulark_images.proofs.Headers.{header_refused, header_passed}
use Rattle.tarpaulark_images.proofs.header.Goals as goal

pub returns-in-Ok : goal.returns-in-Ok
returns-in-Ok c = header_passed _ _ _ _ c.in-Ok.ensures c.header_answer.ensures

pub returns-in-Err : goal.returns-in-Err
returns-in-Err c = header_refused _ _ _ _ c.in-Err.ensures
