-- `simg_totals::take` meets its contract: every name lies inside its buffer, and is text. Assumes nothing.
use Rattle.std.proofs.Common.{sym, arith}
use Rattle.std.proofs.Math.Seq.{length-take-le}
use Rattle.report_rules.proofs.Folders.{name_fits}
use Rattle.simg_totals.proofs.take.Goals as goal
use Rattle.simg_totals.proofs.Names.{name_text, text_read}

pub slice_bounds-name-end : goal.slice_bounds-name-end
slice_bounds-name-end g c = omega (arith, name_fits _ c.put_name-len.ensures)

pub slice_bounds-from_utf8-end : goal.slice_bounds-from_utf8-end
slice_bounds-from_utf8-end g c = sym (length-take-le _ _ (omega (arith, name_fits _ c.put_name-len.ensures)))

pub unwrap-path-requires : goal.unwrap-path-requires
unwrap-path-requires g c = text_read _ _ _ (name_text _ (omega arith) c.put_name-len.ensures) c.from_utf8.ensures.cases
