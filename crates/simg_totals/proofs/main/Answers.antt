-- `simg_totals::main` meets its contract: every text lies inside the buffer. Assumes nothing.
use Rattle.std.proofs.Common.{sym, arith}
use Rattle.std.proofs.Math.Seq.{length-take-le}
use Rattle.report_rules.proofs.Texts.{text_fits}
use Rattle.simg_totals.proofs.main.Goals as goal

pub slice_bounds-text-end : goal.slice_bounds-text-end
slice_bounds-text-end c = omega (arith, text_fits _ c.put_text-len.ensures)

pub slice_bounds-write_all-end : goal.slice_bounds-write_all-end
slice_bounds-write_all-end c = sym (length-take-le _ _ (omega (arith, text_fits _ c.put_text-len.ensures)))
