-- `bootimg_releases::print_text` meets its contract: what is read has the input's text, and every text lies inside the buffer.
-- Assumes nothing.
use Rattle.std.proofs.Common.{◌≡◌, take, sym, ap, ◌∙◌, arith, IfSome}
use Rattle.std.proofs.Math.Seq.{length-take-le}
use Rattle.boot_launch_rules.specs.Text.{text}
use Rattle.boot_launch_rules.proofs.Texts.{text_fits, text_long}
use Rattle.printed_rules.proofs.Printed.{read_known, printed}
use Rattle.bootimg_releases.proofs.Printed.{start_of}
use Rattle.bootimg_releases.proofs.print_text.Goals as goal

pub slice_bounds-write_all-end : goal.slice_bounds-write_all-end
slice_bounds-write_all-end g c = sym (length-take-le _ _ (omega (arith, text_fits _ c.put_text-len.ensures)))

pub slice_bounds-lines-end : goal.slice_bounds-lines-end
slice_bounds-lines-end g c = omega (arith, text_fits _ c.put_text-len.ensures)

pub returns : goal.returns
returns g c =
    let bytes = rw c.take.ensures.inner at c.in_ok-read_to_end.ensures.bytes in
    let known : IfSome (g.R.Read.remaining c.args.input) (λ s. text c.read_to_end.new.buf.items ≡ text s) =
    read_known text 65536 _ text_long (g.R.Read.remaining c.args.input) _ _ _ c.take.ensures.limit c.new-bytes.ensures.items bytes in
    let whole = start_of c.deref.result.now _ _ c.put_text-len.result (omega arith) c.put_text-len.ensures in
    let here : take c.put_text-len.result c.put_text-len.new.out ≡ text c.read_to_end.new.buf.items = whole ∙ ap text c.deref.ensures.value in
    printed text c.write_all.result _ _ _ _ (rw here known) c.write_all.ensures.bytes
