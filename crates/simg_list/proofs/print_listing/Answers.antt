-- `simg_list::print_listing` meets its contract: what is read has the input's text, which the buffer holds whole.
-- Assumes nothing.
use Rattle.std.proofs.Common.{◌≡◌, ◌≤◌, length, take, sym, ap, ◌∙◌, arith, IfSome}
use Rattle.std.proofs.Math.Seq.{length-take-le}
use Rattle.sparse_list_rules.specs.Listing.{listing}
use Rattle.sparse_list_rules.proofs.Listings.{listing_long}
use Rattle.sparse_list_rules.proofs.Room.{whole_fits}
use Rattle.printed_rules.proofs.Printed.{read_known, printed}
use Rattle.simg_list.proofs.Printed.{front, start_of, never_short}
use Rattle.simg_list.proofs.print_listing.Goals as goal

pub returns-in_default : goal.returns-in_default
returns-in_default g c =
    absurd (never_short _ _ c.in_default.field-0 (omega (arith, c.deref_mut.ensures.len, c.in_ok-text.ensures.len)) c.in_default.ensures.0)

pub slice_bounds-write_all-end : goal.slice_bounds-write_all-end
slice_bounds-write_all-end g c =
    let fits = whole_fits _ _ _ c.in-Ok.ensures.0 in
    let inside : c.in-Ok.len ≤ length c.deref-2.result.now = omega (arith, fits) in
    sym (length-take-le _ _ inside)

pub returns : goal.returns
returns g c =
    let bytes = rw c.take.ensures.inner at c.in_ok-read_to_end.ensures.bytes in
    let known : IfSome (g.R.Read.remaining c.args.input) (λ s. listing c.read_to_end.new.buf.items ≡ listing s) =
    read_known listing 65536 _ listing_long (g.R.Read.remaining c.args.input) _ _ _ c.take.ensures.limit c.new-bytes.ensures.items bytes in
    let whole = start_of c.deref.result.now c.deref_mut.result.now c.list.new.out c.in-Ok.len c.in-Ok.ensures.0 c.in-Ok.ensures.1 in
    let same : c.deref-2.result.now ≡ c.list.new.out = c.deref-2.ensures.value ∙ front _ _ _ (omega (arith, c.list.auto.out, c.deref_mut.ensures.len)) in
    let text : take c.in-Ok.len c.deref-2.result.now ≡ listing c.read_to_end.new.buf.items = rw same (whole ∙ ap listing c.deref.ensures.value) in
    printed listing c.write_all.result _ _ _ _ (rw text known) c.write_all.ensures.bytes
