-- `sparse_text::put_input` meets its contract.
-- Assumes nothing.
use Rattle.text_rules.specs.Input.{too_long}
use Rattle.sparse_list_rules.proofs.Listings.{listing_long, listing_refused, listing_accepted}
use Rattle.sparse_text.proofs.put_input.Goals as goal

pub returns-then-input-gt-LONGEST : goal.returns-then-input-gt-LONGEST
unfolding too_long
returns-then-input-gt-LONGEST c = rw (listing_long _ c.if-input-gt-LONGEST.true) c.put.ensures

pub returns-in-Ok : goal.returns-in-Ok
returns-in-Ok c =
    let t = listing_accepted _ c.if-input-gt-LONGEST.false c.in-Ok.counts c.in-Ok.ensures in
    rw t.2 (c.put_image.ensures t.0 t.1)

pub returns-in-Err : goal.returns-in-Err
returns-in-Err c =
    rw (listing_refused _ c.if-input-gt-LONGEST.false c.in-Err.refusal.number c.in-Err.refusal.place c.in-Err.ensures)
    c.put_refused.ensures
