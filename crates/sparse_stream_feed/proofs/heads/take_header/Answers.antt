-- `sparse_stream_feed::heads::take_header` meets its contract. Assumes nothing.
use mathlib.Core.Path.{◌∙◌, sym}
use Prim.Native.Nat.{◌+◌}
use lib.Dec.{eqb}
use borrow.Author.Tests.{eq-eqb, ne_eqb}
use Rattle.sparse_stream_rules.specs.Steps.{headed, head_kept, ready_if}
use Rattle.sparse_stream_rules.proofs.StateLaws.{stop_none, stop_same}
use Rattle.sparse_stream_feed.proofs.heads.take_header.Goals as goal

pub returns-then-at-eq28 : goal.returns-then-at-eq28
unfolding headed
returns-then-at-eq28 c =
    c.settle.ensures
    ∙ rw (c.await_chunks.ensures, c.keep-y.ensures)
    (sym (stop_none _ 0 _ _ (sym c.header_number-number.ensures ∙ c.if-number-eq0.true) ∙ rw (eq-eqb (c.args.x.come.bytes + 1) 28 c.if-at-eq28.true)))

pub returns-then-number-eq0 : goal.returns-then-number-eq0
unfolding headed
returns-then-number-eq0 c =
    c.keep-y.ensures ∙ sym
    (stop_none _ 0 _ _ (sym c.header_number-number.ensures ∙ c.if-number-eq0.true) ∙ rw (ne_eqb (c.args.x.come.bytes + 1) 28 c.if-at-eq28.false))

pub returns : goal.returns
unfolding headed
returns c =
    c.refuse.ensures
    ∙ rw c.keep-y.ensures
    (stop_same c.header_number-number.result 0 (head_kept c.args.x c.args.b) (head_kept c.args.x c.args.b)
    (ready_if (eqb (c.args.x.come.bytes + 1) 28) (head_kept c.args.x c.args.b)) c.if-number-eq0.false
    ∙ rw c.header_number-number.ensures)
