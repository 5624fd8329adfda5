-- `sparse_stream_feed::heads::take_chunk` meets its contract. Assumes nothing.
use mathlib.Core.Path.{◌∙◌, sym, ap}
use Rattle.sparse_rules.specs.declared.Header.{Header}
use Rattle.sparse_stream_rules.specs.Steps.{chunk_taken, chunk_read, settled}
use Rattle.sparse_stream_rules.proofs.StateLaws.{stop_none, stop_same}
use Rattle.sparse_stream_feed.proofs.heads.take_chunk.Goals as goal

pub pass_chunk-requires : goal.pass_chunk-requires
pass_chunk-requires c =
    (sym c.chunk_number-number.ensures ∙ c.if-number-eq0.true, ap (λ (h : Header). h.total) c.header_of.ensures)

pub returns-then-number-eq0 : goal.returns-then-number-eq0
unfolding chunk_taken
returns-then-number-eq0 c =
    c.settle.ensures ∙ rw c.pass_chunk.ensures (sym (stop_none _ _ _ _ (sym c.chunk_number-number.ensures ∙ c.if-number-eq0.true)))

pub returns : goal.returns
unfolding chunk_taken
returns c =
    c.refuse.ensures ∙ stop_same c.chunk_number-number.result c.args.x.walk.next.at c.args.x c.args.x
    (settled (chunk_read c.args.x)) c.if-number-eq0.false ∙ rw c.chunk_number-number.ensures
