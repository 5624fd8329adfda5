-- `sparse_stream_feed::heads::gather` meets its contract. Assumes nothing.
use mathlib.Core.Path.{◌∙◌}
use Prim.Native.Nat.{◌-◌}
use borrow.Author.Tests.{eq-eqb, ne_eqb}
use Rattle.sparse_stream_rules.specs.Steps.{gathered}
use Rattle.sparse_stream_feed.proofs.heads.gather.Goals as goal

pub returns-then-i-eq11 : goal.returns-then-i-eq11
unfolding gathered
returns-then-i-eq11 c =
    c.take_chunk.ensures ∙ rw
    (c.keep-y.ensures, eq-eqb (c.args.x.come.bytes - c.args.x.walk.next.at) 11 c.if-i-eq11.true)

pub returns : goal.returns
unfolding gathered
returns c =
    c.keep-y.ensures ∙ rw (ne_eqb (c.args.x.come.bytes - c.args.x.walk.next.at) 11 c.if-i-eq11.false)
