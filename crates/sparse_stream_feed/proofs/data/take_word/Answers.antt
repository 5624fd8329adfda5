-- `sparse_stream_feed::data::take_word` meets its contract. Assumes nothing.
use native.Mathlib.Omega.{arith}
use mathlib.Core.Path.{◌∙◌}
use Prim.Native.Nat.{◌-◌}
use borrow.Author.Tests.{eq-eqb, ne_eqb}
use Rattle.sparse_stream_rules.specs.Steps.{worded}
use Rattle.sparse_stream_feed.proofs.data.take_word.Goals as goal

pub advance-requires : goal.advance-requires
advance-requires c =
    rw c.keep_word-y.ensures (omega (arith, c.requires.2))

pub returns-then-x-eq1 : goal.returns-then-x-eq1
unfolding worded
returns-then-x-eq1 c =
    c.advance.ensures ∙ rw
    (c.sum_fill.ensures, c.keep_word-y.ensures, eq-eqb (c.args.x.walk.next.at - c.args.x.come.bytes) 1 c.if-x-eq1.true)

pub advance-requires-2 : goal.advance-requires-2
advance-requires-2 c =
    rw c.keep_word-y.ensures (omega (arith, c.requires.2))

pub returns : goal.returns
unfolding worded
returns c =
    c.advance-2.ensures ∙ rw (c.keep_word-y.ensures, ne_eqb (c.args.x.walk.next.at - c.args.x.come.bytes) 1 c.if-x-eq1.false)
