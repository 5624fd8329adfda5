-- `sparse_stream_feed::feed` meets its contract. Assumes nothing.
use mathlib.Core.Path.{◌∙◌}
use Prim.Native.Nat.{◌+◌}
use native.Mathlib.Omega.{arith}
use lib.ListN.{length}
use borrow.Author.Tests.{le-leb, lt-leb}
use Rattle.sparse_stream_feed.proofs.feed.Goals as goal

pub returns-then-x : goal.returns-then-x
returns-then-x c =
    let o = lt-leb (c.args.x.come.bytes + length c.args.piece.now) c.args.x.told.length (omega (arith, c.if-x.true)) in
    record { answer = rw o; contents = rw o }

pub returns-then-x-piece : goal.returns-then-x-piece
returns-then-x-piece c =
    let o = lt-leb (c.args.x.come.bytes + length c.args.piece.now) c.args.x.told.length
    (omega (arith, c.if-x.false, c.if-x-piece.true)) in record { answer = rw o; contents = rw o }

pub returns : goal.returns
returns c =
    let o = le-leb (c.args.x.come.bytes + length c.args.piece.now) c.args.x.told.length (omega (arith, c.if-x.false, c.if-x-piece.false))
    in record { answer = c.feed_all.ensures.answer ∙ rw o; contents = c.feed_all.ensures.contents ∙ rw o }
