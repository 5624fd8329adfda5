-- `sparse_stream::judge_piece` meets its contract. Assumes nothing.
use mathlib.Core.Path.{◌∙◌}
use Prim.Native.Nat.{◌+◌}
use lib.ListN.{length}
use borrow.Author.Tests.{le-leb}
use Rattle.sparse_stream_rules.specs.States.{piece_tests}
use Rattle.sparse_stream_rules.proofs.Calls.{called_again, called_refused, called_on, piece_over, piece_fits, over_room}
use Rattle.sparse_stream.proofs.judge_piece.Goals as goal

pub returns-then-x-gt0 : goal.returns-then-x-gt0
returns-then-x-gt0 c =
    called_again (piece_tests c.args.x (length c.args.piece.now)) c.args.x _ c.if-x-gt0.true

pub returns-then-is_over : goal.returns-then-is_over
returns-then-is_over c =
    called_refused (piece_tests c.args.x (length c.args.piece.now)) c.args.x c.if-x-gt0.false _ _ 13
    (piece_over c.args.x (length c.args.piece.now) c.is_over.result c.is_over.ensures c.if-is_over.true)
    c.refuse.ensures

pub returns : goal.returns
returns c =
    let n = length c.args.piece.now in
    let room = over_room c.args.x n c.is_over.result c.is_over.ensures c.if-is_over.false c.opening.result c.opening.ensures in
    let taken = le-leb (c.opening.result.come.bytes + n) c.opening.result.told.length room in
    let fits = piece_fits c.args.x n c.is_over.result c.is_over.ensures c.if-is_over.false in
    called_on (piece_tests c.args.x n) c.args.x c.if-x-gt0.false _ _ fits (c.feed.ensures.answer ∙ rw taken (rw c.opening.ensures))
