-- `sparse_stream::store_piece` meets its contract. Assumes nothing.
use mathlib.Core.Path.{◌∙◌}
use Prim.Native.Nat.{◌+◌}
use lib.ListN.{length}
use borrow.Author.Tests.{le-leb}
use Rattle.sparse_stream_rules.specs.States.{lent_tests}
use Rattle.sparse_stream_rules.proofs.Calls.{called_again, called_refused, called_on, leaves_again, leaves_refused, leaves_on}
use Rattle.sparse_stream_rules.proofs.Calls.{lent_over, lent_fits, lent_other, over_room}
use Rattle.sparse_stream.proofs.store_piece.Goals as goal

pub returns-then-x-gt0 : goal.returns-then-x-gt0
returns-then-x-gt0 c =
    let tests = lent_tests c.args.x (length c.args.partition.now) (length c.args.piece.now) in
    record { answer = called_again tests c.args.x _ c.if-x-gt0.true; contents = leaves_again tests c.args.x c.args.partition.now _ c.if-x-gt0.true }

pub returns-then-partition-x : goal.returns-then-partition-x
returns-then-partition-x c =
    let n = length c.args.piece.now in
    let tests = lent_tests c.args.x (length c.args.partition.now) n in
    let other = lent_other c.args.x (length c.args.partition.now) n c.if-partition-x.true in
    record { answer = called_refused tests c.args.x c.if-x-gt0.false _ _ 15 other c.refuse.ensures; contents = leaves_refused tests c.args.x c.if-x-gt0.false c.args.partition.now _ 15 other }

pub returns-then-is_over : goal.returns-then-is_over
returns-then-is_over c =
    let n = length c.args.piece.now in
    let tests = lent_tests c.args.x (length c.args.partition.now) n in
    let over = lent_over c.args.x n c.is_over.result c.is_over.ensures (length c.args.partition.now) c.if-partition-x.false c.if-is_over.true in
    record { answer = called_refused tests c.args.x c.if-x-gt0.false _ _ 13 over c.refuse-then-is_over.ensures; contents = leaves_refused tests c.args.x c.if-x-gt0.false c.args.partition.now _ 13 over }

pub returns : goal.returns
returns c =
    let n = length c.args.piece.now in
    let tests = lent_tests c.args.x (length c.args.partition.now) n in
    let room = over_room c.args.x n c.is_over.result c.is_over.ensures c.if-is_over.false c.opening.result c.opening.ensures in
    let taken = le-leb (c.opening.result.come.bytes + n) c.opening.result.told.length room in
    let fits = lent_fits c.args.x n c.is_over.result c.is_over.ensures (length c.args.partition.now) c.if-partition-x.false c.if-is_over.false in
    record {
      answer = called_on tests c.args.x c.if-x-gt0.false _ _ fits (c.feed.ensures.answer ∙ rw taken (rw c.opening.ensures));
      contents = leaves_on tests c.args.x c.if-x-gt0.false c.args.partition.now _ _ fits (c.feed.ensures.contents ∙ rw taken (rw c.opening.ensures));
    }
