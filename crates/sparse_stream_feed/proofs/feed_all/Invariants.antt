-- `sparse_stream_feed::feed_all` meets its contract. Assumes nothing.
use lib.ListN.{length}
use Rattle.sparse_stream_feed.proofs.Loop.{Going}
use Rattle.sparse_stream_feed.proofs.feed_all.Given as goal

abbrev pub invariant-loop-left : goal.invariant-loop-left
invariant-loop-left l = Going l.initial.y l.piece l.initial.partition l.partition l.y l.left

abbrev pub decreases-loop-left : goal.decreases-loop-left
decreases-loop-left l = length l.left
