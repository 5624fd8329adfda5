-- `sparse_stream_bytes::put_walk` meets its contract: six fields, one after the other. Assumes nothing.
use mathlib.Core.Path.{◌≡◌}
use lib.ListN.{length}
use Rattle.sparse_stream_bytes.proofs.Laying.{walk_put}
use borrow.Author.Rules.{rules}
use Rattle.sparse_stream_bytes.proofs.put_walk.Goals as goal

pub returns : goal.returns
returns c =
    let long : length c.args.b ≡ 112 = search rules in (
      walk_put c.args.b c.args.walk.next.at c.args.walk.next.first c.args.walk.left c.args.walk.counts.written c.args.walk.counts.dont_care c.args.walk.counts.unknown long c.write64.ensures c.write32.ensures
          c.write32-2.ensures c.write32-3.ensures c.write32-4.ensures c.write32-5.ensures,
      search (rules, c.well_formed),
    )
