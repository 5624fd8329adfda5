-- `sparse_stream_bytes::kept_of` meets its contract. Assumes nothing.
use mathlib.Core.Path.{◌≡◌}
use lib.ListN.{length}
use Rattle.sparse_stream_bytes.proofs.Laying.{kept_read}
use borrow.Author.Rules.{rules}
use Rattle.sparse_stream_bytes.proofs.kept_of.Goals as goal

pub returns : goal.returns
returns c =
    let long : length c.args.b ≡ 112 = search rules in
    kept_read c.args.b long c.copy.ensures c.copy-2.ensures c.copy-3.ensures
