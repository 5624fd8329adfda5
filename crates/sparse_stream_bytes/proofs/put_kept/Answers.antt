-- `sparse_stream_bytes::put_kept` meets its contract: three parts, one after the other. Assumes nothing.
use mathlib.Core.Path.{◌≡◌}
use lib.ListN.{length}
use Rattle.sparse_stream_bytes.proofs.Laying.{kept_put}
use borrow.Author.Rules.{rules}
use Rattle.sparse_stream_bytes.proofs.put_kept.Goals as goal

pub returns : goal.returns
returns c =
    let lb : length c.args.b ≡ 112 = search (rules, c.well_formed) in
    let lf : length c.args.kept.file ≡ 28 = search (rules, c.well_formed) in
    let lc : length c.args.kept.chunk ≡ 12 = search (rules, c.well_formed) in
    let lw : length c.args.kept.word ≡ 4 = search (rules, c.well_formed) in
    (kept_put c.args.b c.args.kept.file c.args.kept.chunk c.args.kept.word lb lf lc lw c.copy.ensures c.copy-2.ensures c.copy-3.ensures, lf, lc, lw)
