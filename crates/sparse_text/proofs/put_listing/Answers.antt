-- `sparse_text::put_listing` meets its contract.
-- Assumes nothing.
use Rattle.std.proofs.Common.{rules}
use Rattle.text.proofs.Growing.{put_whole}
use Rattle.sparse_text.proofs.put_listing.Goals as goal

pub returns : goal.returns
returns c =
    let whole = put_whole c.at-lines.ensures c.put_input.ensures in
    search rules
