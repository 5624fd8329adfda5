-- `sparse_match::same_geometry` meets its contract.
-- Assumes nothing.
use Rattle.sparse_blocks_rules.proofs.Pairing.{geometry_of}
use Rattle.sparse_match.proofs.same_geometry.Goals as goal

pub returns : goal.returns
returns c =
    geometry_of c.args.first.now c.args.second.now c.read_header-a.ensures c.read_header-b.ensures
