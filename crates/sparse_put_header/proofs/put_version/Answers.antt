-- `sparse_put_header::put_version` meets its contract: five fields, one after the other.
-- Assumes nothing.
use Rattle.sparse_write_rules.proofs.Putting.{version_put}
use Rattle.sparse_put_header.proofs.put_version.Goals as goal

pub returns : goal.returns
returns c =
    version_put c.args.out.now c.requires
    c.write32.ensures c.write16.ensures c.write16-2.ensures c.write16-3.ensures c.write16-4.ensures
