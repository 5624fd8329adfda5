-- `sparse_write::put::put_data` meets its contract: the data are put, and the state is that over them as they stand there.
-- Assumes nothing.
use Rattle.sparse_write_rules.proofs.Putting.{data_summed}
use Rattle.sparse_write.proofs.put.put_data.Goals as goal

pub returns : goal.returns
returns c =
    (data_summed c.args.src.now c.args.out.now c.args.from c.args.state c.requires c.copy.ensures c.update.ensures, c.copy.ensures)
