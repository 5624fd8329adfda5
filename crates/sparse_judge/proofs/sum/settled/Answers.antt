-- `sparse_judge::sum::settled` meets its contract.
-- Assumes nothing.
use Rattle.sparse_judge.proofs.sum.settled.Goals as goal

pub returns : goal.returns
returns c = c.update_zeros.ensures
