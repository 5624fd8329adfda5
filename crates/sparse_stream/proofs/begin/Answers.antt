-- `sparse_stream::begin` meets its contract. Assumes nothing.
use mathlib.Core.Path.{refl}
use Rattle.sparse_stream_rules.specs.States.{begun}
use Rattle.sparse_stream.proofs.begin.Goals as goal

pub returns : goal.returns
unfolding begun
returns c = refl
