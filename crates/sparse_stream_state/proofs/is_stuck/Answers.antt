-- `sparse_stream_state::is_stuck` meets its contract. Assumes nothing.
use Rattle.sparse_stream_rules.specs.State.{stuck}
use Rattle.sparse_stream_state.proofs.is_stuck.Goals as goal

pub returns : goal.returns
unfolding stuck
returns c =
    rw c.saturating_sub.ensures
