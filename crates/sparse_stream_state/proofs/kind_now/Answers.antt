-- `sparse_stream_state::kind_now` meets its contract. Assumes nothing.
use mathlib.Core.Path.{◌∙◌}
use Rattle.sparse_stream_state.proofs.kind_now.Goals as goal

pub returns : goal.returns
returns c =
    c.kind_of.ensures ∙ rw c.read16.ensures
