-- `sparse_stream_state::is_in_data` meets its contract. Assumes nothing.
use mathlib.Core.Path.{◌∙◌, sym}
use Rattle.sparse_stream_rules.specs.State.{in_data}
use Rattle.sparse_stream_state.proofs.is_in_data.Goals as goal

pub returns-then-is_stuck : goal.returns-then-is_stuck
unfolding in_data
returns-then-is_stuck c = rw (sym c.is_stuck.ensures ∙ c.if-is_stuck.true)

pub returns : goal.returns
unfolding in_data
returns c =
    rw (sym c.is_stuck.ensures ∙ c.if-is_stuck.false, c.gap_now.ensures, c.data_bytes.ensures, c.kind_now-kind.ensures)
