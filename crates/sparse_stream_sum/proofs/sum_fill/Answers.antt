-- `sparse_stream_sum::sum_fill` meets its contract. Assumes nothing.
use mathlib.Core.Path.{sym, ◌∙◌}
use Rattle.sparse_stream_rules.specs.State.{head_of}
use Rattle.sparse_stream_rules.proofs.Sums.{sum_on_stated, sum_on_none}
use Rattle.sparse_stream_sum.proofs.sum_fill.Goals as goal

pub returns-then-is_stated : goal.returns-then-is_stated
returns-then-is_stated c =
    c.update_word.ensures ∙ rw (c.read32.ensures, c.span_now.ensures)
    (sym (sum_on_stated (head_of c.args.x) c.args.x.come.sum c.is_stated.result c.is_stated.ensures c.if-is_stated.true _))

pub returns : goal.returns
returns c =
    sym (sum_on_none (head_of c.args.x) c.args.x.come.sum c.is_stated.result c.is_stated.ensures c.if-is_stated.false _)
