-- `sparse_stream_tests::opening` meets its contract. Assumes nothing.
use mathlib.Core.Path.{◌∙◌}
use borrow.Author.Tests.{eq-eqb, ne_eqb}
use Rattle.sparse_stream_rules.specs.Steps.{opened}
use Rattle.sparse_stream_tests.proofs.opening.Goals as goal

pub returns-then-x-eq0 : goal.returns-then-x-eq0
unfolding opened
returns-then-x-eq0 c =
    c.refuse.ensures ∙ rw (eq-eqb c.args.x.come.bytes 0 c.if-x-eq0.true, c.header_number-number.ensures)

pub returns : goal.returns
unfolding opened
returns c =
    rw (ne_eqb c.args.x.come.bytes 0 c.if-x-eq0.false)
