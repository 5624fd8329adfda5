-- `sparse_stream_tests::arrive` meets its contract. Assumes nothing.
use mathlib.Core.Path.{◌∙◌}
use borrow.Author.Tests.{eq-eqb, ne_eqb}
use Rattle.sparse_stream_rules.specs.Steps.{arrived}
use Rattle.sparse_stream_tests.proofs.arrive.Goals as goal

pub returns-then-number-eq11 : goal.returns-then-number-eq11
unfolding arrived
returns-then-number-eq11 c =
    c.refuse.ensures ∙ rw (← c.arrival_number-number.ensures, eq-eqb c.arrival_number-number.result 11 c.if-number-eq11.true)

pub returns : goal.returns
unfolding arrived
returns c =
    c.refuse-2.ensures ∙ rw (← c.arrival_number-number.ensures, ne_eqb c.arrival_number-number.result 11 c.if-number-eq11.false)
