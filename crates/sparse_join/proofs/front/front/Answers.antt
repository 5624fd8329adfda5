-- `sparse_join::front::front` meets its contract.
-- Assumes nothing.
use mathlib.Core.Path.{sym, ◌∙◌}
use Rattle.sparse_join_rules.proofs.Fronts.{some_ahead, joins_second, joins_first}
use Rattle.sparse_join.proofs.front.front.Goals as goal

pub first_alike-requires : goal.first_alike-requires
first_alike-requires c =
    let some = some_ahead c.requires.0 c.requires.1 c.min-n.ensures in
    (c.requires.0.second.reads.here, c.requires.0.second.reads.least, some.0, some.2)

pub returns-then-writes : goal.returns-then-writes
returns-then-writes c =
    joins_second c.requires.0 c.requires.1 c.min-n.ensures (sym c.writes.ensures ∙ c.if-writes.true) c.first_alike.ensures

pub first_alike-requires-2 : goal.first_alike-requires-2
first_alike-requires-2 c =
    let some = some_ahead c.requires.0 c.requires.1 c.min-n.ensures in
    (c.requires.0.first.reads.here, c.requires.0.first.reads.least, some.0, some.1)

pub returns : goal.returns
returns c =
    joins_first c.requires.0 c.requires.1 c.min-n.ensures (sym c.writes.ensures ∙ c.if-writes.false) c.first_alike-2.ensures
