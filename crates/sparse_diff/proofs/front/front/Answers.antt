-- `sparse_diff::front` meets its contract.
-- Assumes nothing.
use mathlib.Core.Path.{sym}
use Rattle.sparse_diff_rules.proofs.Changes.{front_neither, front_first, front_second}
use Rattle.sparse_diff.proofs.front.front.Goals as goal

pub returns-in-true-false : goal.returns-in-true-false
returns-in-true-false c =
    front_first c.requires.0 c.requires.1 c.min-blocks.ensures (sym c.in-true-false.ensures) (sym c.in-true-false.ensures')

pub returns-in-false-true : goal.returns-in-false-true
returns-in-false-true c =
    front_second c.requires.0 c.requires.1 c.min-blocks.ensures (sym c.in-false-true.ensures) (sym c.in-false-true.ensures')

pub returns-in-false-false : goal.returns-in-false-false
returns-in-false-false c =
    front_neither c.requires.0 c.requires.1 c.min-blocks.ensures (sym c.in-false-false.ensures) (sym c.in-false-false.ensures')
