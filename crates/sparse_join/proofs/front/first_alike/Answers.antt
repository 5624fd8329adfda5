-- `sparse_join::front::first_alike` meets its contract, kind by kind.
-- Assumes nothing.
use mathlib.Core.Path.{refl}
use Prim.Native.Nat.{◌≤◌}
use native.Mathlib.Omega.{arith}
use borrow.Author.Rules.{rules}
use Rattle.sparse_rules.proofs.SumLaws.{product}
use Rattle.sparse_join_rules.specs.Ahead.{FirstAlike}
use Rattle.sparse_join_rules.proofs.Fronts.{first_fill}
use Rattle.sparse_join.proofs.Scanned.{data_inside, scanned}
use Rattle.sparse_join.proofs.front.first_alike.Goals as goal
use Rattle.sparse_join.proofs.front.first_alike.Goals.{After-first_run-run}

-- what the scan of a raw chunk's data finds
found : (c : After-first_run-run) → FirstAlike c.args.image.now c.args.block c.args.chunk c.args.n c.first_kind-first.result c.first_run-run.result.blocks
    × (c.first_run-run.result.blocks ≤ c.args.n)
found c =
    scanned c.requires.0 c.requires.1 c.requires.2 c.requires.3 c.in-Raw.is c.first_run-run.result.next _ refl c.first_kind-first.ensures c.first_run-run.ensures.0 c.first_run-run.ensures.1 c.first_run-run.ensures.2

pub overflow_mul-end : goal.overflow_mul-end
overflow_mul-end c =
    let p = product c.args.n c.args.block (search rules) c.requires.0.most in
    omega arith

pub overflow_add-end : goal.overflow_add-end
overflow_add-end c =
    omega (arith, data_inside c.requires.0 c.requires.1 c.requires.2 c.requires.3 c.in-Raw.is)

pub slice_bounds-data-end : goal.slice_bounds-data-end
slice_bounds-data-end c =
    data_inside c.requires.0 c.requires.1 c.requires.2 c.requires.3 c.in-Raw.is

pub overflow_cast-result : goal.overflow_cast-result
overflow_cast-result c = omega (arith, (found (goal.at.overflow_cast-result c).After-first_run-run).1)

pub returns-in-Raw : goal.returns-in-Raw
returns-in-Raw c = (found (goal.at.returns-in-Raw c).After-first_run-run).0

pub returns-in-Fill : goal.returns-in-Fill
returns-in-Fill c =
    first_fill c.requires.1 c.requires.2 c.in-Fill.is c.read32-word.ensures
