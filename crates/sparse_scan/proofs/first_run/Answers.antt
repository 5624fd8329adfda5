-- `sparse_scan::first_run` meets its contract: one block, and those of its kind after it.
-- Assumes nothing.
use mathlib.Core.Path.{◌≡◌, refl, sym, ◌∙◌}
use Prim.Native.Nat.{◌+◌, ◌*◌, ◌%◌, ◌≤◌, ◌<◌}
use native.Mathlib.Nat.{mul-le-mul_right}
use native.Mathlib.Omega.{arith}
use lib.ListN.{length}
use Rattle.sparse_write_rules.specs.Kinds.{stored_kind}
use Rattle.sparse_write_rules.proofs.Runs.{one_less}
use Rattle.sparse_write_rules.specs.KindOf.{kind_of}
use Rattle.sparse_scan.specs.Scan.{run_blocks, after_run}
use Rattle.sparse_scan.proofs.Whole.{whole_some}
use Rattle.sparse_scan.proofs.Scanning.{run_none, run_some}
use Rattle.sparse_scan.proofs.first_run.Goals as goal
use Rattle.sparse_scan.proofs.first_run.Goals.{After-count_alike-r, Else-n-eq0}

-- there is a block
some : (c : Else-n-eq0) → 0 < c.whole_blocks-n.result
some c = omega (arith, c.if-n-eq0.false)

-- and all lie within
within : (c : Else-n-eq0) → (c.args.at + c.whole_blocks-n.result * c.args.block_size ≤ length c.args.flat.now)
    × (4 ≤ c.args.block_size)
    × (c.args.block_size ≤ 65536)
    × (c.args.block_size % 4 ≡ 0)
within c =
    whole_some (length c.args.flat.now) c.args.block_size c.args.at c.whole_blocks-n.result c.whole_blocks-n.ensures (some c)

-- what the scan from the second block on finds
found : (c : After-count_alike-r) → (c.count_alike-r.result.blocks + 1
    ≡ run_blocks (stored_kind c.args.flat.now c.args.block_size) c.args.block_size (kind_of c.args.kind) c.whole_blocks-n.result c.args.at)
    × (kind_of c.count_alike-r.result.next
    ≡ after_run (stored_kind c.args.flat.now c.args.block_size) c.args.block_size (kind_of c.args.kind) c.whole_blocks-n.result c.args.at)
    × (c.count_alike-r.result.blocks + 1 ≤ c.whole_blocks-n.result)
found c =
    run_some (stored_kind c.args.flat.now c.args.block_size) c.args.block_size (kind_of c.args.kind) c.whole_blocks-n.result c.args.at
    (omega (arith, c.if-n-eq0.false)) c.count_alike-r.ensures.0 c.count_alike-r.ensures.1

pub returns-then-n-eq0 : goal.returns-then-n-eq0
returns-then-n-eq0 c =
    let r = run_none (stored_kind c.args.flat.now c.args.block_size) c.args.block_size (kind_of c.args.kind) _ c.args.at (sym c.whole_blocks-n.ensures ∙ c.if-n-eq0.true) in
    (r.0, omega arith, r.1)

pub overflow_add-at : goal.overflow_add-at
overflow_add-at c = omega (arith, (within (goal.at.overflow_add-at c).Else-n-eq0).0, one_less _ c.args.block_size (some (goal.at.overflow_add-at c).Else-n-eq0))

pub overflow_sub-n : goal.overflow_sub-n
overflow_sub-n c = omega (arith, some (goal.at.overflow_sub-n c).Else-n-eq0)

pub count_alike-r-requires : goal.count_alike-r-requires
count_alike-r-requires c = (omega (arith, (within (goal.at.count_alike-r-requires c).Else-n-eq0).0, one_less _ c.args.block_size (some (goal.at.count_alike-r-requires c).Else-n-eq0)), (within (goal.at.count_alike-r-requires c).Else-n-eq0).1, (within (goal.at.count_alike-r-requires c).Else-n-eq0).3)

pub overflow_add-blocks : goal.overflow_add-blocks
overflow_add-blocks c = omega (arith, (found (goal.at.overflow_add-blocks c).After-count_alike-r).2)

pub overflow_mul-result : goal.overflow_mul-result
overflow_mul-result c = omega (arith, (within (goal.at.overflow_mul-result c).Else-n-eq0).0, mul-le-mul_right c.args.block_size (found (goal.at.overflow_mul-result c).After-count_alike-r).2)

pub returns : goal.returns
returns c = rw (← c.whole_blocks-n.ensures) ((found (goal.at.returns c).After-count_alike-r).0, refl, (found (goal.at.returns c).After-count_alike-r).1)
