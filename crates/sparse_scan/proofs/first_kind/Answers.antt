-- `sparse_scan::first_kind` meets its contract: no stored block is of kind 0, so the first one follows.
-- Assumes nothing.
use mathlib.Core.Path.{sym, subst, ◌∙◌}
use Prim.Native.Nat.{◌<◌}
use native.Mathlib.Omega.{arith}
use lib.ListN.{length}
use Rattle.sparse_write_rules.specs.Kinds.{kept, stored_kind}
use Rattle.sparse_write_rules.proofs.KindCells.{Stores, stored_stores}
use Rattle.sparse_scan.proofs.Whole.{whole_some}
use Rattle.sparse_scan.proofs.Scanning.{run_none, first_follows}
use Rattle.sparse_scan.proofs.first_kind.Goals as goal
use Rattle.sparse_scan.proofs.first_kind.Goals.{Else-n-eq0}

-- there is a block
some : (c : Else-n-eq0) → 0 < c.whole_blocks-n.result
some c = omega (arith, c.if-n-eq0.false)

pub returns-then-n-eq0 : goal.returns-then-n-eq0
returns-then-n-eq0 c =
    (run_none (stored_kind c.args.flat.now c.args.block_size) c.args.block_size kept _ 0 (sym c.whole_blocks-n.ensures ∙ c.if-n-eq0.true)).2

pub count_alike-requires : goal.count_alike-requires
count_alike-requires c =
    let w = whole_some (length c.args.flat.now) c.args.block_size 0 _ c.whole_blocks-n.ensures (some (goal.at.count_alike-requires c).Else-n-eq0) in
    (w.0, w.1, w.3)

pub returns : goal.returns
returns c =
    rw (← c.whole_blocks-n.ensures)
    (first_follows (stored_kind c.args.flat.now c.args.block_size) c.args.block_size kept c.whole_blocks-n.result 0 (some (goal.at.returns c).Else-n-eq0)
    (λ e. subst Stores e (stored_stores c.args.flat.now c.args.block_size 0)) c.count_alike.ensures.1)
