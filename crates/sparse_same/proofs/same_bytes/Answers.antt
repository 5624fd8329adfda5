-- `sparse_same::same_bytes` meets its contract.
-- Assumes nothing.
use mathlib.Core.Path.{sym, ◌∙◌}
use Prim.Native.Nat.{◌+◌, ◌≤◌}
use native.Mathlib.Omega.{arith}
use borrow.Author.Tests.{leb-true}
use lib.ListN.{length}
use Rattle.sparse_rules.proofs.Cells.{length-tab}
use Rattle.sparse_blocks_rules.proofs.Turns.{part_is, same_parts, lacks_first, lacks_second}
use Rattle.sparse_same.proofs.same_bytes.Goals as goal

pub overflow_add-i : goal.overflow_add-i
overflow_add-i c =
    let inside : c.args.i + c.args.n ≤ length c.args.first.now = leb-true _ _ (sym c.within.ensures ∙ c.if-within.true) in
    record { fits = omega (arith, c.well_formed) }

pub slice_bounds-equal-end : goal.slice_bounds-equal-end
slice_bounds-equal-end c = leb-true _ _ (sym c.within.ensures ∙ c.if-within.true)

pub overflow_add-j : goal.overflow_add-j
overflow_add-j c =
    let inside : c.args.j + c.args.n ≤ length c.args.second.now = leb-true _ _ (sym c.within-then-within.ensures ∙ c.if-within-2.true) in
    record { fits = omega (arith, c.well_formed) }

pub equal-requires : goal.equal-requires
equal-requires c =
    let first = part_is c.args.first.now c.args.i c.args.n (leb-true _ _ (sym c.within.ensures ∙ c.if-within.true)) in
    let second = part_is c.args.second.now c.args.j c.args.n (leb-true _ _ (sym c.within-then-within.ensures ∙ c.if-within-2.true)) in
    rw (first, second) (length-tab _ 0 c.args.n ∙ sym (length-tab _ 0 c.args.n))

pub returns-then-within-2 : goal.returns-then-within-2
returns-then-within-2 c =
    c.equal.ensures
    ∙ same_parts c.args.first.now c.args.i c.args.second.now c.args.j c.args.n (sym c.within.ensures ∙ c.if-within.true)
    (sym c.within-then-within.ensures ∙ c.if-within-2.true)

pub returns-else-within-2 : goal.returns-else-within-2
returns-else-within-2 c =
    lacks_second c.args.first.now c.args.i c.args.second.now c.args.j c.args.n (sym c.within.ensures ∙ c.if-within.true)
    (sym c.within-then-within.ensures ∙ c.if-within-2.false)

pub returns-else-within : goal.returns-else-within
returns-else-within c =
    lacks_first c.args.first.now c.args.i c.args.second.now c.args.j c.args.n (sym c.within.ensures ∙ c.if-within.false)
