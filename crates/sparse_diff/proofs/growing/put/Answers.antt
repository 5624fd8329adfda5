-- `sparse_diff::put` meets its contract.
-- Assumes nothing.
use mathlib.Core.Path.{sym, ◌∙◌}
use Prim.Native.Nat.{◌+◌, ◌<◌}
use native.Mathlib.Omega.{arith}
use borrow.Author.Tests.{leb-false}
use lib.ListN.{length, length-set}
use Rattle.fields_rules.proofs.Laws.{placed_none}
use Rattle.sparse_diff_rules.proofs.Laying.{room_three, put_three}
use Rattle.sparse_diff.proofs.growing.put.Goals as goal

pub offset_bounds-space-at : goal.offset_bounds-space-at
offset_bounds-space-at c = record { fits = omega (arith, c.well_formed, room_three c.args.at c.args.space.now c.within.ensures c.if-within.true) }

pub bounds-space-at : goal.bounds-space-at
bounds-space-at c = omega (arith, room_three c.args.at c.args.space.now c.within.ensures c.if-within.true)

pub overflow_add-space : goal.overflow_add-space
overflow_add-space c = record { fits = omega (arith, c.well_formed, room_three c.args.at c.args.space.now c.within.ensures c.if-within.true) }

pub offset_bounds-space-at-then-within : goal.offset_bounds-space-at-then-within
offset_bounds-space-at-then-within c = record { fits = omega (arith, c.well_formed, room_three c.args.at c.args.space.now c.within.ensures c.if-within.true) }

pub bounds-space-at-then-within : goal.bounds-space-at-then-within
bounds-space-at-then-within c = rw length-set (omega (arith, room_three c.args.at c.args.space.now c.within.ensures c.if-within.true))

pub overflow_add-space-then-within : goal.overflow_add-space-then-within
overflow_add-space-then-within c = record { fits = omega (arith, c.well_formed, room_three c.args.at c.args.space.now c.within.ensures c.if-within.true) }

pub offset_bounds-space-at-then-within-2 : goal.offset_bounds-space-at-then-within-2
offset_bounds-space-at-then-within-2 c = record { fits = omega (arith, c.well_formed, room_three c.args.at c.args.space.now c.within.ensures c.if-within.true) }

pub bounds-space-at-then-within-2 : goal.bounds-space-at-then-within-2
bounds-space-at-then-within-2 c = rw (length-set, length-set) (omega (arith, room_three c.args.at c.args.space.now c.within.ensures c.if-within.true))

pub returns-then-within : goal.returns-then-within
returns-then-within c =
    put_three c.args.space.now c.args.at c.args.first c.args.blocks c.args.kind (room_three c.args.at c.args.space.now c.within.ensures c.if-within.true)

pub returns-else-within : goal.returns-else-within
returns-else-within c =
    let past : length c.args.space.now < c.args.at + 3 = leb-false _ _ (sym c.within.ensures ∙ c.if-within.false) in
    sym (placed_none c.args.space.now c.args.at _ past)
