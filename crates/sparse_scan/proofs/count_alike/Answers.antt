-- `sparse_scan::count_alike` meets its contract. The outer invariant: the blocks passed are of the kind, and on those left hangs what is found;
-- the inner one: on the words left hangs whether the block is filled with its first. Assumes nothing.
use mathlib.Core.Path.{◌≡◌, sym, ◌∙◌}
use Prim.Native.Nat.{◌+◌, ◌*◌, ◌≤◌}
use native.Mathlib.Omega.{arith}
use lib.ListN.{length}
use Rattle.sparse_write_rules.specs.Kinds.{raw, fill, stored_kind}
use Rattle.std.specs.Prelude.{Some}
use Rattle.std.proofs.Common.{rules, tests}
use Rattle.std.proofs.lemmas.Bool.{not-true, not-false}
use Rattle.sparse_write_rules.specs.declared.Stored.TheVariants.{Raw, Fill}
use Rattle.sparse_write_rules.proofs.KindOf.{same_told, apart_told}
use Rattle.sparse_write_rules.proofs.KindSteps.{kind_raw, kind_fill}
use Rattle.sparse_scan.proofs.Scanning.{rest_next, rest_differs, rest_done, rest_first, scan_room, scan_on, scan_stop, scan_end}
use Rattle.sparse_scan.proofs.count_alike.Goals as goal
use Rattle.sparse_scan.proofs.count_alike.Goals.{After-loop-i, In-each, Then-read32-first}

-- a word differs: the block is raw
is-raw : (c : Then-read32-first) → stored_kind c.args.flat.now c.args.block (c.args.from + c.each.blocks * c.args.block) ≡ raw
is-raw c =
    kind_raw c.args.flat.now c.args.block (c.args.from + c.each.blocks * c.args.block) c.read32-first.result c.read32-first.ensures
    (rest_differs c.loop-i.invariant c.loop-i-test.true (λ q. c.if-read32-first.true (c.read32.ensures ∙ q)))

-- none does: it is fill
is-fill : (c : After-loop-i) → stored_kind c.args.flat.now c.args.block (c.args.from + c.each.blocks * c.args.block) ≡ fill c.read32-first.result
is-fill c =
    kind_fill c.args.flat.now c.args.block (c.args.from + c.each.blocks * c.args.block) c.read32-first.result c.read32-first.ensures
    (rest_done c.loop-i.invariant c.loop-i-test.false)

-- the block lies within the flat data
room : (c : In-each) → c.args.from + c.each.blocks * c.args.block + c.args.block ≤ length c.args.flat.now
room c = omega (arith, scan_room c.args.block c.args.n c.args.from c.each.blocks c.each-test.true)

pub overflow_add-end : goal.overflow_add-end
overflow_add-end c = omega (arith, room (goal.at.overflow_add-end c).In-each)

pub overflow_add-i : goal.overflow_add-i
overflow_add-i c = omega (arith, room (goal.at.overflow_add-i c).In-each)

pub overflow_add-i-in-loop-i : goal.overflow_add-i-in-loop-i
overflow_add-i-in-loop-i c = omega (arith, room (goal.at.overflow_add-i-in-loop-i c).In-each, c.loop-i.invariant.ends)

pub loop-i-init : goal.loop-i-init
loop-i-init c =
    rest_first c.args.flat.now c.args.block (c.args.from + c.each.blocks * c.args.block) c.read32-first.result c.read32-first.ensures (omega arith) (omega arith)

pub returns-then-ne : goal.returns-then-ne
returns-then-ne c =
    scan_stop c.each.invariant c.each-test.true (is-raw (goal.at.returns-then-ne c).Then-read32-first)
    (apart_told c.args.kind (Some Raw) (not-true _ (sym c.ne.ensures ∙ c.if-ne.true)))

pub each-preserved-then-read32-first : goal.each-preserved-then-read32-first
each-preserved-then-read32-first c =
    scan_on c.each.invariant c.each-test.true
    (is-raw (goal.at.each-preserved-then-read32-first c).Then-read32-first ∙ sym (same_told c.args.kind (Some Raw) (not-false _ (sym c.ne.ensures ∙ c.if-ne.false))))

pub loop-i-preserved : goal.loop-i-preserved
loop-i-preserved c =
    rest_next c.loop-i.invariant c.loop-i-test.true (sym c.read32.ensures ∙ c.if-read32-first.false)

pub returns-then-ne-2 : goal.returns-then-ne-2
returns-then-ne-2 c =
    scan_stop c.each.invariant c.each-test.true (is-fill (goal.at.returns-then-ne-2 c).After-loop-i)
    (apart_told c.args.kind (Some (Fill c.read32-first.result)) (search (rules, tests)))

pub each-preserved : goal.each-preserved
each-preserved c =
    scan_on c.each.invariant c.each-test.true
    (is-fill (goal.at.each-preserved c).After-loop-i ∙ sym (same_told c.args.kind (Some (Fill c.read32-first.result)) (search (rules, tests))))

pub returns : goal.returns
returns c = scan_end c.each.invariant (omega arith)
