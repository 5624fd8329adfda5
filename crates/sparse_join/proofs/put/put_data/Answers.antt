-- `sparse_join::put::put_data` meets its contract.
-- Assumes nothing.
use mathlib.Core.Path.{◌≡◌, sym, ap, ◌∙◌}
use Prim.Native.Nat.{◌+◌, ◌-◌}
use native.Mathlib.Omega.{arith}
use lib.ListN.{take, drop}
use lib.Seq.{sets}
use Rattle.std.specs.Prelude.{Some}
use Rattle.crc32_rules.specs.Crc.{crc_from}
use Rattle.crc32_rules.proofs.Laws.{crc_nil}
use Rattle.sparse_write_rules.specs.declared.Stored.TheVariants.{Raw}
use Rattle.sparse_write_rules.specs.Kinds.{raw}
use Rattle.sparse_write_rules.specs.KindOf.{kind_of}
use Rattle.sparse_write_rules.proofs.KindOf.{same_told, apart_told, rest_other}
use Rattle.sparse_join.proofs.put.put_data.Goals as goal
use Rattle.sparse_join.proofs.put.put_data.Goals.{Then-eq}

-- the blocks are raw
is-raw : (c : Then-eq) → kind_of c.args.kind ≡ raw
is-raw c = same_told c.args.kind (Some Raw) (sym c.eq.ensures ∙ c.if-eq.true)

pub overflow_add-end : goal.overflow_add-end
overflow_add-end c = omega (arith, c.requires (is-raw (goal.at.overflow_add-end c).Then-eq))

pub slice_bounds-data-end : goal.slice_bounds-data-end
slice_bounds-data-end c = c.requires (is-raw (goal.at.slice_bounds-data-end c).Then-eq)

pub returns-then-eq : goal.returns-then-eq
returns-then-eq c =
    let z : c.args.body + c.args.len - c.args.body ≡ c.args.len = omega arith in
    let e = is-raw (goal.at.returns-then-eq c).Then-eq in
    (c.update.ensures ∙ rw (e, z), c.copy.ensures ∙ rw (e, z))

pub returns : goal.returns
returns c =
    let none = rest_other (kind_of c.args.kind) (take c.args.len (drop c.args.body c.args.image.now)) (apart_told c.args.kind (Some Raw) (sym c.eq.ensures ∙ c.if-eq.false)) in
    (sym (ap (crc_from c.args.state) none ∙ crc_nil c.args.state), ap (sets c.args.out.now c.args.at) (sym none))
