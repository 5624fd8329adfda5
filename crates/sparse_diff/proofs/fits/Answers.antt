-- `sparse_diff::fits` meets its contract.
-- Assumes nothing.
use mathlib.Core.Path.{ap}
use Prim.Native.Nat.{ℕ, ◌*◌}
use native.Mathlib.Omega.{arith}
use lib.Dec.{leb}
use Rattle.fields_rules.proofs.Laws.{number_bound}
use Rattle.sparse_diff_rules.proofs.Answering.{runs_few, room_enough}
use Rattle.sparse_diff.proofs.fits.Goals as goal

pub returns-then-blocks-room : goal.returns-then-blocks-room
returns-then-blocks-room c = room_enough c.requires c.read_header-blocks.ensures c.if-blocks-room.true

pub overflow_mul-result : goal.overflow_mul-result
overflow_mul-result c =
    let small = number_bound c.args.first.now (λ i. omega (arith, c.type_inv.first i)) 16 4 in
    let few = runs_few c.requires in
    record { fits = omega (arith, c.list-runs.ensures.answer) }

pub returns : goal.returns
returns c = ap (λ (n : ℕ). leb (3 * n) c.args.room) c.list-runs.ensures.answer
