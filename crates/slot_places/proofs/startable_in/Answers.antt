-- `slot_places::startable_in` meets its contract. Assumes nothing.
use mathlib.Core.Path.{◌≡◌, ◌∙◌}
use Prim.Native.Nat.{◌<◌}
use native.Mathlib.Omega.{arith}
use lib.ListN.{length}
use borrow.Author.Rules.{rules}
use Rattle.std.specs.List.{sum_by}
use Rattle.slot_rules.specs.OneSlot.{count_of}
use Rattle.slot_rules.proofs.Laws.{four_counts, four_few}
use Rattle.slot_places.proofs.startable_in.Goals as goal

pub sum-requires-clause-fits : goal.sum-requires-clause-fits
sum-requires-clause-fits c =
    let four : length c.args.r.slots ≡ 4 = search rules in
    let few : sum_by count_of c.args.r.slots < 256 = omega (arith, four_few c.args.r four) in
    search rules

pub returns : goal.returns
returns c =
    let four : length c.args.r.slots ≡ 4 = search rules in
    let all : c.sum.result ≡ sum_by count_of c.args.r.slots = search rules in
    all ∙ four_counts c.args.r four
