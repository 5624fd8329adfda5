-- `slot_places::are_slots_valid` meets its contract. Assumes nothing.
use Rattle.std.proofs.Common.{◌∙◌, rules, tests, length, ◌≡◌}
use Rattle.std.proofs.lemmas.Iterator.{YieldsList-from_slice}
use Rattle.std.proofs.lemmas.Iterator.Search.{all_from_yields_List}
use Rattle.slot_rules.specs.OneSlot.{slot_valid}
use Rattle.slot_rules.proofs.Laws.{four_valid}
use Rattle.slot_places.proofs.are_slots_valid.Goals as goal

pub returns : goal.returns
returns c =
    let four : length c.args.r.slots ≡ 4 = search rules in
    all_from_yields_List slot_valid _ _ _ c.all.ensures.ran (YieldsList-from_slice c.args.r.slots cc) (λ x b q k. search (rules, tests)) ∙ four_valid c.args.r four
