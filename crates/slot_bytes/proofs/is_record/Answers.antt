-- `slot_bytes::is_record` meets its contract. Assumes nothing.
use Rattle.std.proofs.Common.{◌∙◌, refl, rules, tests, ◌*◌}
use Rattle.std.proofs.lemmas.Iterator.{YieldsList-from_range}
use Rattle.std.proofs.lemmas.Iterator.Search.{all_from_yields_List}
use Rattle.slot_bytes.specs.Record.{are_flags}
use Rattle.slot_bytes.proofs.Bytes.{all_flags}
use Rattle.slot_bytes.proofs.is_record.Goals as goal

pub returns : goal.returns
returns c =
    all_from_yields_List (λ k. are_flags c.args.b (k * 5)) _ _ _ c.all.ensures.ran (YieldsList-from_range 0 4 4 refl refl) (λ x b q k. search (rules, tests))
    ∙ all_flags c.args.b
