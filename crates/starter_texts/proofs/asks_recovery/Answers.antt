-- `starter_texts::asks_recovery` meets its contract.
-- Assumes nothing.
use Rattle.std.proofs.Common.{◌∙◌}
use Rattle.starter_rules.specs.Line.{asks_recovery}
use Rattle.starter_texts.proofs.Texts.{begins_as}
use Rattle.starter_texts.proofs.asks_recovery.Goals as goal

pub returns : goal.returns
unfolding asks_recovery
returns c = c.starts_with.ensures.value ∙ begins_as _ c.args.misc.now
