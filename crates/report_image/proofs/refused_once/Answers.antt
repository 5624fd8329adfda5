-- `report_image::refused_once` meets its contract: a number from 1 to 11 counts at its place, and any other nowhere.
-- Assumes nothing.
use Rattle.std.proofs.Common.{rules}
use Rattle.report_rules.proofs.One.{once_inside, once_outside}
use Rattle.report_image.proofs.refused_once.Goals as goal

pub returns-then-contains : goal.returns-then-contains
returns-then-contains c = once_inside c.args.number (search rules) (search rules)

pub returns-else-contains : goal.returns-else-contains
returns-else-contains c = once_outside c.args.number (λ p q. search rules)
