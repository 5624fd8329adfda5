-- `boot_launch_table::rules` meets its contract: antt computes the rules of all pairs. Assumes nothing.
use mathlib.Core.Path.{refl}
use mathlib.Core.List.{flatten}
use Rattle.boot_launch_rules.specs.Rules.{rule_of}
use Rattle.boot_launch_table.proofs.rules.Goals as goal

pub returns : goal.returns
unfolding rule_of flatten
returns c = refl
