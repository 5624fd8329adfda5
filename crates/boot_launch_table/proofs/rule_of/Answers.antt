-- `boot_launch_table::rule_of` meets its contract: each pair at its place, and any other numbers a bad request.
-- Assumes nothing.
use native.Mathlib.Omega.{arith}
use Rattle.boot_launch_rules.proofs.Pairs.{rule_at, no_release, no_kernel}
use Rattle.boot_launch_table.proofs.rule_of.Goals as goal

pub returns-then-release-lt8 : goal.returns-then-release-lt8
returns-then-release-lt8 c = no_release _ (λ r lo hi e. omega arith) _

pub returns-then-release-gt13 : goal.returns-then-release-gt13
returns-then-release-gt13 c = no_release _ (λ r lo hi e. omega arith) _

pub returns-then-kernel-gt-GENERIC : goal.returns-then-kernel-gt-GENERIC
returns-then-kernel-gt-GENERIC c = no_kernel _ _ (omega arith)

pub returns : goal.returns
returns c = rule_at _ c.rules-table.ensures _ _ _ (omega arith) (omega arith) (omega arith)
