-- `boot_launch_lines::put_pair` meets its contract: the release, and then the word of its kernel.
-- Assumes nothing.
use borrow.Author.Tests.{eq-eqb, ne_eqb}
use Rattle.std.proofs.Common.{rules, tests}
use Rattle.text.proofs.Growing.{puts_then}
use Rattle.boot_launch_rules.specs.Text.{pair_line}
use Rattle.boot_launch_lines.proofs.put_pair.Goals as goal

pub returns-then-kernel-eq-PLAIN : goal.returns-then-kernel-eq-PLAIN
unfolding pair_line
returns-then-kernel-eq-PLAIN c =
    rw (eq-eqb c.args.kernel 0 (search (rules, tests))) (puts_then c.put_number.ensures c.put.ensures)

pub returns-else-kernel-eq-PLAIN : goal.returns-else-kernel-eq-PLAIN
unfolding pair_line
returns-else-kernel-eq-PLAIN c =
    rw (ne_eqb c.args.kernel 0 (search (rules, tests))) (puts_then c.put_number.ensures c.put-else-kernel-eq-PLAIN.ensures)
