-- `boot_launch_lines::put_refused` meets its contract.
-- Assumes nothing.
use Rattle.boot_launch_rules.specs.Text.{refused_line}
use Rattle.boot_launch_lines.proofs.put_refused.Goals as goal

pub returns : goal.returns
unfolding refused_line
returns c = c.put_line.ensures
