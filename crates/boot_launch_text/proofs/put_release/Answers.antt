-- `boot_launch_text::put_release` meets its contract.
-- Assumes nothing.
use mathlib.Core.List.{flatten, append-nil}
use Rattle.text.proofs.Growing.{puts_then}
use Rattle.boot_launch_text.proofs.put_release.Goals as goal

pub returns : goal.returns
unfolding flatten
returns c = rw (append-nil _) (puts_then c.put_taken.ensures c.put_taken-2.ensures)
