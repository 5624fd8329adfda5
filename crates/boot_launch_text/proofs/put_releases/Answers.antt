-- `boot_launch_text::put_releases` meets its contract.
-- Assumes nothing.
use native.Mathlib.Omega.{arith}
use Rattle.boot_launch_text.proofs.Releases.{going_start, going_step, going_done}
use Rattle.boot_launch_text.proofs.put_releases.Goals as goal

pub loop-release-init : goal.loop-release-init
loop-release-init c = going_start _ _

pub loop-release-preserved : goal.loop-release-preserved
loop-release-preserved c = going_step _ _ _ _ c.loop-release.invariant (omega arith) c.put_release.ensures

pub returns : goal.returns
returns c = going_done _ _ _ _ c.loop-release.invariant c.loop-release-test.false
