-- The loop of `boot_launch_text::put_releases`: the lines of all releases before this one are put.
use Rattle.boot_launch_text.proofs.Releases.{Going}
use Rattle.boot_launch_text.proofs.put_releases.Given as goal

abbrev pub invariant-loop-release : goal.invariant-loop-release
invariant-loop-release l = Going l.image l.initial.out l.release l.out
