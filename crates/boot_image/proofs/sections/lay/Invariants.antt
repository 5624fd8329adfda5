-- The invariant of `boot_image::sections::lay`: the sections so far are laid out. Assumes nothing.
use Rattle.boot_image.proofs.Laying.{Laid}
use Rattle.boot_image.proofs.sections.lay.Given as goal

abbrev pub invariant-loop-i : goal.invariant-loop-i
invariant-loop-i l = Laid l.image l.i l.next l.rooms
