-- The loop of `text::lay`: the bytes that are left, stored from here on, make the whole.
use Rattle.fields_write.proofs.Loops.{Copied}
use Rattle.text.proofs.lay.Given as goal

abbrev pub invariant-loop-i : goal.invariant-loop-i
invariant-loop-i l = Copied l.fn.out l.at l.bytes l.out l.i
