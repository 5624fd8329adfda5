-- `fields_write::store` meets its contract. The loop's invariant: the bytes that are left, stored from here on, make the whole.
-- Assumes nothing.
use Rattle.fields_write.proofs.Loops.{Copied}
use Rattle.fields_write.proofs.store.Given as goal

abbrev pub invariant-loop-i : goal.invariant-loop-i
invariant-loop-i l = Copied l.initial.out l.at l.src l.out l.i
