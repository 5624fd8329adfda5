-- `sparse_structure::structure` meets its contract. The loop's invariant: the chunks that were passed are counted, and the rest of the walk follows them.
-- Assumes nothing.
use Prim.Native.Nat.{◌-◌}
use Rattle.sparse_structure.proofs.Tally.{Tallied}
use Rattle.sparse_structure.proofs.structure.Given as goal

abbrev pub invariant-loop-turn : goal.invariant-loop-turn
invariant-loop-turn l = Tallied l.image l.header (l.header.chunks - l._turn) l.cursor l.counts
