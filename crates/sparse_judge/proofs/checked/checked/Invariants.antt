-- `sparse_judge::checked::checked` meets its contract. The loop's invariant: the state, with the cells of the chunks left, gives the whole checksum.
-- Assumes nothing.
use Prim.Native.Nat.{◌-◌}
use Rattle.sparse_judge.proofs.Sums.{Turn}
use Rattle.sparse_judge.proofs.checked.checked.Given as goal

abbrev pub invariant-loop-turn : goal.invariant-loop-turn
invariant-loop-turn l = Turn l.image l.header (l.header.chunks - l._turn) l.cursor l.sum
