-- `slot_bytes::record_bytes` meets its contract. The loop's invariant: the slots before this one stand in their bytes. Assumes nothing.
use mathlib.Core.Path.{◌≡◌}
use Rattle.slot_bytes.proofs.Bytes.{written}
use Rattle.slot_bytes.proofs.record_bytes.Given as goal

abbrev pub invariant-loop-k : goal.invariant-loop-k
invariant-loop-k l = l.b ≡ written l.r l.k
