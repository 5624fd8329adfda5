-- `sparse_scan::count_alike` meets its contract. The outer invariant: the blocks passed are of the kind, and on those left hangs what is found;
-- the inner one: on the words left hangs whether the block is filled with its first. Assumes nothing.
use Prim.Native.Nat.{◌-◌, ◌/◌}
use Rattle.sparse_write_rules.specs.Kinds.{all_equal, stored_kind}
use Rattle.sparse_write_rules.specs.KindOf.{kind_of}
use Rattle.sparse_scan.proofs.Scanning.{Rest, Scanned}
use Rattle.sparse_scan.proofs.count_alike.Given as goal

abbrev pub invariant-loop-i : goal.invariant-loop-i
invariant-loop-i l = Rest l.flat (all_equal l.flat l.first (l.block / 4) l.start) l.first l.i l.end

abbrev pub decreases-loop-i : goal.decreases-loop-i
decreases-loop-i l = l.end - l.i

abbrev pub invariant-each : goal.invariant-each
invariant-each l = Scanned (stored_kind l.flat l.block) l.block l.n l.from (kind_of l.kind) l.blocks
