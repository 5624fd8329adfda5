-- What the proofs of the record's bytes cite.
-- Assumes nothing.
use mathlib.Core.Path.{◌≡◌}
use mathlib.Core.Bool.{and_assoc, and-true}
use mathlib.Core.List.{List, [], ◌∷◌}
use Prim.Native.Nat.{ℕ, zero, suc, ◌*◌}
use Rattle.std.specs.List.{list_all}
use lib.ListN.{set, replicate}
use lib.Seq.{sets}
use Rattle.slot_rules.specs.declared.Record.{Record}
use Rattle.slot_rules.specs.Records.{slot_at}
use Rattle.slot_bytes.specs.Record.{slot_bytes, record_bytes, are_flags, is_record}

-- what is written of the first k slots, over 22 zero bytes
abbrev pub written : Record → ℕ → List ℕ
written r zero = replicate 22 0
written r (suc k) = sets (written r k) (k * 5) (slot_bytes (slot_at r k))

-- and of all four, with the last two bytes
pub whole : (r : Record) (b : List ℕ) → b ≡ written r 4 → set (set b 20 r.current) 21 r.startable ≡ record_bytes r
unfolding record_bytes
whole r b e = rw e

-- bytes are a record where the flags of each slot are
pub all_flags : (x : List ℕ) → list_all (λ k. are_flags x (k * 5)) (0 ∷ 1 ∷ 2 ∷ 3 ∷ []) ≡ is_record x
unfolding is_record
all_flags x = simp (and_assoc, and-true)
