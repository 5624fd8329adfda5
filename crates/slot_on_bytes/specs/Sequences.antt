-- Sequences of operations on lent bytes: they answer and leave what the same operations do on the record, so what slot_sequence_rules says holds of them.
-- Assumes nothing.
use Rattle.std.specs.Prelude.{◌≡◌, List, [], ◌∷◌, ℕ, ◌≤◌}
use Rattle.slot_rules.specs.declared.Op.{Op}
use Rattle.slot_rules.specs.Applied.{apply}
use Rattle.slot_sequence_rules.specs.Sequences.{reached}
use Rattle.slot_bytes.specs.Record.{record_bytes}
use Rattle.slot_on_bytes.specs.OnBytes.{reply_of, on_bytes, fresh_bytes}

-- the bytes after the operations os, in turn from the bytes b
unfoldable pub run_bytes : List ℕ → List Op → List ℕ
run_bytes b [] = b
run_bytes b (o ∷ os) = run_bytes (on_bytes o b).bytes os

-- the bytes after the operations os, in turn from a fresh record for n slots that is made in the bytes b
abbrev pub reached_bytes : ℕ → List ℕ → List Op → List ℕ
reached_bytes n b os = run_bytes (fresh_bytes n b).bytes os

-- a sequence on bytes, whatever they held before: they are those of the record that is reached, and the next operation replies what it says of that record
pub record FollowsRecord (n : ℕ) (b : List ℕ) (os : List Op) : Type 0 where
  pub same_bytes : reached_bytes n b os ≡ record_bytes (reached n os)
  pub same_reply : (o : Op) → on_bytes o (reached_bytes n b os) ≡ reply_of (record_bytes (reached n os)) (apply o (reached n os))

-- so it is of every sequence, whatever the number of slots, 1 to 4
pub record EachSequence : Type 0 where
  pub follows : (n : ℕ) → 1 ≤ n → n ≤ 4 → (b : List ℕ) (os : List Op) → FollowsRecord n b os
