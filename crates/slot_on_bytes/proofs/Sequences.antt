-- Sequences of operations on bytes follow those on the record, operation by operation.
-- Assumes nothing.
use mathlib.Core.Path.{◌≡◌, refl, sym, ap, ◌∙◌}
use mathlib.Core.List.{List, [], ◌∷◌}
use Prim.Native.Nat.{ℕ, ◌≤◌}
use lib.ListN.{length}
use Rattle.rules.specs.Answer.{Answer, accepted, refused}
use Rattle.slot_rules.specs.declared.Op.{Op}
use Rattle.slot_rules.specs.declared.Record.{Record}
use Rattle.slot_rules.specs.Answers.{Deed}
use Rattle.slot_rules.specs.Operations.{fresh_of}
use Rattle.slot_rules.specs.Applied.{apply}
use Rattle.slot_rules.specs.Promises.{after}
use Rattle.slot_rules.proofs.Promises.{promises}
use Rattle.slot_sequence_rules.specs.Sequences.{run, reached}
use Rattle.slot_sequence_rules.proofs.Bound.{along}
use Rattle.slot_bytes.specs.Record.{record_bytes}
use Rattle.slot_bytes.proofs.Promises.{again, right}
use Rattle.slot_on_bytes.specs.OnBytes.{bytes_after, reply_of, on_bytes, fresh_bytes}
use Rattle.slot_on_bytes.specs.Sequences.{run_bytes, reached_bytes, EachSequence}

-- one operation on the bytes of a record of four slots
module _ (o : Op) (r : Record) (four : length r.slots ≡ 4) where
  replies : on_bytes o (record_bytes r) ≡ reply_of (record_bytes r) (apply o r)
  unfolding on_bytes
  replies = rw (right r, again r four) refl

  leaves : (on_bytes o (record_bytes r)).bytes ≡ record_bytes (after o r)
  unfolding reply_of
  leaves = rw (replies) (by (apply o r).answer refl) where
    by : (a : Answer Deed) → (apply o r).answer ≡ a → bytes_after (record_bytes r) a (after o r) ≡ record_bytes (after o r)
    by (accepted d) e = refl
    by (refused n p) e = ap record_bytes (sym ((promises.lawful o r).refusal_keeps n p e))

-- and a sequence of them
runs : (os : List Op) (r : Record) → length r.slots ≡ 4 → run_bytes (record_bytes r) os ≡ record_bytes (run r os)
unfolding run run_bytes
runs [] r four = refl
runs (o ∷ os) r four = ap (λ b. run_bytes b os) (leaves o r four) ∙ runs os (after o r) ((promises.lawful o r).places_kept ∙ four)

four_places : (n : ℕ) (os : List Op) → length (reached n os).slots ≡ 4
four_places n os = along (λ (r : Record). length r.slots ≡ 4) (λ o r four. (promises.lawful o r).places_kept ∙ four) os (fresh_of n).after (promises.fresh_places n)

module _ (n : ℕ) (lo : 1 ≤ n) (hi : n ≤ 4) (b : List ℕ) (os : List Op) where
  begun : (fresh_bytes n b).bytes ≡ record_bytes (fresh_of n).after
  unfolding fresh_bytes reply_of
  begun = rw (promises.fresh_valid n lo hi).0 refl

  same_bytes : reached_bytes n b os ≡ record_bytes (reached n os)
  same_bytes = ap (λ x. run_bytes x os) begun ∙ runs os (fresh_of n).after (promises.fresh_places n)

pub each_sequence : EachSequence
each_sequence = record { follows = λ n lo hi b os. record { same_bytes = same_bytes n lo hi b os; same_reply = λ o. ap (on_bytes o) (same_bytes n lo hi b os) ∙ replies o (reached n os) (four_places n os) } }
