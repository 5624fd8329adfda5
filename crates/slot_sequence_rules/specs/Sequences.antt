-- Sequences of slot operations: in turn from a record, each on the record that the one before it left.
-- Assumes nothing.
use Rattle.std.specs.Prelude.{◌≡◌, Bool, true, cond, List, [], ◌∷◌, ℕ, suc, ◌+◌}
use Rattle.rules.specs.Answer.{refused}
use Rattle.slot_rules.specs.declared.Record.{Record}
use Rattle.slot_rules.specs.declared.Op.{Op}
use Rattle.slot_rules.specs.declared.Op.TheVariants.{Start}
use Rattle.slot_rules.specs.Operations.{fresh_of}
use Rattle.slot_rules.specs.Applied.{apply}
use Rattle.slot_rules.specs.Promises.{after, starts_slot, renews, confirms}

-- the record after the operations os, in turn from r
unfoldable pub run : Record → List Op → Record
run r [] = r
run r (o ∷ os) = run (after o r) os

-- the record after the operations os, in turn "from a fresh record" for n slots
abbrev pub reached : ℕ → List Op → Record
reached n os = run (fresh_of n).after os

-- how many of the operations os, in turn from r, are such that P holds of them on the record before them
unfoldable pub how_many : (Op → Record → Bool) → Record → List Op → ℕ
how_many P r [] = 0
how_many P r (o ∷ os) = cond (P o r) 1 0 + how_many P (after o r) os

-- the operation o on the record r starts slot i: its answer says so
abbrev pub starting : ℕ → Op → Record → Bool
starting i o r = starts_slot (apply o r).answer i

-- it is a "set active or partition modified on a slot", on slot i, and not refused
abbrev pub renewing : ℕ → Op → Record → Bool
renewing i o r = renews o (apply o r).answer i

-- it confirms slot i: Confirm where slot i is current, and not refused
abbrev pub confirming : ℕ → Op → Record → Bool
confirming i o r = confirms o (apply o r).answer r i

-- where a stretch of slot i begins, in a sequence from a fresh record for n slots: at "the beginning", or after "one set active or partition modified" on it
pub data Begins (n i : ℕ) : Record → Type 0 where
  beginning : Begins n i (fresh_of n).after
  renewed : (os : List Op) (o : Op) → renewing i o (reached n os) ≡ true → Begins n i (after o (reached n os))

-- the operations os, in turn from r, are m starts "with no other operation between": refused ones do not count
pub data RunOfStarts : ℕ → Record → List Op → Type 0 where
  none : (r : Record) → RunOfStarts 0 r []
  start : (m : ℕ) (r : Record) (os : List Op) → RunOfStarts m (after Start r) os → RunOfStarts (suc m) r (Start ∷ os)
  refusal : (m : ℕ) (r : Record) (o : Op) (os : List Op) (k p : ℕ) → (apply o r).answer ≡ refused k p → RunOfStarts m (after o r) os → RunOfStarts m r (o ∷ os)
