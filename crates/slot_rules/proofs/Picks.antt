-- Which slot Start picks in a valid record: the current one, the first that qualifies, or none.
-- Assumes nothing.
use mathlib.Core.Path.{◌≡◌, refl, ap, ◌∙◌}
use mathlib.Core.Bool.{Bool, true, false}
use Prim.Native.Nat.{ℕ, ◌<◌}
use native.Mathlib.Omega.{arith}
use lib.Dec.{ltb}
use borrow.Author.Tests.{ltb-true, lt-ltb}
use Rattle.rules.specs.Answer.{accepted}
use Rattle.slot_rules.specs.declared.Record.{Record}
use Rattle.slot_rules.specs.OneSlot.{may_start}
use Rattle.slot_rules.specs.Records.{current_slot, valid}
use Rattle.slot_rules.specs.Answers.{starts, recovery, Change}
use Rattle.slot_rules.specs.Operations.{first_other, start_of}
use Rattle.slot_rules.specs.Promises.{Qualifies, StartsUpTo, Picks}
use Rattle.slot_rules.proofs.Laws.{in_use_place, start_own, start_other}
use Rattle.slot_rules.proofs.Search.{found_qualifies, found_first}

module _ (r : Record) (v : valid r ≡ true) where
  own : may_start (current_slot r) ≡ true → (start_of r).answer ≡ accepted (starts r.current)
  own m = ap (λ (c : Change). c.answer) (start_own r v m)

  module _ (m : may_start (current_slot r) ≡ false) where
    other : (j : ℕ) → Qualifies r j → StartsUpTo r j
    other j q = record {
      slot = first_other r;
      is_started = ap (λ (c : Change). c.answer) (start_other r v m) ∙ simp (lt-ltb (first_other r) 4 inside);
      qualifies = found_qualifies r inside;
      not_after = found_first r j q;
    } where
      inside : first_other r < 4
      inside = omega (arith, found_first r j q, in_use_place r j q.in_use)

    none : ((j : ℕ) → Qualifies r j → ⊥) → (start_of r).answer ≡ accepted recovery
    none h = go (ltb (first_other r) 4) refl where
      go : (b : Bool) → ltb (first_other r) 4 ≡ b → (start_of r).answer ≡ accepted recovery
      go true l = absurd (h (first_other r) (found_qualifies r (ltb-true _ _ l)))
      go false l = ap (λ (c : Change). c.answer) (start_other r v m) ∙ simp l

-- which slot Start picks
pub picks : (r : Record) → valid r ≡ true → Picks r
picks r v = record { own = own r v; other = other r v; none = none r v }
