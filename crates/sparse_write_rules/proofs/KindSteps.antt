-- The kind of a stored block, word by word.
-- Assumes nothing.
use mathlib.Core.Path.{◌≡◌, refl, ap}
use mathlib.Core.Bool.{Bool, true, false, ◌&&◌}
use mathlib.Core.List.{List}
use Prim.Native.Nat.{ℕ, suc, ◌+◌, ◌/◌}
use borrow.Author.Tests.{eq-eqb, ne_eqb}
use Rattle.fields_rules.specs.Number.{number_at}
use Rattle.sparse_write_rules.specs.Kinds.{raw, fill, all_equal, stored_kind}

-- of no words, all are equal
pub equal_none : (s : List ℕ) (w i : ℕ) → all_equal s w 0 i ≡ true
unfolding all_equal
equal_none s w i = refl

-- a word that is w is passed
pub equal_next : (s : List ℕ) (w k i : ℕ) → number_at s i 4 ≡ w → all_equal s w (suc k) i ≡ all_equal s w k (i + 4)
unfolding all_equal
equal_next s w k i e = ap (λ (b : Bool). b && all_equal s w k (i + 4)) (eq-eqb (number_at s i 4) w e)

-- one that differs decides
pub equal_differs : (s : List ℕ) (w k i : ℕ) → (number_at s i 4 ≡ w → ⊥) → all_equal s w (suc k) i ≡ false
unfolding all_equal
equal_differs s w k i e = ap (λ (b : Bool). b && all_equal s w k (i + 4)) (ne_eqb (number_at s i 4) w e)

module _ (s : List ℕ) (b at w : ℕ) (e : w ≡ number_at s at 4) where
  -- a block with a word that differs is raw
  pub kind_raw : all_equal s w (b / 4) at ≡ false → stored_kind s b at ≡ raw
  unfolding stored_kind
  kind_raw f = rw (← e, f)

  -- a block with none is fill
  pub kind_fill : all_equal s w (b / 4) at ≡ true → stored_kind s b at ≡ fill w
  unfolding stored_kind
  kind_fill f = rw (← e, f)
