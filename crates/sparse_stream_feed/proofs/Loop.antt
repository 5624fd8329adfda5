-- The loop over a piece: what is left of the piece gives the same result.
-- Assumes nothing.
use mathlib.Core.Path.{◌≡◌, refl, sym, ap, ap₂, ◌∙◌}
use mathlib.Core.Bool.{Bool, true, false}
use mathlib.Core.List.{List, [], ◌∷◌, ◌++◌}
use Prim.Native.Nat.{ℕ, ◌+◌, ◌-◌, ◌≤◌, ◌<◌}
use native.Mathlib.Omega.{arith}
use lib.Dec.{eqb}
use lib.ListN.{length, take, drop, length-drop, take-append-drop}
use lib.Seq.{length-take-le}
use borrow.Author.Tests.{eqb-true, eqb-false}
use Rattle.sparse_stream_rules.specs.declared.Told.{Told}
use Rattle.sparse_stream_rules.specs.declared.Pass.{Pass}
use Rattle.sparse_stream_rules.specs.State.{stuck}
use Rattle.sparse_stream_rules.specs.Steps.{fed}
use Rattle.sparse_stream_rules.specs.Laid.{stores}
use Rattle.sparse_stream_rules.proofs.Stretches.{fed_append, fed_stuck, stores_append, stores_stuck}
use Rattle.sparse_stream_rules.proofs.Taken.{fed_came, stores_length}
use Rattle.sparse_stream_lay.specs.Laid.{stretch_laid}
use Rattle.sparse_stream_feed.specs.Stretch.{stretch, Turn}
use Rattle.sparse_stream_feed.proofs.Turns.{sized, again, turn_lays}

-- what is left of the piece, fed to the state that the loop has, gives what the piece does
pub record Going (x₀ : Pass) (piece p₀ p : List ℕ) (y : Pass) (left : List ℕ) : Type 0 where
  pub size : length p ≡ length p₀
  pub fits : y.come.bytes + length left ≤ y.told.length
  pub state : fed x₀ piece ≡ fed y left
  pub bytes : stores x₀ piece p₀ ≡ stores y left p

-- before the first turn
pub going_start : (x : Pass) (piece p : List ℕ) → x.come.bytes + length piece ≤ x.told.length → Going x piece p p x piece
going_start x piece p h = record { size = refl; fits = h; state = refl; bytes = refl }

module _ (x₀ : Pass) (piece p₀ p : List ℕ) (y : Pass) (left : List ℕ) (g : Going x₀ piece p₀ p y left) where
  module _ (m : ℕ) (q : m ≡ stretch y (length left)) (some : 0 < length left) where
    -- the next turn takes some bytes, and no more than there are
    pub going_less : (0 < m) × (m ≤ length left)
    going_less = rw q (sized y (length left) some)

    -- so many
    pub going_size : length (take m left) ≡ m
    going_size = length-take-le m left going_less.1

    -- it is what a turn wants
    pub going_turn : (r : Bool) → r ≡ stuck y → r ≡ false → Turn y (take m left)
    going_turn r e f = record {
      free = sym e ∙ f;
      some = omega (arith, going_size, going_less.0);
      size = going_size ∙ q ∙ sym (again y (length left) some) ∙ ap (stretch y) (sym (going_size ∙ q));
    }

    -- it does not pass the announced length
    pub going_fits : y.come.bytes + length (take m left) ≤ y.told.length
    going_fits = omega (arith, g.fits, going_size, going_less.1)

    -- the loop goes on with what the turn leaves
    pub going_on : (z : Pass) (w : List ℕ) → Turn y (take m left) → z ≡ fed y (take m left) → w ≡ stretch_laid y (take m left) p
        → Going x₀ piece p₀ w z (drop m left)
    going_on z w t ez el =
        let eq : w ≡ stores y (take m left) p = el ∙ turn_lays y (take m left) t p in
        let c = fed_came y (take m left) in
        let parts : left ≡ take m left ++ drop m left = sym (take-append-drop m left) in
        let rest : length (drop m left) ≡ length left - m = length-drop m left in
        record {
          size = ap length eq ∙ stores_length y (take m left) p ∙ g.size;
          fits = rw ez (omega (arith, c.0, ap (λ (k : Told). k.length) c.1, going_size, going_less.1, rest, g.fits));
          state = g.state ∙ ap (fed y) parts ∙ fed_append y (take m left) (drop m left) ∙ ap (λ (k : Pass). fed k (drop m left)) (sym ez);
          bytes = g.bytes ∙ ap (λ (r : List ℕ). stores y r p) parts ∙ stores_append y (take m left) (drop m left) p ∙ ap₂ (λ (k : Pass) (r : List ℕ). stores k (drop m left) r) (sym ez) (sym eq);
        }

  -- the loop goes on while there is something left
  pub going_some : (r : Bool) → r ≡ eqb (length left) 0 → r ≡ false → 0 < length left
  going_some r e f = let h = eqb-false (length left) 0 (sym e ∙ f) in omega arith

  -- the loop is left where the state takes no more bytes
  pub going_stuck : (r : Bool) → r ≡ stuck y → r ≡ true → (y ≡ fed x₀ piece) × (p ≡ stores x₀ piece p₀)
  going_stuck r e f =
      let s : stuck y ≡ true = sym e ∙ f in
      (sym (g.state ∙ fed_stuck y left s), sym (g.bytes ∙ stores_stuck y left p s))

  -- or at the end of the piece
  pub going_done : (r : Bool) → r ≡ eqb (length left) 0 → r ≡ true → (y ≡ fed x₀ piece) × (p ≡ stores x₀ piece p₀)
  unfolding fed stores
  going_done r t f =
      let e : left ≡ [] = empty left (eqb-true (length left) 0 (sym t ∙ f)) in
      (sym (g.state ∙ ap (fed y) e), sym (g.bytes ∙ ap (λ (r : List ℕ). stores y r p) e))
    where
      empty : (xs : List ℕ) → length xs ≡ 0 → xs ≡ []
      empty [] e = refl
      empty (x ∷ xs) e = absurd (omega arith)
