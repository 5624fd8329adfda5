-- The exits of the calls.
-- Assumes nothing.
use mathlib.Core.Path.{◌≡◌, refl, sym, ◌∙◌}
use mathlib.Core.Bool.{Bool, true, false, cond}
use mathlib.Core.List.{List}
use Prim.Native.Nat.{ℕ, zero, suc, ◌+◌, ◌-◌, ◌≤◌, ◌<◌}
use native.Mathlib.Omega.{arith}
use lib.Dec.{ltb, eqb}
use lib.ListN.{length}
use borrow.Author.Tests.{ltb-true, ltb-false, lt-ltb, le-ltb, eq-eqb, ne_eqb}
use Rattle.rules.specs.First.{first}
use Rattle.rules.specs.Answer.{accepted, refused}
use Rattle.sparse_stream_rules.specs.declared.Pass.{Pass}
use Rattle.sparse_stream_rules.specs.State.{stop_or}
use Rattle.sparse_stream_rules.specs.Steps.{header_number, opened}
use Rattle.sparse_stream_rules.specs.States.{called, leaves, piece_tests, lent_tests, finish_tests, lent_finish_tests, answer_now}

-- more bytes have come than announced
pub over_past : (len came n : ℕ) → len < came → true ≡ ltb len (came + n)
over_past len came n h = sym (lt-ltb len (came + n) (omega arith))

-- the sum, without adding
pub over_more : (len came n : ℕ) → came ≤ len → ltb (len - came) n ≡ ltb len (came + n)
over_more len came n h = go (ltb len (came + n)) refl
  where
    go : (y : Bool) → ltb len (came + n) ≡ y → ltb (len - came) n ≡ ltb len (came + n)
    go true e = let q = ltb-true len (came + n) e in rw (e, lt-ltb (len - came) n (omega arith))
    go false e = let q = ltb-false len (came + n) e in rw (e, le-ltb (len - came) n (omega arith))

module _ (ts : List (Bool × ℕ)) (x : Pass) where
  pub called_again : (y : Pass) → 0 < x.refusal.number → x ≡ called ts x y
  unfolding called
  called_again y h = rw (lt-ltb _ _ h)

  -- and the partition stays
  pub leaves_again : (p q : List ℕ) → 0 < x.refusal.number → p ≡ leaves ts x p q
  unfolding leaves
  leaves_again p q h = rw (lt-ltb _ _ h)

  module _ (z : x.refusal.number ≤ 0) where
    pub called_refused : (r y : Pass) (n : ℕ) → first ts ≡ suc n → r ≡ stop_or (suc n) 0 x x → r ≡ called ts x y
    unfolding called
    called_refused r y n e f = f ∙ rw (le-ltb _ _ z, e)

    pub called_on : (r y : Pass) → first ts ≡ 0 → r ≡ y → r ≡ called ts x y
    unfolding called
    called_on r y e f = f ∙ rw (le-ltb _ _ z, e)

    pub leaves_refused : (p q : List ℕ) (n : ℕ) → first ts ≡ suc n → p ≡ leaves ts x p q
    unfolding leaves
    leaves_refused p q n e = rw (le-ltb _ _ z, e, lt-ltb 0 (suc n) (omega arith))

    pub leaves_on : (p q r : List ℕ) → first ts ≡ 0 → r ≡ q → r ≡ leaves ts x p q
    unfolding leaves
    leaves_on p q r e f = f ∙ rw (le-ltb _ _ z, e)

-- the tests of the calls
module _ (x : Pass) (n : ℕ) (r : Bool) (e : r ≡ ltb x.told.length (x.come.bytes + n)) where
  pub piece_over : r ≡ true → first (piece_tests x n) ≡ 14
  piece_over f = let q : ltb x.told.length (x.come.bytes + n) ≡ true = sym e ∙ f in rw q

  -- no test applies to a piece that fits
  pub piece_fits : r ≡ false → first (piece_tests x n) ≡ 0
  piece_fits f = let q : ltb x.told.length (x.come.bytes + n) ≡ false = sym e ∙ f in rw q

  -- 14, where the partition is lent as announced
  pub lent_over : (lent : ℕ) → lent ≡ x.told.room → r ≡ true → first (lent_tests x lent n) ≡ 14
  lent_over lent l f = let q : ltb x.told.length (x.come.bytes + n) ≡ true = sym e ∙ f in rw (eq-eqb _ _ l, q)

  -- none applies
  pub lent_fits : (lent : ℕ) → lent ≡ x.told.room → r ≡ false → first (lent_tests x lent n) ≡ 0
  lent_fits lent l f = let q : ltb x.told.length (x.come.bytes + n) ≡ false = sym e ∙ f in rw (eq-eqb _ _ l, q)

  -- a piece that fits does so after the first test too
  pub over_room : r ≡ false → (y : Pass) → y ≡ opened x → y.come.bytes + n ≤ y.told.length
  unfolding opened
  over_room f y g = rw g (go (cond (eqb x.come.bytes 0) (header_number x.kept.file 0 x.told.length x.told.room) 0))
    where
      q : ltb x.told.length (x.come.bytes + n) ≡ false
      q = sym e ∙ f

      go : (k : ℕ) → (stop_or k 0 x x).come.bytes + n ≤ (stop_or k 0 x x).told.length
      go zero = ltb-false x.told.length (x.come.bytes + n) q
      go (suc k) = ltb-false x.told.length (x.come.bytes + n) q

-- 16 comes first
pub lent_other : (x : Pass) (lent n : ℕ) → (lent ≡ x.told.room → ⊥) → first (lent_tests x lent n) ≡ 16
lent_other x lent n h = rw (ne_eqb _ _ h)

-- 15
pub end_short : (x : Pass) → x.come.bytes < x.told.length → first (finish_tests x) ≡ 15
end_short x h = rw (lt-ltb _ _ h)

-- all has come
pub end_fits : (x : Pass) → x.told.length ≤ x.come.bytes → first (finish_tests x) ≡ 0
end_fits x h = rw (le-ltb _ _ h)

module _ (x : Pass) (lent : ℕ) where
  pub lent_end_other : (lent ≡ x.told.room → ⊥) → first (lent_finish_tests x lent) ≡ 16
  lent_end_other h = rw (ne_eqb _ _ h)

  -- lent as announced, the call that finishes goes by the other test alone
  pub lent_end_same : lent ≡ x.told.room → (y : Pass) → called (finish_tests x) x y ≡ called (lent_finish_tests x lent) x y
  unfolding called
  lent_end_same l y = rw (eq-eqb _ _ l)

-- a refused state's answer
pub answer_refused : (x : Pass) → 0 < x.refusal.number → refused x.refusal.number x.refusal.place ≡ answer_now x
unfolding answer_now
answer_refused x h = rw (lt-ltb _ _ h)

-- and that of any other
pub answer_counts : (x : Pass) → x.refusal.number ≤ 0 → accepted x.walk.counts ≡ answer_now x
unfolding answer_now
answer_counts x h = rw (le-ltb _ _ h)
