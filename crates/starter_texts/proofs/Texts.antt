-- A text ends at the first zero byte; and what it is for a list to begin with another, in the library's words.
-- Assumes nothing.
use Rattle.std.proofs.Common.{◌≡◌, refl, ℕ, zero, suc, ◌+◌, ◌≤◌, ◌<◌, List, [], ◌∷◌, length, drop, arith}
use Rattle.std.specs.Prelude.{Option, Some, None, eqb, MatchOption}
use Rattle.std.specs.Option.{unwrap_or}
use Rattle.std.specs.List.{AllWithin, HoldsAt, starts_with}
use Rattle.starter_rules.specs.Line.{up_to_zero, begins}
use Rattle.starter_rules.proofs.Texts.{zero_ends, other_goes_on, end-ends}

-- bytes that are not zero belong to the text, and so do those of the text after them
passed : (s : List ℕ) (i : ℕ) → i ≤ length s → AllWithin (λ x. x ≡ 0 → ⊥) s 0 i → length (up_to_zero s) ≡ i + length (up_to_zero (drop i s))
passed s zero h n = omega arith
passed s (suc i) h n =
    let e : i + 1 ≡ suc i = omega arith in
    let goes = other_goes_on s i (omega arith) (n i 0 (omega arith) (omega arith)) in
    omega (arith, passed s i (omega arith) (λ k d l m. n k d l (omega arith)), rw e at goes)

-- so the first zero byte ends it, or the end of the list
pub first_zero : (s : List ℕ) (r : Option ℕ)
    → MatchOption r (AllWithin (λ x. x ≡ 0 → ⊥) s 0 (length s)) (λ i. (i < length s) × HoldsAt (λ x. x ≡ 0) s i × AllWithin (λ x. x ≡ 0 → ⊥) s 0 i)
    → unwrap_or r (length s) ≡ length (up_to_zero s)
first_zero s None m = omega (arith, passed s (length s) (omega arith) m, end-ends s (length s) (omega arith))
first_zero s (Some i) m = omega (arith, passed s i (omega (arith, m.0)) m.2, zero_ends s i m.0 (m.1 0))

-- equality of numbers goes either way round
eqb_either : (x y : ℕ) → eqb x y ≡ eqb y x
eqb_either x y = grind arith

-- a list begins with another
pub begins_as : (word s : List ℕ) → starts_with eqb s word ≡ begins word s
unfolding begins
begins_as [] s = refl
begins_as (w ∷ ws) [] = refl
begins_as (w ∷ ws) (x ∷ s) = rw (eqb_either w x, begins_as ws s)
