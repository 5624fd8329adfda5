-- Laws of texts up to a zero byte, of texts in fields, and of lists that begin with others.
-- Assumes nothing.
use mathlib.Core.Path.{◌≡◌, refl, sym, ap, ◌∙◌}
use mathlib.Core.Bool.{Bool, true, false, cond}
use mathlib.Core.List.{List, [], ◌∷◌}
use Prim.Native.Nat.{ℕ, zero, suc, ◌+◌, ◌-◌, ◌≤◌, ◌<◌, min}
use native.Mathlib.Nat.{zero-min, min-zero, suc-min-suc}
use native.Mathlib.Omega.{arith}
use lib.Dec.{eqb}
use lib.ListN.{length, get_or, take, drop, length-drop, drop_of_length-le}
use lib.Seq.{take-nil, drop-cons}
use borrow.Author.Tests.{eq-eqb, ne_eqb}
use Rattle.boot_rules.specs.declared.Field.{Field}
use Rattle.starter_rules.specs.Line.{up_to_zero, text_in}

-- from a place on: a zero byte ends the text, any other belongs to it, and so does the end of the list
module _ (s : List ℕ) (i : ℕ) where
  pub zero_ends : i < length s → get_or s i 0 ≡ 0 → length (up_to_zero (drop i s)) ≡ 0
  unfolding up_to_zero
  zero_ends h e = rw (drop-cons s i 0 h, eq-eqb (get_or s i 0) 0 e)

  pub other_goes_on : i < length s → (get_or s i 0 ≡ 0 → ⊥) → length (up_to_zero (drop i s)) ≡ suc (length (up_to_zero (drop (i + 1) s)))
  unfolding up_to_zero
  other_goes_on h e = let next : i + 1 ≡ suc i = omega arith in rw (next, drop-cons s i 0 h, ne_eqb (get_or s i 0) 0 e)

  pub end-ends : length s ≤ i → length (up_to_zero (drop i s)) ≡ 0
  unfolding up_to_zero
  end-ends h = rw (drop_of_length-le s h)

-- the text is the front of the list, as long as it is
front_step : (b : Bool) (x : ℕ) (xs l : List ℕ) → take (length l) xs ≡ l → take (length (cond b [] (x ∷ l))) (x ∷ xs) ≡ cond b [] (x ∷ l)
front_step true x xs l e = refl
front_step false x xs l e = ap (λ (t : List ℕ). x ∷ t) e

front : (s : List ℕ) → take (length (up_to_zero s)) s ≡ up_to_zero s
unfolding up_to_zero
front [] = refl
front (x ∷ xs) = front_step (eqb x 0) x xs (up_to_zero xs) (front xs)

-- so many bytes of the list as the text has
pub front_length : (s : List ℕ) (k : ℕ) → k ≡ length (up_to_zero s) → k ≡ length (take k s)
front_length s k e = e ∙ ap length (sym (front s)) ∙ ap (λ (m : ℕ). length (take m s)) (sym e)

-- of a list as much as there is, of so much
take_least : (xs : List ℕ) (w : ℕ) → take (min w (length xs)) xs ≡ take w xs
take_least xs zero = rw zero-min
take_least [] (suc w) = rw min-zero
take_least (x ∷ xs) (suc w) = rw suc-min-suc (ap (λ (l : List ℕ). x ∷ l) (take_least xs w))

-- a field that begins past the end has no text
pub text_past : (s : List ℕ) (f : Field) → length s ≤ f.at → text_in s f ≡ []
unfolding text_in up_to_zero
text_past s f h = rw (drop_of_length-le s h, take-nil f.width)

-- nor has one without bytes
pub text_none : (s : List ℕ) (f : Field) → f.width ≡ 0 → text_in s f ≡ []
unfolding text_in up_to_zero
text_none s f e = rw e

-- the text of a field, of which the list has n bytes
pub text_there : (s : List ℕ) (f : Field) (n k : ℕ) → n ≡ min f.width (length s - f.at)
    → k ≡ length (up_to_zero (take (f.at + n - f.at) (drop f.at s))) → take k (take (f.at + n - f.at) (drop f.at s)) ≡ text_in s f
unfolding text_in
text_there s f n k e h =
    let d : List ℕ = drop f.at s in
    let m : f.at + n - f.at ≡ min f.width (length d) = omega (arith, e, length-drop f.at s) in
    ap (λ (j : ℕ). take j (take (f.at + n - f.at) d)) h
    ∙ front (take (f.at + n - f.at) d)
    ∙ ap up_to_zero (ap (λ (j : ℕ). take j d) m ∙ take_least d f.width)
