-- Whether a test holds of some section of a list: by what `any` answers. Assumes nothing.
use mathlib.Core.Path.{◌≡◌, refl}
use mathlib.Core.Bool.{Bool, true, false, ◌||◌}
use mathlib.Core.List.{List, [], ◌∷◌}
use Prim.Native.Nat.{ℕ, zero, suc, ◌<◌}
use native.Mathlib.Nat.{not-suc-le-zero, le_of_suc-le-suc}
use native.Mathlib.Omega.{arith}
use lib.ListN.{get_or, length}
use Rattle.std.specs.Prelude.{Option}
use Rattle.std.specs.Bool.{MatchBool}
use Rattle.std.specs.List.{AllWithin, HoldsAt}
use Rattle.boot_rules.specs.declared.Section.{Section}
use Rattle.boot_rules.specs.Sections.{no_section, any_of}

later : (b c : Bool) → true ≡ c → true ≡ (b || c)
later true c e = refl
later false c e = e

module _ (f : Option Section → Bool) where
  holds_somewhere : (xs : List (Option Section)) (k : ℕ) → k < length xs → f (get_or xs k no_section) ≡ true → true ≡ any_of f xs
  holds_somewhere [] k l h = absurd (not-suc-le-zero l)
  holds_somewhere (x ∷ xs) zero l h = rw h
  holds_somewhere (x ∷ xs) (suc k) l h = later (f x) (any_of f xs) (holds_somewhere xs k (le_of_suc-le-suc l) h)

  holds_nowhere : (xs : List (Option Section)) → ((k : ℕ) → k < length xs → f (get_or xs k no_section) ≡ false) → false ≡ any_of f xs
  holds_nowhere [] h = refl
  holds_nowhere (x ∷ xs) h = let e : f x ≡ false = h 0 (omega arith) in rw e (holds_nowhere xs (λ k l. h (suc k) (let m : suc k < suc (length xs) = omega arith in m)))

  pub any_answer : (xs : List (Option Section)) (r : Bool) → MatchBool r ((k : ℕ) × (k < length xs) × HoldsAt (λ x. f x ≡ true) xs k) (AllWithin (λ x. f x ≡ false) xs 0 (length xs)) → r ≡ any_of f xs
  any_answer xs true h = holds_somewhere xs h.0 h.1 (h.2 no_section)
  any_answer xs false h = holds_nowhere xs (λ k l. h k no_section (omega arith) l)
