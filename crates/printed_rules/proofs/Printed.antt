-- What is printed of an input: its text, of which so many first bytes tell where all longer inputs have one text.
-- Assumes nothing.
use mathlib.Core.Path.{◌≡◌, refl, sym, ap, ◌∙◌}
use mathlib.Core.Bool.{Bool, true, false}
use mathlib.Core.List.{List, [], ◌++◌}
use Prim.Native.Nat.{ℕ, ◌+◌, ◌<◌}
use native.Mathlib.Omega.{arith}
use lib.Dec.{leb}
use lib.ListN.{length, take}
use borrow.Author.Tests.{leb-true, leb-false}
use Rattle.std.proofs.lemmas.List.{take_all, length-take-le}
use Rattle.std.specs.Prelude.{Option, Some, None, Result, Ok, Err, IfSome, OnOk}
use Rattle.std.specs.Io.KnownBytes.{Appends}
use Rattle.std.specs.Option.{option_map}

module _ (f : List ℕ → List ℕ) (m : ℕ) (t : List ℕ) (over : (s : List ℕ) → m < length s → f s ≡ t) where
  -- one byte more than an input may have is enough
  cut : (s : List ℕ) → f (take (m + 1) s) ≡ f s
  cut s = go (leb (length s) (m + 1)) refl
    where
      go : (x : Bool) → leb (length s) (m + 1) ≡ x → f (take (m + 1) s) ≡ f s
      go true e = ap f (take_all (m + 1) s (leb-true (length s) (m + 1) e))
      go false e =
          let long : m + 1 < length s = leb-false (length s) (m + 1) e in
          let part : length (take (m + 1) s) ≡ m + 1 = length-take-le (m + 1) s (omega (arith, long)) in
          over (take (m + 1) s) (omega (arith, part)) ∙ sym (over s (omega (arith, long)))

  -- what was read has the text of the input
  pub read_known : (o : Option (List ℕ)) (n : ℕ) (old items : List ℕ) → n ≡ m + 1 → old ≡ []
      → IfSome (option_map (take n) o) (λ xs. items ≡ old ++ xs) → IfSome o (λ s. f items ≡ f s)
  read_known None n old items l e p = tt
  read_known (Some s) n old items l e p = rw (p, e, l) (cut s)

-- so the text of the input is appended
pub printed : (f : List ℕ → List ℕ) {E : Type 0} (r : Result (Unit {0}) E) (o a b : Option (List ℕ)) (t : List ℕ) → IfSome o (λ s. t ≡ f s)
    → OnOk r (Appends a b t) → OnOk r (IfSome o (λ s. Appends a b (f s)))
printed f (Err e) o a b t h p = tt
printed f (Ok u) None a b t h p = tt
printed f (Ok u) (Some s) a b t h p = rw h at p
