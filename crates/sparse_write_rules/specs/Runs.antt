-- The longest runs of equal elements in a list, by a test of equality.
-- Assumes nothing.
use Rattle.std.specs.Prelude.{◌≡◌, Bool, true, cond, List, [], ◌∷◌, ◌++◌, ℕ, zero, suc, ◌<◌, replicate}

-- a test that holds of two elements exactly where they are equal
pub record Tells {A : Type 0} (same : A → A → Bool) : Type 0 where
  pub sound : (x y : A) → same x y ≡ true → x ≡ y
  pub complete : (x y : A) → x ≡ y → same x y ≡ true

-- a run: the element, and how many times it stands there
pub record Run (A : Type 0) : Type 0 where
  pub kind : A
  pub many : ℕ

-- one more in front of runs: it joins the first of them where the two are the same
abbrev pub in_front : {A : Type 0} → (A → A → Bool) → A → List (Run A) → List (Run A)
in_front same k [] = record { kind = k; many = 1 } ∷ []
in_front same k (r ∷ rs) =
    cond (same k r.kind) (record { kind = k; many = suc r.many } ∷ rs) (record { kind = k; many = 1 } ∷ r ∷ rs)

-- "Runs are as long as they can be"
unfoldable pub runs : {A : Type 0} → (A → A → Bool) → List A → List (Run A)
runs same [] = []
runs same (k ∷ ks) = in_front same k (runs same ks)

-- the runs of so many equal elements alone: one, or none where there are none
abbrev pub closed : {A : Type 0} → A → ℕ → List (Run A)
closed k zero = []
closed k (suc n) = record { kind = k; many = suc n } ∷ []

-- the elements that runs stand for
unfoldable pub spread : {A : Type 0} → List (Run A) → List A
spread [] = []
spread (r ∷ rs) = replicate r.many r.kind ++ spread rs

-- runs that are as long as they can be: none is empty, and no two neighbours could be one
pub data Longest {A : Type 0} : List (Run A) → Type 0 where
  nothing : Longest []
  single : {r : Run A} → 0 < r.many → Longest (r ∷ [])
  next : {r s : Run A} {rs : List (Run A)} → 0 < r.many → (r.kind ≡ s.kind → ⊥) → Longest (s ∷ rs) → Longest (r ∷ s ∷ rs)
