-- The runs of a list: they stand for it, are as long as they can be, and are no more than it has elements.
-- Assumes nothing.
use mathlib.Core.Path.{◌≡◌, refl, sym, ap, ◌∙◌}
use mathlib.Core.Bool.{Bool, true, false, cond}
use mathlib.Core.List.{List, [], ◌∷◌, ◌++◌}
use Prim.Native.Nat.{ℕ, zero, suc, ◌+◌, ◌-◌, ◌*◌, ◌≤◌, ◌<◌}
use native.Mathlib.Nat.{zero-lt-suc, not-suc-le-zero, suc-mul, add-mul}
use native.Mathlib.Omega.{arith}
use lib.Dec.{eqb}
use lib.ListN.{length, replicate, length-append, length-replicate}
use borrow.Author.Tests.{eq-eqb, eqb-true}
use Rattle.sparse_write_rules.specs.Runs.{Tells, Run, in_front, runs, closed, spread, Longest, nothing, single, next}
use Rattle.sparse_write_rules.specs.Kinds.{BlockKind, kept, raw, fill, same_kind}
use Rattle.sparse_write_rules.specs.Theorems.{Grouped}

-- ---- tests of equality

-- numbers are told apart
pub tells_numbers : Tells eqb
tells_numbers = record { sound = eqb-true; complete = eq-eqb }

same_sound : (x y : BlockKind) → same_kind x y ≡ true → x ≡ y
same_sound kept kept e = refl
same_sound kept raw e = cc
same_sound kept (fill w) e = cc
same_sound raw kept e = cc
same_sound raw raw e = refl
same_sound raw (fill w) e = cc
same_sound (fill v) kept e = cc
same_sound (fill v) raw e = cc
same_sound (fill v) (fill w) e = ap fill (tells_numbers.sound v w e)

same_complete : (x y : BlockKind) → x ≡ y → same_kind x y ≡ true
same_complete kept y e = rw (← e)
same_complete raw y e = rw (← e)
same_complete (fill v) y e = rw (← e) (tells_numbers.complete v v refl)

-- and so are kinds
pub tells_kinds : Tells same_kind
tells_kinds = record { sound = same_sound; complete = same_complete }

-- a run of so many
abbrev pub of : {A : Type 0} → A → ℕ → Run A
of k n = record { kind = k; many = n }

-- runs that begin with one of so many at least
pub record Begins {A : Type 0} (k : A) (n : ℕ) (rs : List (Run A)) : Type 0 where
  pub many : ℕ
  pub least : n ≤ many
  pub rest : List (Run A)
  pub is : rs ≡ of k many ∷ rest

module _ {A : Type 0} (same : A → A → Bool) (tells : Tells same) where
  -- a test that fails tells two elements apart
  pub apart : (x y : A) → same x y ≡ false → x ≡ y → ⊥
  apart x y e q = let z : ◌≡◌ {A = ℕ} 0 1 = cc (tells.complete x y q) in omega arith

  -- and elements that differ fail it
  pub differ : (x y : A) → (x ≡ y → ⊥) → same x y ≡ false
  differ x y d = go (same x y) refl
    where
      go : (t : Bool) → same x y ≡ t → t ≡ false
      go true e = absurd (d (tells.sound x y e))
      go false e = refl

  longest_front : (k : A) (rs : List (Run A)) → Longest rs → Longest (in_front same k rs)
  longest_front k [] nothing = single (zero-lt-suc 0)
  longest_front k (r ∷ []) (single h) = go (same k r.kind) refl
    where
      go : (x : Bool) → same k r.kind ≡ x → Longest (cond x (of k (suc r.many) ∷ []) (of k 1 ∷ r ∷ []))
      go true e = single (zero-lt-suc r.many)
      go false e = next (zero-lt-suc 0) (apart k r.kind e) (single h)
  longest_front k (r ∷ s ∷ rs) (next h d l) = go (same k r.kind) refl
    where
      go : (x : Bool) → same k r.kind ≡ x → Longest (cond x (of k (suc r.many) ∷ s ∷ rs) (of k 1 ∷ r ∷ s ∷ rs))
      go true e = next (zero-lt-suc r.many) (λ q. d (sym (tells.sound k r.kind e) ∙ q)) l
      go false e = next (zero-lt-suc 0) (apart k r.kind e) (next h d l)

  -- the runs are as long as they can be
  pub longest : (ks : List A) → Longest (runs same ks)
  unfolding runs
  longest [] = nothing
  longest (k ∷ ks) = longest_front k (runs same ks) (longest ks)

  spread_front : (k : A) (rs : List (Run A)) → spread (in_front same k rs) ≡ k ∷ spread rs
  unfolding spread
  spread_front k [] = refl
  spread_front k (r ∷ rs) = go (same k r.kind) refl
    where
      go : (x : Bool) → same k r.kind ≡ x → spread (cond x (of k (suc r.many) ∷ rs) (of k 1 ∷ r ∷ rs)) ≡ k ∷ spread (r ∷ rs)
      go true e = rw (tells.sound k r.kind e)
      go false e = refl

  -- and cover the list, in order
  pub spread_runs : (ks : List A) → spread (runs same ks) ≡ ks
  unfolding runs spread
  spread_runs [] = refl
  spread_runs (k ∷ ks) = spread_front k (runs same ks) ∙ ap (λ (r : List A). k ∷ r) (spread_runs ks)

  -- one more of the first run's kind lengthens it
  pub front_same : (k : A) (n : ℕ) (rs : List (Run A)) → in_front same k (of k n ∷ rs) ≡ of k (suc n) ∷ rs
  front_same k n rs = rw (tells.complete k k refl)

  -- one of another kind begins a run
  pub front_other : (k j : A) (rs : List (Run A)) → (k ≡ j → ⊥) → in_front same k (in_front same j rs) ≡ of k 1 ∷ in_front same j rs
  front_other k j [] d = rw (differ k j d)
  front_other k j (r ∷ rs) d = go (same j r.kind)
    where
      go : (x : Bool) → in_front same k (cond x (of j (suc r.many) ∷ rs) (of j 1 ∷ r ∷ rs)) ≡ of k 1 ∷ cond x (of j (suc r.many) ∷ rs) (of j 1 ∷ r ∷ rs)
      go true = rw (differ k j d)
      go false = rw (differ k j d)

  grows : (k : A) (n : ℕ) (r : List A) → in_front same k (runs same r) ≡ of k 1 ∷ runs same r → runs same (replicate (suc n) k ++ r) ≡ of k (suc n) ∷ runs same r
  unfolding runs
  grows k zero r e = e
  grows k (suc n) r e = ap (in_front same k) (grows k n r e) ∙ front_same k (suc n) (runs same r)

  -- the last ones
  pub closed_last : (k : A) (n : ℕ) → runs same (replicate n k ++ []) ≡ closed k n
  unfolding runs
  closed_last k zero = refl
  closed_last k (suc n) = grows k n [] refl

  -- those before some of another kind
  pub closed_before : (k j : A) (n m : ℕ) (r : List A) → 0 < m → (k ≡ j → ⊥)
      → runs same (replicate n k ++ (replicate m j ++ r)) ≡ closed k n ++ runs same (replicate m j ++ r)
  unfolding runs
  closed_before k j n zero r h d = absurd (not-suc-le-zero h)
  closed_before k j zero (suc m) r h d = refl
  closed_before k j (suc n) (suc m) r h d = grows k n (j ∷ replicate m j ++ r) (front_other k j (runs same (replicate m j ++ r)) d)

  begins_front : (k : A) (rs : List (Run A)) → Begins k 1 (in_front same k rs)
  begins_front k [] = record { many = 1; least = omega arith; rest = []; is = refl }
  begins_front k (r ∷ rs) = go (same k r.kind)
    where
      go : (x : Bool) → Begins k 1 (cond x (of k (suc r.many) ∷ rs) (of k 1 ∷ r ∷ rs))
      go true = record { many = suc r.many; least = omega arith; rest = rs; is = refl }
      go false = record { many = 1; least = omega arith; rest = r ∷ rs; is = refl }

  -- as do those of some equal elements and others after them
  pub begins : (k : A) (n : ℕ) (ks : List A) → Begins k (suc n) (runs same (replicate (suc n) k ++ ks))
  unfolding runs
  begins k zero ks = begins_front k (runs same ks)
  begins k (suc n) ks =
      let b = begins k n ks in
      record { many = suc b.many; least = omega (arith, b.least); rest = b.rest; is = ap (in_front same k) b.is ∙ front_same k b.many b.rest }

-- what holds of the runs of a list
pub grouped : Grouped
grouped = record { cover = λ same tells ks. spread_runs same tells ks; longest = λ same tells ks. longest same tells ks }

-- ---- counts, and what holds of each

module _ {A : Type 0} where
  -- there are no more runs than elements
  pub count_runs : (same : A → A → Bool) (ks : List A) → length (runs same ks) ≤ length ks
  unfolding runs
  count_runs same [] = omega arith
  count_runs same (k ∷ ks) = go (runs same ks) (count_runs same ks)
    where
      go : (rs : List (Run A)) → length rs ≤ length ks → length (in_front same k rs) ≤ suc (length ks)
      go [] h = omega arith
      go (r ∷ rs) h = by (same k r.kind)
        where
          by : (x : Bool) → length (cond x (of k (suc r.many) ∷ rs) (of k 1 ∷ r ∷ rs)) ≤ suc (length ks)
          by true = omega arith
          by false = omega arith

  -- the elements of runs, counted
  abbrev pub counted : List (Run A) → ℕ
  counted [] = 0
  counted (r ∷ rs) = r.many + counted rs

  -- are as many as they stand for
  pub counted_spread : (rs : List (Run A)) → counted rs ≡ length (spread rs)
  unfolding spread
  counted_spread [] = refl
  counted_spread (r ∷ rs) = simp (length-append, length-replicate) (omega (arith, counted_spread rs))

  -- what holds of every element of a list
  abbrev pub All : (A → Type 0) → List A → Type 0
  All P [] = Unit {0}
  All P (k ∷ ks) = P k × All P ks

  -- and of the element of every run
  abbrev pub AllRuns : (A → Type 0) → List (Run A) → Type 0
  AllRuns P [] = Unit {0}
  AllRuns P (r ∷ rs) = P r.kind × AllRuns P rs

  all_front : (same : A → A → Bool) (P : A → Type 0) (k : A) → P k → (rs : List (Run A)) → AllRuns P rs → AllRuns P (in_front same k rs)
  all_front same P k p [] h = (p, tt)
  all_front same P k p (r ∷ rs) h = go (same k r.kind)
    where
      go : (x : Bool) → AllRuns P (cond x (of k (suc r.many) ∷ rs) (of k 1 ∷ r ∷ rs))
      go true = (p, h.1)
      go false = (p, h)

  -- what holds of every element of a list holds of its runs
  pub all_runs : (same : A → A → Bool) (P : A → Type 0) (ks : List A) → All P ks → AllRuns P (runs same ks)
  unfolding runs
  all_runs same P [] h = tt
  all_runs same P (k ∷ ks) h = all_front same P k h.0 (runs same ks) (all_runs same P ks h.1)

-- ---- blocks and bytes

-- a run has a block at least
pub at_least : (k b : ℕ) → 0 < k → b ≤ k * b
at_least zero b h = absurd (not-suc-le-zero h)
at_least (suc k) b h = omega (arith, suc-mul k b)

-- there are no more blocks than bytes
pub blocks_small : (k b : ℕ) → 4 ≤ b → k ≤ k * b
blocks_small zero b h = omega arith
blocks_small (suc k) b h = omega (arith, suc-mul k b, blocks_small k b h)

-- some blocks, and those after them
pub split_blocks : (n k b : ℕ) → k ≤ n → k * b + (n - k) * b ≡ n * b
split_blocks n k b h = let e : k + (n - k) ≡ n = omega arith in sym (add-mul k (n - k) b) ∙ rw e

-- one block, and those after it
pub one_less : (n b : ℕ) → 0 < n → b + (n - 1) * b ≡ n * b
one_less n b h = omega (arith, split_blocks n 1 b h)
