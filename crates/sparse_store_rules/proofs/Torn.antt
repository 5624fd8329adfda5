-- Laws of cells that are cut.
-- Assumes nothing.
use mathlib.Core.Path.{◌≡◌, refl, sym, ap, ◌∙◌}
use mathlib.Core.Option.{Option, none, some}
use mathlib.Core.List.{List, [], ◌∷◌, ◌++◌, map}
use Prim.Native.Nat.{ℕ, zero, suc, ◌+◌, ◌-◌, min, ◌≤◌, ◌<◌}
use native.Mathlib.Nat.{le_of_suc-le-suc, not-suc-le-zero, zero-add, suc-add, sub-zero, zero-sub, suc-sub-suc, min-zero, zero-min, suc-min-suc}
use native.Mathlib.Omega.{arith}
use lib.ListN.{length, get_or, take, replicate, length-replicate}
use Rattle.sparse_rules.specs.Cells.{count}
use Rattle.sparse_store_rules.specs.Store.{over, torn}
use Rattle.sparse_store_rules.proofs.Over.{over_nil}

-- a cut stores nowhere else
pub torn_none : (k : ℕ) (js : List ℕ) (cs : List (Option ℕ)) (i : ℕ) → get_or cs i none ≡ none → get_or (torn k js cs) i none ≡ none
torn_none k js [] i e = refl
torn_none k js (none ∷ cs) zero e = refl
torn_none k js (none ∷ cs) (suc i) e = torn_none k js cs i e
torn_none (suc k) js (some b ∷ cs) zero e = e
torn_none (suc k) js (some b ∷ cs) (suc i) e = torn_none k js cs i e
torn_none zero (j ∷ js) (some b ∷ cs) zero e = cc
torn_none zero (j ∷ js) (some b ∷ cs) (suc i) e = torn_none zero js cs i e
torn_none zero [] (some b ∷ cs) zero e = refl
torn_none zero [] (some b ∷ cs) (suc i) e = torn_none zero [] cs i e

-- a cell with fewer than k stored ones before it is new
pub torn_new : (k : ℕ) (js : List ℕ) (cs : List (Option ℕ)) (i : ℕ) → count (take i cs) < k → get_or (torn k js cs) i none ≡ get_or cs i none
torn_new k js [] i h = refl
torn_new k js (none ∷ cs) zero h = refl
torn_new k js (none ∷ cs) (suc i) h = torn_new k js cs i h
torn_new (suc k) js (some b ∷ cs) zero h = refl
torn_new (suc k) js (some b ∷ cs) (suc i) h = torn_new k js cs i (le_of_suc-le-suc h)
torn_new zero js (some b ∷ cs) i h = absurd (not-suc-le-zero h)

-- a stored cell with k or more before it holds what js has for it
pub torn_next : (k : ℕ) (js : List ℕ) (cs : List (Option ℕ)) (i v : ℕ) → k ≤ count (take i cs) → get_or cs i none ≡ some v
    → get_or (torn k js cs) i none ≡ get_or (map some js) (count (take i cs) - k) none
torn_next k js [] i v h e = cc
torn_next k js (none ∷ cs) zero v h e = cc
torn_next k js (none ∷ cs) (suc i) v h e = torn_next k js cs i v h e
torn_next (suc k) js (some b ∷ cs) zero v h e = absurd (not-suc-le-zero h)
torn_next (suc k) js (some b ∷ cs) (suc i) v h e = rw suc-sub-suc (torn_next k js cs i v (le_of_suc-le-suc h) e)
torn_next zero (j ∷ js) (some b ∷ cs) zero v h e = refl
torn_next zero (j ∷ js) (some b ∷ cs) (suc i) v h e = rw sub-zero (rw sub-zero at (torn_next zero js cs i v (omega arith) e))
torn_next zero [] (some b ∷ cs) zero v h e = refl
torn_next zero [] (some b ∷ cs) (suc i) v h e = torn_next zero [] cs i v (omega arith) e

-- a cut after all stored cells is none
pub torn_all : (k : ℕ) (js : List ℕ) (cs : List (Option ℕ)) → count cs ≤ k → torn k js cs ≡ cs
torn_all k js [] h = refl
torn_all k js (none ∷ cs) h = ap (λ (r : List (Option ℕ)). none ∷ r) (torn_all k js cs h)
torn_all (suc k) js (some b ∷ cs) h = ap (λ (r : List (Option ℕ)). some b ∷ r) (torn_all k js cs (le_of_suc-le-suc h))
torn_all zero js (some b ∷ cs) h = absurd (not-suc-le-zero h)

-- cells that are joined are cut one after the other
pub torn-append : (k : ℕ) (cs ds : List (Option ℕ)) → torn k [] (cs ++ ds) ≡ torn k [] cs ++ torn (k - count cs) [] ds
torn-append k [] ds = rw sub-zero
torn-append k (none ∷ cs) ds = ap (λ (r : List (Option ℕ)). none ∷ r) (torn-append k cs ds)
torn-append (suc k) (some b ∷ cs) ds = rw suc-sub-suc (ap (λ (r : List (Option ℕ)). some b ∷ r) (torn-append k cs ds))
torn-append zero (some b ∷ cs) ds =
    rw zero-sub (ap (λ (r : List (Option ℕ)). none ∷ r) (rw zero-sub at (torn-append zero cs ds)))

-- a cut stores the lesser of k and the stored cells
pub count_torn : (k : ℕ) (cs : List (Option ℕ)) → count (torn k [] cs) ≡ min k (count cs)
count_torn k [] = sym (min-zero k)
count_torn k (none ∷ cs) = count_torn k cs
count_torn (suc k) (some b ∷ cs) = ap suc (count_torn k cs) ∙ sym (suc-min-suc k (count cs))
count_torn zero (some b ∷ cs) = count_torn zero cs ∙ zero-min (count cs) ∙ sym (zero-min (suc (count cs)))

-- stored cells cut after k: the first k of them
pub torn_some : (k : ℕ) (l : List ℕ) → torn k [] (map some l) ≡ map some (take k l) ++ replicate (length l - k) none
torn_some zero [] = refl
torn_some (suc k) [] = rw zero-sub
torn_some (suc k) (x ∷ xs) = rw suc-sub-suc (ap (λ (r : List (Option ℕ)). some x ∷ r) (torn_some k xs))
torn_some zero (x ∷ xs) = rw sub-zero (ap (λ (r : List (Option ℕ)). none ∷ r) (rw sub-zero at (torn_some zero xs)))

-- kept cells that are cut are kept
pub torn_kept : (k n : ℕ) → torn k [] (replicate n none) ≡ replicate n none
torn_kept k zero = refl
torn_kept k (suc n) = ap (λ (r : List (Option ℕ)). none ∷ r) (torn_kept k n)

-- cut in the next r stored cells, after j of them: some r bytes for those give the same
pub torn_held : (k j r : ℕ) (cs : List (Option ℕ)) (p : List ℕ) → j ≤ r
    → (js : List ℕ) × (length js ≡ r) × (over (torn (k + j) [] cs) p ≡ over (torn k js cs) p)
torn_held k j r [] p h = (replicate r 0, length-replicate r 0, refl)
torn_held k j r (c ∷ cs) [] h =
    (replicate r 0, length-replicate r 0, over_nil (torn (k + j) [] (c ∷ cs)) ∙ sym (over_nil (torn k (replicate r 0) (c ∷ cs))))
torn_held k j r (none ∷ cs) (x ∷ xs) h =
    let rest = torn_held k j r cs xs h in
    (rest.0, rest.1, ap (λ (l : List ℕ). x ∷ l) rest.2)
torn_held (suc k) j r (some b ∷ cs) (x ∷ xs) h =
    let rest = torn_held k j r cs xs h in
    (rest.0, rest.1, rw suc-add (ap (λ (l : List ℕ). b ∷ l) rest.2))
torn_held zero zero zero (some b ∷ cs) (x ∷ xs) h = ([], refl, refl)
torn_held zero zero (suc r) (some b ∷ cs) (x ∷ xs) h =
    let rest = torn_held zero zero r cs xs (omega arith) in
    (x ∷ rest.0, ap suc rest.1, ap (λ (l : List ℕ). x ∷ l) rest.2)
torn_held zero (suc j) zero (some b ∷ cs) (x ∷ xs) h = absurd (not-suc-le-zero h)
torn_held zero (suc j) (suc r) (some b ∷ cs) (x ∷ xs) h =
    let rest = torn_held zero j r cs xs (le_of_suc-le-suc h) in
    (b ∷ rest.0, ap suc rest.1, rw zero-add (ap (λ (l : List ℕ). b ∷ l) (rw zero-add at rest.2)))

-- the first cells of a list alone are all of them, cut after those
pub torn_front : (cs ds : List (Option ℕ)) (p : List ℕ) → over (torn (count cs) [] (cs ++ ds)) p ≡ over cs p
torn_front [] [] p = refl
torn_front [] (d ∷ ds) [] = over_nil (torn 0 [] (d ∷ ds))
torn_front [] (none ∷ ds) (x ∷ xs) = ap (λ (r : List ℕ). x ∷ r) (torn_front [] ds xs)
torn_front [] (some b ∷ ds) (x ∷ xs) = ap (λ (r : List ℕ). x ∷ r) (torn_front [] ds xs)
torn_front (c ∷ cs) ds [] = over_nil (torn (count (c ∷ cs)) [] (c ∷ (cs ++ ds)))
torn_front (none ∷ cs) ds (x ∷ xs) = ap (λ (r : List ℕ). x ∷ r) (torn_front cs ds xs)
torn_front (some b ∷ cs) ds (x ∷ xs) = ap (λ (r : List ℕ). b ∷ r) (torn_front cs ds xs)
