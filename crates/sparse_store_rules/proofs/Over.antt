-- Laws of cells laid over a partition.
-- Assumes nothing.
use mathlib.Core.Path.{◌≡◌, refl, sym, ap, ap₂, ◌∙◌}
use mathlib.Core.Option
use mathlib.Core.Option.{Option, none, some}
use mathlib.Core.List.{List, [], ◌∷◌, ◌++◌, map, append_assoc}
use Prim.Native.Nat.{ℕ, zero, suc, ◌+◌, ◌≤◌, ◌<◌}
use native.Mathlib.Nat.{le_of_suc-le-suc, not-suc-le-zero}
use native.Mathlib.Omega.{arith}
use lib.ListN.{length, get_or, replicate, drop, length-append, length-replicate}
use Rattle.sparse_store_rules.specs.Store.{over, laid}
use Rattle.sparse_store_rules.specs.Runs.{later}

-- ---- laying over

pub length_over : (cs : List (Option ℕ)) (p : List ℕ) → length (over cs p) ≡ length p
length_over [] p = refl
length_over (c ∷ cs) [] = refl
length_over (c ∷ cs) (x ∷ xs) = ap suc (length_over cs xs)

-- each byte afterwards is its cell's, or as before
pub get_d_over : (cs : List (Option ℕ)) (p : List ℕ) (i : ℕ) → i < length p
    → get_or (over cs p) i 0 ≡ Option.get_or (get_or cs i none) (get_or p i 0)
get_d_over [] p i h = refl
get_d_over (c ∷ cs) [] i h = absurd (not-suc-le-zero h)
get_d_over (c ∷ cs) (x ∷ xs) zero h = refl
get_d_over (c ∷ cs) (x ∷ xs) (suc i) h = get_d_over cs xs i (le_of_suc-le-suc h)

-- on no bytes nothing is laid
pub over_nil : (cs : List (Option ℕ)) → over cs [] ≡ []
over_nil [] = refl
over_nil (c ∷ cs) = refl

twice : (c : Option ℕ) (x : ℕ) → Option.get_or c (Option.get_or c x) ≡ Option.get_or c x
twice none x = refl
twice (some v) x = refl

-- laid over twice is laid over once
pub over_twice : (cs : List (Option ℕ)) (p : List ℕ) → over cs (over cs p) ≡ over cs p
over_twice [] p = refl
over_twice (c ∷ cs) [] = refl
over_twice (c ∷ cs) (x ∷ xs) = rw (twice c x, over_twice cs xs)

-- what is kept after the last stored cell changes nothing
pub over_kept : (cs : List (Option ℕ)) (n : ℕ) (p : List ℕ) → over (cs ++ replicate n none) p ≡ over cs p
over_kept [] zero p = refl
over_kept [] (suc n) [] = refl
over_kept [] (suc n) (x ∷ xs) = ap (λ (r : List ℕ). x ∷ r) (over_kept [] n xs)
over_kept (c ∷ cs) n [] = refl
over_kept (c ∷ cs) n (x ∷ xs) = ap (λ (r : List ℕ). Option.get_or c x ∷ r) (over_kept cs n xs)

-- stored cells laid over the front of a partition
pub over_front : (l p : List ℕ) → length l ≤ length p → over (map some l) p ≡ l ++ drop (length l) p
over_front [] p h = refl
over_front (a ∷ l) [] h = absurd (not-suc-le-zero h)
over_front (a ∷ l) (x ∷ xs) h = ap (λ (r : List ℕ). a ∷ r) (over_front l xs (le_of_suc-le-suc h))

-- cells laid over after others lie where those end
pub over_then : (cs ds : List (Option ℕ)) (p : List ℕ) → over (replicate (length cs) none ++ ds) (over cs p) ≡ over (cs ++ ds) p
over_then [] ds p = refl
over_then (c ∷ cs) ds [] = refl
over_then (c ∷ cs) ds (x ∷ xs) = ap (λ (r : List ℕ). Option.get_or c x ∷ r) (over_then cs ds xs)

-- cells past the end change nothing
over_clip : (cs ds : List (Option ℕ)) (p : List ℕ) → length p ≤ length cs → over (cs ++ ds) p ≡ over cs p
over_clip [] ds [] h = over_nil ds
over_clip [] ds (x ∷ xs) h = absurd (not-suc-le-zero h)
over_clip (c ∷ cs) ds [] h = refl
over_clip (c ∷ cs) ds (x ∷ xs) h = ap (λ (r : List ℕ). Option.get_or c x ∷ r) (over_clip cs ds xs (le_of_suc-le-suc h))

-- ---- laying over from a byte on

-- cells that are all kept change nothing
pub laid_kept : (from n : ℕ) (p : List ℕ) → laid from (replicate n none) p ≡ p
laid_kept from n p = over_kept (replicate from none) n p ∙ over_kept [] from p

-- cells past the end change nothing
pub laid_clip : (from : ℕ) (cs ds : List (Option ℕ)) (p : List ℕ) → length p ≤ from + length cs → laid from (cs ++ ds) p ≡ laid from cs p
laid_clip from cs ds p h =
    ap (λ (r : List (Option ℕ)). over r p) (sym (append_assoc (replicate from none) cs ds))
    ∙ over_clip (replicate from none ++ cs) ds p (simp (length-append, length-replicate) h)

-- cells laid over after others from where those end are all of them laid over
pub laid_then : (from : ℕ) (cs ds : List (Option ℕ)) (p : List ℕ) → laid (from + length cs) ds (laid from cs p) ≡ laid from (cs ++ ds) p
laid_then from cs ds p =
    let before : List (Option ℕ) = replicate from none ++ cs in
    let size : length before ≡ from + length cs = simp (length-append, length-replicate) in
    ap (λ (n : ℕ). laid n ds (laid from cs p)) (sym size) ∙ over_then before ds p
    ∙ ap (λ (r : List (Option ℕ)). over r p) (append_assoc (replicate from none) cs ds)

-- a stored byte, and the cells after it
pub laid_cons : (from v : ℕ) (cs : List (Option ℕ)) (p : List ℕ) → laid (suc from) cs (laid from (some v ∷ []) p) ≡ laid from (some v ∷ cs) p
laid_cons from v cs p = let n : from + 1 ≡ suc from = omega arith in rw n at (laid_then from (some v ∷ []) cs p)

-- ---- one laying over after another

-- of two cells for each byte, the later where it stores the byte
abbrev pub laters : List (Option ℕ) → List (Option ℕ) → List (Option ℕ)
laters [] cs = []
laters (d ∷ ds) [] = []
laters (d ∷ ds) (c ∷ cs) = later d c ∷ laters ds cs

-- the later of two cells over a byte
pub later_get_or : (a b : Option ℕ) (x : ℕ) → Option.get_or (later a b) x ≡ Option.get_or a (Option.get_or b x)
later_get_or none b x = refl
later_get_or (some y) b x = refl

-- the cell at a place
pub get_or_laters : (ds cs : List (Option ℕ)) (i : ℕ) → length ds ≡ length cs → get_or (laters ds cs) i none ≡ later (get_or ds i none) (get_or cs i none)
get_or_laters [] [] i e = refl
get_or_laters [] (c ∷ cs) i e = absurd (omega arith)
get_or_laters (d ∷ ds) [] i e = absurd (omega arith)
get_or_laters (d ∷ ds) (c ∷ cs) zero e = refl
get_or_laters (d ∷ ds) (c ∷ cs) (suc i) e = get_or_laters ds cs i (omega arith)

-- laid over at once, they leave what one after the other leaves
pub over_laters : (ds cs : List (Option ℕ)) (p : List ℕ) → length ds ≡ length cs → over (laters ds cs) p ≡ over ds (over cs p)
over_laters [] [] p e = refl
over_laters [] (c ∷ cs) p e = absurd (omega arith)
over_laters (d ∷ ds) [] p e = absurd (omega arith)
over_laters (d ∷ ds) (c ∷ cs) [] e = refl
over_laters (d ∷ ds) (c ∷ cs) (x ∷ xs) e = ap₂ (λ (y : ℕ) (r : List ℕ). y ∷ r) (later_get_or d c x) (over_laters ds cs xs (omega arith))

-- parts of them one after the other
pub laters_append : (ds es cs bs : List (Option ℕ)) → length ds ≡ length cs → laters (ds ++ es) (cs ++ bs) ≡ laters ds cs ++ laters es bs
laters_append [] es [] bs e = refl
laters_append [] es (c ∷ cs) bs e = absurd (omega arith)
laters_append (d ∷ ds) es [] bs e = absurd (omega arith)
laters_append (d ∷ ds) es (c ∷ cs) bs e = ap (λ (r : List (Option ℕ)). later d c ∷ r) (laters_append ds es cs bs (omega arith))

-- where the later ones store nothing, the first are left
pub laters_kept : (cs : List (Option ℕ)) → laters (replicate (length cs) none) cs ≡ cs
laters_kept [] = refl
laters_kept (c ∷ cs) = ap (λ (r : List (Option ℕ)). c ∷ r) (laters_kept cs)

-- where they store every byte, they are
pub laters_stored : (l : List ℕ) (cs : List (Option ℕ)) → length l ≡ length cs → laters (map some l) cs ≡ map some l
laters_stored [] cs e = refl
laters_stored (v ∷ l) [] e = absurd (omega arith)
laters_stored (v ∷ l) (c ∷ cs) e = ap (λ (r : List (Option ℕ)). some v ∷ r) (laters_stored l cs (omega arith))

-- ---- what is laid over tells the cells

cell_told : (c d : Option ℕ) → Option.get_or c 0 ≡ Option.get_or d 0 → Option.get_or c 1 ≡ Option.get_or d 1 → c ≡ d
cell_told none none e f = refl
cell_told none (some v) e f = absurd (omega arith)
cell_told (some v) none e f = absurd (omega arith)
cell_told (some v) (some w) e f = ap some e

-- cells for n bytes that leave the same of n zeros, and of n ones, are the same
pub cells_told : (n : ℕ) (cs ds : List (Option ℕ)) → length cs ≡ n → length ds ≡ n → over cs (replicate n 0) ≡ over ds (replicate n 0)
    → over cs (replicate n 1) ≡ over ds (replicate n 1) → cs ≡ ds
cells_told zero [] [] k l e f = refl
cells_told zero [] (d ∷ ds) k l e f = absurd (omega arith)
cells_told zero (c ∷ cs) ds k l e f = absurd (omega arith)
cells_told (suc n) [] ds k l e f = absurd (omega arith)
cells_told (suc n) (c ∷ cs) [] k l e f = absurd (omega arith)
cells_told (suc n) (c ∷ cs) (d ∷ ds) k l e f =
    ap₂ (λ (x : Option ℕ) (r : List (Option ℕ)). x ∷ r) (cell_told c d (ap (λ (r : List ℕ). get_or r 0 0) e) (ap (λ (r : List ℕ). get_or r 0 0) f))
    (cells_told n cs ds (omega arith) (omega arith) (ap (drop 1) e) (ap (drop 1) f))
