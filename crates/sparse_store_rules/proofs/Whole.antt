-- The cells of chunks lie in whole blocks: all cells of a block are stored, or none is.
-- Assumes nothing.
use mathlib.Core.Path.{◌≡◌, refl, sym, ap, ◌∙◌}
use mathlib.Core.Bool.{Bool, true, false, cond}
use mathlib.Core.Option.{Option, none, some}
use mathlib.Core.List.{List, [], ◌∷◌, ◌++◌, map, map-append, append_assoc}
use Prim.Native.Nat.{ℕ, zero, suc, ◌+◌, ◌*◌, ◌≤◌, ◌<◌}
use native.Mathlib.Nat.{zero-mul, add-zero, not-suc-le-zero, le_of_suc-le-suc}
use native.Mathlib.Omega.{arith}
use lib.ListN.{length, get_or, take, drop, replicate, take-append-drop, length-drop, length-map, length-replicate, replicate-append-replicate, get_or-eq_default}
use lib.Seq.{take_at, drop_at, drop-drop, drop-nil, take-nil, get_or-take, get_or-drop, length-take-le}
use Rattle.sparse_rules.specs.declared.Chunk.{Chunk}
use Rattle.sparse_rules.specs.Cells.{count, cells_of, cells}
use Rattle.sparse_rules.specs.Counts.{writes}
use Rattle.sparse_rules.proofs.Cells.{cells_nil, cells_cons, length-cells_of, count_cells_of, count_some, count_none}
use Rattle.sparse_store_rules.specs.Blocks.{is_stored}

-- ---- cells that are all stored, or all kept

count_most : (cs : List (Option ℕ)) → count cs ≤ length cs
count_most [] = omega arith
count_most (none ∷ cs) = omega (arith, count_most cs)
count_most (some v ∷ cs) = omega (arith, count_most cs)

-- as many stored cells as cells: each is stored
all_stored : (cs : List (Option ℕ)) → count cs ≡ length cs → (xs : List ℕ) × (length xs ≡ length cs) × (cs ≡ map some xs)
all_stored [] e = ([], refl, refl)
all_stored (none ∷ cs) e = absurd (omega (arith, count_most cs))
all_stored (some v ∷ cs) e =
    let rest = all_stored cs (omega arith) in
    (v ∷ rest.0, ap suc rest.1, ap (λ (r : List (Option ℕ)). some v ∷ r) rest.2)

-- no stored cell: each is kept
all_kept : (cs : List (Option ℕ)) → count cs ≡ 0 → cs ≡ replicate (length cs) none
all_kept [] e = refl
all_kept (none ∷ cs) e = ap (λ (r : List (Option ℕ)). none ∷ r) (all_kept cs e)
all_kept (some v ∷ cs) e = absurd (omega arith)

-- ---- whole blocks

-- cells in blocks of b, each stored or kept
pub data Whole (b : ℕ) : List (Option ℕ) → Type 0 where
  end : Whole b []
  put : {cs : List (Option ℕ)} (xs : List ℕ) → length xs ≡ b → Whole b cs → Whole b (map some xs ++ cs)
  keep : {cs : List (Option ℕ)} → Whole b cs → Whole b (replicate b none ++ cs)

nil_of : (l : List ℕ) → length l ≡ 0 → l ≡ []
nil_of [] e = refl
nil_of (x ∷ xs) e = absurd (omega arith)

put_many : (b n : ℕ) {cs : List (Option ℕ)} (l : List ℕ) → length l ≡ n * b → Whole b cs → Whole b (map some l ++ cs)
put_many b zero l e w = rw (nil_of l (e ∙ zero-mul b)) w
put_many b (suc n) {cs} l e w =
    let long : b ≤ length l = omega arith in
    let rest : length (drop b l) ≡ n * b = length-drop b l ∙ omega arith in
    let split : map some l ++ cs ≡ map some (take b l) ++ (map some (drop b l) ++ cs) =
    ap (λ (r : List ℕ). map some r ++ cs) (sym (take-append-drop b l))
    ∙ ap (λ (r : List (Option ℕ)). r ++ cs) (map-append some (take b l) (drop b l))
    ∙ append_assoc (map some (take b l)) (map some (drop b l)) cs in
    rw split (put (take b l) (length-take-le b l long) (put_many b n (drop b l) rest w))

keep_many : (b n : ℕ) {cs : List (Option ℕ)} → Whole b cs → Whole b (replicate (n * b) none ++ cs)
keep_many b zero w = rw (zero-mul b) w
keep_many b (suc n) {cs} w =
    let e : suc n * b ≡ b + n * b = omega arith in
    rw (e, ← replicate-append-replicate {A = Option ℕ} b (n * b) none, append_assoc) (keep (keep_many b n w))

-- a chunk's cells before others
chunk_whole : (s : List ℕ) (b : ℕ) (k : Chunk) {cs : List (Option ℕ)} → Whole b cs → Whole b (cells_of s b k ++ cs)
chunk_whole s b k {cs} w = go (writes k.kind) refl
  where
    go : (x : Bool) → writes k.kind ≡ x → Whole b (cells_of s b k ++ cs)
    go true q =
        let all = all_stored (cells_of s b k) (count_cells_of s b k ∙ rw q (sym (length-cells_of s b k))) in
        rw all.2 (put_many b k.blocks all.0 (all.1 ∙ length-cells_of s b k) w)
    go false q =
        let all : cells_of s b k ≡ replicate (length (cells_of s b k)) none =
        all_kept (cells_of s b k) (count_cells_of s b k ∙ rw q (zero-mul b)) in
        let kept : cells_of s b k ≡ replicate (k.blocks * b) none =
        all ∙ ap (λ (n : ℕ). replicate n none) (length-cells_of s b k) in
        rw kept (keep_many b k.blocks w)

-- the cells of chunks lie in whole blocks
pub cells_whole : (s : List ℕ) (b : ℕ) (ks : List Chunk) → Whole b (cells s b ks)
cells_whole s b [] = rw cells_nil end
cells_whole s b (k ∷ ks) = rw cells_cons (chunk_whole s b k (cells_whole s b ks))

-- ---- one block of them

-- a block's cells: all stored, or none
data Block (b : ℕ) : List (Option ℕ) → Type 0 where
  stored : (xs : List ℕ) → length xs ≡ b → Block b (map some xs)
  kept : (m : ℕ) → Block b (replicate m none)

block_of : {b : ℕ} {cs : List (Option ℕ)} → Whole b cs → (k : ℕ) → Block b (take b (drop (k * b) cs))
block_of {b} end k = rw (drop-nil (k * b), take-nil b) (kept 0)
block_of {b} (put {cs = cs} xs e w) zero =
    rw (zero-mul b, take_at (map some xs) cs b (length-map xs some ∙ e)) (stored xs e)
block_of {b} (put {cs = cs} xs e w) (suc k) =
    let n : suc k * b ≡ b + k * b = omega arith in
    rw (n, ← drop-drop (k * b) b (map some xs ++ cs), drop_at (map some xs) cs b (length-map xs some ∙ e)) (block_of w k)
block_of {b} (keep {cs = cs} w) zero =
    rw (zero-mul b, take_at (replicate b none) cs b (length-replicate b none)) (kept b)
block_of {b} (keep {cs = cs} w) (suc k) =
    let n : suc k * b ≡ b + k * b = omega arith in
    rw (n, ← drop-drop (k * b) b (replicate b none ++ cs), drop_at (replicate b none) cs b (length-replicate b none)) (block_of w k)

pub get_d_some : (xs : List ℕ) (i : ℕ) → i < length xs → get_or (map some xs) i none ≡ some (get_or xs i 0)
get_d_some [] i h = absurd (not-suc-le-zero h)
get_d_some (x ∷ xs) zero h = refl
get_d_some (x ∷ xs) (suc i) h = get_d_some xs i (le_of_suc-le-suc h)

pub get_or_none : (xs : List ℕ) (i : ℕ) → length xs ≤ i → get_or (map some xs) i none ≡ none
get_or_none xs i h = get_or-eq_default (map some xs) none (rw (length-map xs some) h)

get_d_kept : (m i : ℕ) → ◌≡◌ {A = Option ℕ} (get_or (replicate m none) i none) none
get_d_kept zero i = refl
get_d_kept (suc m) zero = refl
get_d_kept (suc m) (suc i) = get_d_kept m i

-- the first cell of a block decides
module _ (b : ℕ) (cs : List (Option ℕ)) (w : Whole b cs) (k : ℕ) where
  in_block : (j : ℕ) → j < b → get_or cs (k * b + j) none ≡ get_or (take b (drop (k * b) cs)) j none
  in_block j h = sym (get_or-take b (drop (k * b) cs) j none h ∙ get_or-drop (k * b) cs j none)

  first_cell : 0 < b → get_or cs (k * b) none ≡ get_or (take b (drop (k * b) cs)) 0 none
  first_cell h = let e : k * b + 0 ≡ k * b = add-zero (k * b) in rw e at (in_block 0 h)

  -- where it is stored, all are
  pub stored_block : 0 < b → is_stored (get_or cs (k * b) none) ≡ true
      → (xs : List ℕ) × (length xs ≡ b) × (take b (drop (k * b) cs) ≡ map some xs)
  stored_block h e = go (take b (drop (k * b) cs)) refl (block_of w k)
    where
      go : (ds : List (Option ℕ)) → take b (drop (k * b) cs) ≡ ds → Block b ds
          → (xs : List ℕ) × (length xs ≡ b) × (take b (drop (k * b) cs) ≡ map some xs)
      go ds q (stored xs l) = (xs, l, q)
      go ds q (kept m) =
          let none_first : get_or cs (k * b) none ≡ none = first_cell h ∙ rw q (get_d_kept m 0) in
          let no : false ≡ true = rw none_first at e in
          let z : ◌≡◌ {A = ℕ} 0 1 = cc in
          absurd (omega arith)

  -- where it is kept, all are
  pub kept_block : is_stored (get_or cs (k * b) none) ≡ false → (j : ℕ) → j < b → get_or cs (k * b + j) none ≡ none
  kept_block e j h = go (take b (drop (k * b) cs)) refl (block_of w k)
    where
      go : (ds : List (Option ℕ)) → take b (drop (k * b) cs) ≡ ds → Block b ds → get_or cs (k * b + j) none ≡ none
      go ds q (stored xs l) =
          let some_first : get_or cs (k * b) none ≡ some (get_or xs 0 0) =
          first_cell (omega arith) ∙ rw q (get_d_some xs 0 (omega arith)) in
          let no : true ≡ false = rw some_first at e in
          let z : ◌≡◌ {A = ℕ} 0 1 = cc in
          absurd (omega arith)
      go ds q (kept m) = in_block j h ∙ rw q (get_d_kept m j)

  -- so many stored cells has a block
  pub count_block : 0 < b → count (take b (drop (k * b) cs)) ≡ cond (is_stored (get_or cs (k * b) none)) 1 0 * b
  count_block h = go (take b (drop (k * b) cs)) refl (block_of w k)
    where
      go : (ds : List (Option ℕ)) → take b (drop (k * b) cs) ≡ ds → Block b ds
          → count (take b (drop (k * b) cs)) ≡ cond (is_stored (get_or cs (k * b) none)) 1 0 * b
      go ds q (stored xs l) =
          let some_first : get_or cs (k * b) none ≡ some (get_or xs 0 0) = first_cell h ∙ rw q (get_d_some xs 0 (omega arith)) in
          rw (q, count_some xs, l, some_first) (omega arith)
      go ds q (kept m) =
          let none_first : get_or cs (k * b) none ≡ none = first_cell h ∙ rw q (get_d_kept m 0) in
          rw (q, count_none m, none_first) (omega arith)
