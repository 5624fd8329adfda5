-- Laws of cells: how many there are, how many are stored, and which bytes they hold.
-- Assumes nothing.
use mathlib.Core.Path.{◌≡◌, refl, sym, ap, ap₂, ◌∙◌}
use mathlib.Core.Bool.{Bool, true, false, cond}
use mathlib.Core.Option
use mathlib.Core.Option.{Option, none, some}
use mathlib.Core.List.{List, [], ◌∷◌, ◌++◌, map, flatten, append_assoc}
use Prim.Native.Nat.{ℕ, zero, suc, ◌+◌, ◌*◌, ◌/◌, ◌%◌, ◌≤◌, ◌<◌}
use native.Mathlib.Nat.{not-suc-le-zero, le_of_suc-le-suc, add-zero, zero-add, suc-add, zero-mul, add-mul}
use native.Mathlib.Omega.{arith}
use lib.ListN.{length, get_or, take, drop, replicate, length-append, length-map, length-replicate, length-drop}
use lib.Seq.{ext_get_or, get_or-take, get_or-drop, length-take-le}
use Rattle.fields_rules.specs.Number.{number_at, bytes}
use Rattle.crc32_rules.specs.Power.{repeated}
use Rattle.sparse_rules.specs.declared.Kind.{Kind}
use Rattle.sparse_rules.specs.declared.Kind.TheVariants.{Raw, Fill, DontCare, Unknown}
use Rattle.sparse_rules.specs.declared.Chunk.{Chunk}
use Rattle.sparse_rules.specs.Cells.{tab, raw_byte, fill_byte, count, cells_by, cells_of, cells, zeroed}
use Rattle.sparse_rules.specs.Counts.{writes, written}
use Rattle.sparse_rules.proofs.Counting.{where_nil, where_cons, blocks_in}

-- ---- tables

-- a table is as long as asked
pub length-tab : (f : ℕ → ℕ) (i n : ℕ) → length (tab f i n) ≡ n
length-tab f i zero = refl
length-tab f i (suc n) = ap suc (length-tab f (suc i) n)

-- its entry at a place
pub get_or-tab : (f : ℕ → ℕ) (i n j : ℕ) → j < n → get_or (tab f i n) j 0 ≡ f (i + j)
get_or-tab f i zero j h = absurd (not-suc-le-zero h)
get_or-tab f i (suc n) zero h = rw add-zero
get_or-tab f i (suc n) (suc j) h = let e : suc i + j ≡ i + suc j = omega arith in get_or-tab f (suc i) n j (le_of_suc-le-suc h) ∙ rw e

-- two tables with the same entries, from two places
pub tab_same : (f g : ℕ → ℕ) (i k n : ℕ) → ((j : ℕ) → j < n → f (i + j) ≡ g (k + j)) → tab f i n ≡ tab g k n
tab_same f g i k zero h = refl
tab_same f g i k (suc n) h =
    let e : f i ≡ g k = simp add-zero at (h 0 (omega arith)) in
    ap₂ (λ (x : ℕ) (r : List ℕ). x ∷ r) e
    (tab_same f g (suc i) (suc k) n
    (λ j l. let p : suc i + j ≡ i + suc j = omega arith in let q : suc k + j ≡ k + suc j = omega arith in rw (p, q) (h (suc j) (omega arith))))

-- a table in two parts
pub tab-append : (f : ℕ → ℕ) (i m n : ℕ) → tab f i (m + n) ≡ tab f i m ++ tab f (i + m) n
tab-append f i zero n = rw (zero-add, add-zero)
tab-append f i (suc m) n =
    let e : suc m + n ≡ suc (m + n) = omega arith in
    let g : suc i + m ≡ i + suc m = omega arith in
    rw e (ap (λ (r : List ℕ). f i ∷ r) (tab-append f (suc i) m n ∙ rw g))

-- ---- cells of chunks

-- no chunks have no cells
pub cells_nil : (s : List ℕ) (b : ℕ) → cells s b [] ≡ []
unfolding cells
cells_nil s b = refl

-- the cells of the first chunk come first
pub cells_cons : (s : List ℕ) (b : ℕ) (k : Chunk) (ks : List Chunk) → cells s b (k ∷ ks) ≡ cells_of s b k ++ cells s b ks
unfolding cells
cells_cons s b k ks = refl

-- cells of chunks that are joined
pub cells-append : (s : List ℕ) (b : ℕ) (ks ls : List Chunk) → cells s b (ks ++ ls) ≡ cells s b ks ++ cells s b ls
unfolding cells
cells-append s b [] ls = refl
cells-append s b (k ∷ ks) ls = rw (cells-append s b ks ls) (sym (append_assoc (cells_of s b k) (cells s b ks) (cells s b ls)))

-- ---- how many cells

-- a cell a byte
pub length-cells_by : (s : List ℕ) (k : Kind) (at n : ℕ) → length (cells_by s k at n) ≡ n
unfolding cells_by
length-cells_by s Raw at n = simp (length-map, length-tab)
length-cells_by s Fill at n = simp (length-map, length-tab)
length-cells_by s DontCare at n = simp length-replicate
length-cells_by s Unknown at n = simp length-replicate

-- a chunk's cells fill its blocks
pub length-cells_of : (s : List ℕ) (b : ℕ) (k : Chunk) → length (cells_of s b k) ≡ k.blocks * b
unfolding cells_of
length-cells_of s b k = length-cells_by s k.kind k.body (k.blocks * b)

-- the cells of chunks fill all of their blocks
pub length-cells : (s : List ℕ) (b : ℕ) (ks : List Chunk) → length (cells s b ks) ≡ blocks_in ks * b
unfolding cells
length-cells s b [] = sym (zero-mul b)
length-cells s b (k ∷ ks) =
    rw (length-append, length-cells_of s b k, length-cells s b ks) (sym (add-mul k.blocks (blocks_in ks) b))

-- ---- how many are stored

-- stored cells of cells that are joined
pub count_append : (cs ds : List (Option ℕ)) → count (cs ++ ds) ≡ count cs + count ds
count_append [] ds = sym (zero-add (count ds))
count_append (none ∷ cs) ds = count_append cs ds
count_append (some v ∷ cs) ds = ap suc (count_append cs ds) ∙ sym (suc-add (count cs) (count ds))

-- all of a list's bytes
pub count_some : (l : List ℕ) → count (map some l) ≡ length l
count_some [] = refl
count_some (x ∷ xs) = ap suc (count_some xs)

-- none of what is kept
pub count_none : (n : ℕ) → count (replicate n none) ≡ 0
count_none zero = refl
count_none (suc n) = count_none n

-- the cells of a kind that writes are stored, of another kept
pub count_cells_by : (s : List ℕ) (k : Kind) (at n : ℕ) → count (cells_by s k at n) ≡ cond (writes k) n 0
unfolding cells_by
count_cells_by s Raw at n = simp (count_some, length-tab)
count_cells_by s Fill at n = simp (count_some, length-tab)
count_cells_by s DontCare at n = count_none n
count_cells_by s Unknown at n = count_none n

-- a chunk stores all bytes of its blocks, or none
pub count_cells_of : (s : List ℕ) (b : ℕ) (k : Chunk) → count (cells_of s b k) ≡ cond (writes k.kind) k.blocks 0 * b
unfolding cells_of
count_cells_of s b k = count_cells_by s k.kind k.body (k.blocks * b) ∙ go (writes k.kind)
  where
    go : (x : Bool) → cond x (k.blocks * b) 0 ≡ cond x k.blocks 0 * b
    go true = refl
    go false = sym (zero-mul b)

-- the stored cells of chunks are those of the written blocks
pub count_cells : (s : List ℕ) (b : ℕ) (ks : List Chunk) → count (cells s b ks) ≡ written ks * b
unfolding cells
count_cells s b [] = rw (where_nil writes) (sym (zero-mul b))
count_cells s b (k ∷ ks) =
    rw (where_cons writes k ks, count_append, count_cells_of s b k, count_cells s b ks) (sym (add-mul (cond (writes k.kind) k.blocks 0) (written ks) b))

-- ---- the bytes of cells

-- the bytes in a field are those that it was read from
pub bytes_le : (s : List ℕ) → ((i : ℕ) → get_or s i 0 < 256) → (at w : ℕ) → bytes w (number_at s at w) ≡ tab (λ i. get_or s i 0) at w
unfolding number_at
bytes_le s small at zero = refl
bytes_le s small at (suc w) =
    let low : (get_or s at 0 + 256 * number_at s (suc at) w) % 256 ≡ get_or s at 0 = omega (arith, small at) in
    let high : (get_or s at 0 + 256 * number_at s (suc at) w) / 256 ≡ number_at s (suc at) w = omega (arith, small at) in
    rw (low, high, bytes_le s small (suc at) w)

fill-from : (s : List ℕ) → ((i : ℕ) → get_or s i 0 < 256) → (at n i : ℕ) → i % 4 ≡ 0 → tab (fill_byte s at) i (4 * n) ≡ repeated n (bytes 4 (number_at s at 4))
unfolding flatten
fill-from s small at zero i e = refl
fill-from s small at (suc n) i e =
    let p : 4 * suc n ≡ 4 + 4 * n = omega arith in
    let word : tab (fill_byte s at) i 4 ≡ bytes 4 (number_at s at 4) =
    tab_same (fill_byte s at) (λ j. get_or s j 0) i at 4 (λ j l. let q : (i + j) % 4 ≡ j = omega arith in rw q) ∙ sym (bytes_le s small at 4) in
    rw p (tab-append (fill_byte s at) i 4 (4 * n) ∙ ap₂ (λ (x r : List ℕ). x ++ r) word (fill-from s small at n (i + 4) (omega arith)))

-- fill: the 4 bytes, repeated
pub cells_fill : (s : List ℕ) → ((i : ℕ) → get_or s i 0 < 256) → (at n : ℕ) → cells_by s Fill at (4 * n) ≡ map some (repeated n (bytes 4 (number_at s at 4)))
unfolding cells_by
cells_fill s small at n = ap (map some) (fill-from s small at n 0 refl)

-- raw: the bytes that stand in the image
pub cells_raw : (s : List ℕ) (at n : ℕ) → at + n ≤ length s → cells_by s Raw at n ≡ map some (take n (drop at s))
unfolding cells_by
cells_raw s at n h =
    let l : length (take n (drop at s)) ≡ n = length-take-le n (drop at s) (simp length-drop (omega arith)) in
    ap (map some)
    (ext_get_or 0 (tab (raw_byte s at) 0 n) (take n (drop at s)) (length-tab (raw_byte s at) 0 n ∙ sym l)
    (λ i p. let q : i < n = rw length-tab at p in
    get_or-tab (raw_byte s at) 0 n i q ∙ rw zero-add (sym (get_or-take n (drop at s) i 0 q ∙ get_or-drop at s i 0))))

-- the others keep all
pub cells_kept : (s : List ℕ) (k : Kind) (at n : ℕ) → writes k ≡ false → cells_by s k at n ≡ replicate n none
unfolding cells_by
cells_kept s Raw at n e = cc
cells_kept s Fill at n e = cc
cells_kept s DontCare at n e = refl
cells_kept s Unknown at n e = refl

-- zeros for what is kept, in cells that are joined
pub zeroed_append : (cs ds : List (Option ℕ)) → zeroed (cs ++ ds) ≡ zeroed cs ++ zeroed ds
unfolding zeroed
zeroed_append [] ds = refl
zeroed_append (c ∷ cs) ds = ap (λ (r : List ℕ). Option.get_or c 0 ∷ r) (zeroed_append cs ds)

-- there are as many bytes as cells
pub length_zeroed : (cs : List (Option ℕ)) → length (zeroed cs) ≡ length cs
unfolding zeroed
length_zeroed cs = length-map cs _

-- stored bytes stay
pub zeroed_some : (l : List ℕ) → zeroed (map some l) ≡ l
unfolding zeroed
zeroed_some [] = refl
zeroed_some (x ∷ xs) = ap (λ (r : List ℕ). x ∷ r) (zeroed_some xs)

-- what is kept counts as zeros
pub zeroed_none : (n : ℕ) → zeroed (replicate n none) ≡ replicate n 0
unfolding zeroed
zeroed_none zero = refl
zeroed_none (suc n) = ap (λ (r : List ℕ). 0 ∷ r) (zeroed_none n)

-- the bytes of fill cells
pub zeroed_fill : (s : List ℕ) → ((i : ℕ) → get_or s i 0 < 256) → (at n : ℕ) → zeroed (cells_by s Fill at (4 * n)) ≡ repeated n (bytes 4 (number_at s at 4))
zeroed_fill s small at n = ap zeroed (cells_fill s small at n) ∙ zeroed_some (repeated n (bytes 4 (number_at s at 4)))

-- the bytes of raw cells
pub zeroed_raw : (s : List ℕ) (at n : ℕ) → at + n ≤ length s → zeroed (cells_by s Raw at n) ≡ take n (drop at s)
zeroed_raw s at n h = ap zeroed (cells_raw s at n h) ∙ zeroed_some (take n (drop at s))

-- the bytes of kept cells
pub zeroed_kept : (s : List ℕ) (k : Kind) (at n : ℕ) → writes k ≡ false → zeroed (cells_by s k at n) ≡ replicate n 0
zeroed_kept s k at n e = ap zeroed (cells_kept s k at n e) ∙ zeroed_none n
