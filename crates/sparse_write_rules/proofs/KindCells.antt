-- The cells that blocks of a kind have, and that they are the blocks' own bytes.
-- Assumes nothing.
use mathlib.Core.Path.{◌≡◌, refl, sym, ap, ap₂, ◌∙◌}
use mathlib.Core.Bool.{Bool, true, false, cond}
use mathlib.Core.Option.{Option, none, some}
use mathlib.Core.List.{List, [], ◌∷◌, ◌++◌, map}
use Prim.Native.Nat.{ℕ, zero, suc, ◌+◌, ◌*◌, ◌/◌, ◌%◌, ◌≤◌, ◌<◌}
use native.Mathlib.Nat.{not-suc-le-zero, le_of_suc-le-suc, zero-add, suc-mul, mod-lt, zero-lt-suc}
use native.Mathlib.Omega.{arith}
use borrow.Author.Tests.{eqb-true}
use lib.Dec.{eqb}
use lib.ListN.{length, get_or, replicate, take, drop, replicate-append-replicate}
use Rattle.fields_rules.specs.Number.{number_at, bytes, Bytes}
use Rattle.fields_rules.proofs.Laws.{number_bound, number_byte}
use Rattle.sparse_rules.specs.Cells.{tab, raw_byte, fill_byte, zeroed}
use Rattle.rules.proofs.Tests.{both}
use Rattle.sparse_rules.proofs.Cells.{tab_same, tab-append, zeroed_some, zeroed_raw}
use Rattle.sparse_rules.proofs.Image.{raw_cells}
use Rattle.sparse_write_rules.specs.Kinds.{BlockKind, kept, raw, fill, all_equal, stored_kind}

-- ---- a block whose words are all one

equal_all : (s : List ℕ) (w n i : ℕ) → all_equal s w n i ≡ true → (k : ℕ) → k < n → number_at s (i + k * 4) 4 ≡ w
unfolding all_equal
equal_all s w zero i e k h = absurd (not-suc-le-zero h)
equal_all s w (suc n) i e zero h =
    let z : i + 0 * 4 ≡ i = omega arith in
    ap (λ (x : ℕ). number_at s x 4) z ∙ eqb-true _ _ (both (eqb (number_at s i 4) w) (all_equal s w n (i + 4)) e).0
equal_all s w (suc n) i e (suc k) h =
    let z : i + suc k * 4 ≡ i + 4 + k * 4 = omega arith in
    ap (λ (x : ℕ). number_at s x 4) z ∙ equal_all s w n (i + 4) (both (eqb (number_at s i 4) w) (all_equal s w n (i + 4)) e).1 k (le_of_suc-le-suc h)

-- a block that is filled with a word holds the word's bytes, over and over
fill-byte : (d : List ℕ) → Bytes d → (b at w : ℕ) → b % 4 ≡ 0 → all_equal d w (b / 4) at ≡ true → (i : ℕ) → i < b → fill_byte (bytes 4 w) 0 i ≡ raw_byte d at i
fill-byte d small b at w fours e i l =
    let k : i / 4 < b / 4 = omega arith in
    let z : at + i / 4 * 4 + i % 4 ≡ at + i = omega arith in
    let y : 0 + i % 4 ≡ i % 4 = omega arith in
    rw y
    (ap (λ (v : ℕ). get_or (bytes 4 v) (i % 4) 0) (sym (equal_all d w (b / 4) at e (i / 4) k))
    ∙ number_byte d small (at + i / 4 * 4) 4 (i % 4) (mod-lt i (zero-lt-suc 3)) ∙ rw z)

-- ---- cells by kind

-- the cells of n bytes in blocks of a kind, which stand at a place of d
abbrev pub cells_for : List ℕ → ℕ → BlockKind → ℕ → List (Option ℕ)
cells_for d at kept n = replicate n none
cells_for d at raw n = map some (tab (raw_byte d at) 0 n)
cells_for d at (fill w) n = map some (tab (fill_byte (bytes 4 w) 0) 0 n)

-- stored cells of lists that are joined
pub some_append : (xs ys : List ℕ) → map some (xs ++ ys) ≡ map some xs ++ map some ys
some_append [] ys = refl
some_append (x ∷ xs) ys = ap (λ (r : List (Option ℕ)). some x ∷ r) (some_append xs ys)

-- flat data in two parts
pub raw_split : (d : List ℕ) (at m n : ℕ) → tab (raw_byte d at) 0 (m + n) ≡ tab (raw_byte d at) 0 m ++ tab (raw_byte d (at + m)) 0 n
raw_split d at m n =
    tab-append (raw_byte d at) 0 m n
    ∙ ap (λ (r : List ℕ). tab (raw_byte d at) 0 m ++ r)
    (tab_same (raw_byte d at) (raw_byte d (at + m)) (0 + m) 0 n (λ j h. let e : at + (0 + m + j) ≡ at + m + (0 + j) = omega arith in rw e))

-- one block, and those after it
pub cells_split : (d : List ℕ) (at : ℕ) (kind : BlockKind) (b n : ℕ) → b % 4 ≡ 0 → cells_for d at kind (b + n) ≡ cells_for d at kind b ++ cells_for d (at + b) kind n
cells_split d at kept b n m = sym (replicate-append-replicate b n none)
cells_split d at raw b n m = ap (map some) (raw_split d at b n) ∙ some_append (tab (raw_byte d at) 0 b) (tab (raw_byte d (at + b)) 0 n)
cells_split d at (fill w) b n m =
    ap (map some)
    (tab-append (fill_byte (bytes 4 w) 0) 0 b n
    ∙ ap (λ (r : List ℕ). tab (fill_byte (bytes 4 w) 0) 0 b ++ r)
    (tab_same (fill_byte (bytes 4 w) 0) (fill_byte (bytes 4 w) 0) (0 + b) 0 n (λ j h. let e : (0 + b + j) % 4 ≡ (0 + j) % 4 = omega arith in rw e)))
    ∙ some_append (tab (fill_byte (bytes 4 w) 0) 0 b) (tab (fill_byte (bytes 4 w) 0) 0 n)

-- no bytes have no cells
pub cells_none : (d : List ℕ) (at : ℕ) (kind : BlockKind) → cells_for d at kind 0 ≡ []
cells_none d at kept = refl
cells_none d at raw = refl
cells_none d at (fill w) = refl

-- a stored block's cells are its own bytes
pub stored_cells : (d : List ℕ) → Bytes d → (b at : ℕ) → b % 4 ≡ 0 → cells_for d at (stored_kind d b at) b ≡ map some (tab (raw_byte d at) 0 b)
unfolding stored_kind
stored_cells d small b at fours = go (all_equal d (number_at d at 4) (b / 4) at) refl
  where
    go : (x : Bool) → all_equal d (number_at d at 4) (b / 4) at ≡ x → cells_for d at (cond x (fill (number_at d at 4)) raw) b ≡ map some (tab (raw_byte d at) 0 b)
    go false e = refl
    go true e =
        ap (map some)
        (tab_same (fill_byte (bytes 4 (number_at d at 4)) 0) (raw_byte d at) 0 0 b
        (λ i h. rw (zero-add i) (fill-byte d small b at (number_at d at 4) fours e i h)))

-- a kind's word is one of 4 bytes
abbrev pub WordFits : BlockKind → Type 0
WordFits kept = Unit {0}
WordFits raw = Unit {0}
WordFits (fill w) = w < 4294967296

-- as is that of a stored block
pub stored_fits : (d : List ℕ) → Bytes d → (b at : ℕ) → WordFits (stored_kind d b at)
unfolding stored_kind
stored_fits d small b at = go (all_equal d (number_at d at 4) (b / 4) at)
  where
    go : (x : Bool) → WordFits (cond x (fill (number_at d at 4)) raw)
    go true = number_bound d small at 4
    go false = tt

-- a kind that stores its blocks
abbrev pub Stores : BlockKind → Type 0
Stores kept = ⊥
Stores raw = Unit {0}
Stores (fill w) = Unit {0}

-- as a stored block's does
pub stored_stores : (d : List ℕ) (b at : ℕ) → Stores (stored_kind d b at)
unfolding stored_kind
stored_stores d b at = go (all_equal d (number_at d at 4) (b / 4) at)
  where
    go : (x : Bool) → Stores (cond x (fill (number_at d at 4)) raw)
    go true = tt
    go false = tt

-- ---- blocks of one kind

-- the cells of m blocks of one kind are their own bytes
pub run-cells : (d : List ℕ) → Bytes d → (b : ℕ) (kind : BlockKind) (m at : ℕ) → b % 4 ≡ 0 → ((j : ℕ) → j < m → stored_kind d b (at + j * b) ≡ kind)
    → cells_for d at kind (m * b) ≡ map some (tab (raw_byte d at) 0 (m * b))
run-cells d small b kind zero at fours alike = let z : 0 * b ≡ 0 = omega arith in rw z (cells_none d at kind)
run-cells d small b kind (suc m) at fours alike =
    let e : suc m * b ≡ b + m * b = omega (arith, suc-mul m b) in
    let z : at + 0 * b ≡ at = omega arith in
    let here : stored_kind d b at ≡ kind = rw z at (alike 0 (omega arith)) in
    let on : (j : ℕ) → j < m → stored_kind d b (at + b + j * b) ≡ kind =
    λ j h. let p : at + b + j * b ≡ at + suc j * b = omega (arith, suc-mul j b) in rw p (alike (suc j) (omega arith)) in
    rw e
    (cells_split d at kind b (m * b) fours
    ∙ ap₂ (λ (x y : List (Option ℕ)). x ++ y) (ap (λ (k : BlockKind). cells_for d at k b) (sym here) ∙ stored_cells d small b at fours)
    (run-cells d small b kind m (at + b) fours on)
    ∙ sym (ap (map some) (raw_split d at b (m * b)) ∙ some_append (tab (raw_byte d at) 0 b) (tab (raw_byte d (at + b)) 0 (m * b))))

-- flat data as they stand
pub raw_part : (d : List ℕ) (at n : ℕ) → at + n ≤ length d → tab (raw_byte d at) 0 n ≡ take n (drop at d)
raw_part d at n h = sym (zeroed_some (tab (raw_byte d at) 0 n)) ∙ ap zeroed (sym (raw_cells d at n)) ∙ zeroed_raw d at n h
