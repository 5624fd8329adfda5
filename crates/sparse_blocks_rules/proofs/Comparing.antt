-- Bytes that are the same, and blocks compared where they stand.
-- Assumes nothing.
use mathlib.Core.Path.{◌≡◌, refl, sym, ap, ap₂, ◌∙◌}
use mathlib.Core.Bool.{Bool, true, false, ◌&&◌, cond}
use mathlib.Core.Option.{none, some}
use mathlib.Core.List.{List, [], ◌∷◌}
use Prim.Native.Nat.{ℕ, zero, suc, ◌+◌, ◌-◌, ◌*◌, ◌/◌, ◌%◌, ◌≤◌, ◌<◌}
use native.Mathlib.Nat.{zero-lt-suc, mod-lt}
use native.Mathlib.Omega.{arith}
use borrow.Author.Tests.{eqb-true, eq-eqb, le-leb}
use lib.Dec.{eqb}
use lib.ListN.{length, get_or}
use Rattle.rules.proofs.Tests.{both, equal_truths}
use Rattle.sparse_rules.specs.declared.Kind.{Kind}
use Rattle.sparse_rules.specs.declared.Kind.TheVariants.{Raw, Fill, DontCare, Unknown}
use Rattle.sparse_rules.specs.declared.Chunk.{Chunk}
use Rattle.sparse_rules.specs.Cells.{tab, raw_byte, fill_byte}
use Rattle.sparse_rules.specs.Counts.{writes}
use Rattle.sparse_rules.specs.Facts.{Summable, data_bytes}
use Rattle.sparse_rules.proofs.Cells.{get_or-tab, tab_same}
use Rattle.sparse_write_rules.specs.Runs.{Tells}
use Rattle.sparse_write_rules.proofs.Runs.{at_least}
use Rattle.sparse_blocks_rules.specs.Blocks.{block_from}
use Rattle.sparse_write_rules.specs.Blocks.{Block}
use Rattle.sparse_blocks_rules.specs.Theorems.{Compared}
use Rattle.sparse_blocks_rules.specs.Same.{alike, same_bytes_at, repeats_word, is_raw, same_block}

-- ---- lists of bytes

-- bytes that are the same are one list
pub alike_true : (xs ys : List ℕ) → alike xs ys ≡ true → xs ≡ ys
unfolding alike
alike_true [] [] e = refl
alike_true [] (y ∷ ys) e = cc
alike_true (x ∷ xs) [] e = cc
alike_true (x ∷ xs) (y ∷ ys) e =
    let p = both (eqb x y) (alike xs ys) e in
    ap₂ (λ (a : ℕ) (r : List ℕ). a ∷ r) (eqb-true x y p.0) (alike_true xs ys p.1)

-- and a list is like itself
pub alike_refl : (xs : List ℕ) → alike xs xs ≡ true
unfolding alike
alike_refl [] = refl
alike_refl (x ∷ xs) = rw (eq-eqb x x refl, alike_refl xs)

-- so bytes are told apart
pub tells_bytes : Tells alike
tells_bytes = record { sound = alike_true; complete = λ xs ys e. rw (← e) (alike_refl xs) }

-- tables are alike where their entries are the same
module _ (f g : ℕ → ℕ) (n : ℕ) where
  tabs_alike : ((i : ℕ) → i < n → f i ≡ g i) → alike (tab f 0 n) (tab g 0 n) ≡ true
  tabs_alike h =
      let e : tab f 0 n ≡ tab g 0 n = tab_same f g 0 0 n (λ j l. let z : 0 + j ≡ j = omega arith in rw z (h j l)) in
      rw e (alike_refl (tab g 0 n))

  alike_tabs : alike (tab f 0 n) (tab g 0 n) ≡ true → (i : ℕ) → i < n → f i ≡ g i
  alike_tabs e i l =
      let z : 0 + i ≡ i = omega arith in
      rw z at (sym (get_or-tab f 0 n i l) ∙ ap (λ (r : List ℕ). get_or r i 0) (alike_true (tab f 0 n) (tab g 0 n) e) ∙ get_or-tab g 0 n i l)

-- ---- bytes where they stand

module _ (s t : List ℕ) (i j n : ℕ) where
  -- bytes that both images have
  same_inside : i + n ≤ length s → j + n ≤ length t → same_bytes_at s i t j n ≡ alike (tab (raw_byte s i) 0 n) (tab (raw_byte t j) 0 n)
  unfolding same_bytes_at
  same_inside p q = rw (le-leb (i + n) (length s) p, le-leb (j + n) (length t) q)

  -- are the same where each is
  bytes_same : i + n ≤ length s → j + n ≤ length t → ((c : ℕ) → c < n → get_or s (i + c) 0 ≡ get_or t (j + c) 0) → same_bytes_at s i t j n ≡ true
  bytes_same p q h = same_inside p q ∙ tabs_alike (raw_byte s i) (raw_byte t j) n h

  same_bytes : i + n ≤ length s → j + n ≤ length t → same_bytes_at s i t j n ≡ true → (c : ℕ) → c < n → get_or s (i + c) 0 ≡ get_or t (j + c) 0
  same_bytes p q e = alike_tabs (raw_byte s i) (raw_byte t j) n (sym (same_inside p q) ∙ e)

-- ---- fill

module _ (s t : List ℕ) (i j b : ℕ) (least : 4 ≤ b) where
  -- a raw block against a fill block
  repeats_alike : i + b ≤ length s → j + 4 ≤ length t → repeats_word s i t j b ≡ alike (tab (raw_byte s i) 0 b) (tab (fill_byte t j) 0 b)
  unfolding repeats_word
  repeats_alike p q =
      equal_truths (same_bytes_at s i t j 4 && same_bytes_at s (i + 4) s i (b - 4)) (alike (tab (raw_byte s i) 0 b) (tab (fill_byte t j) 0 b)) there back
    where
      word : same_bytes_at s i t j 4 ≡ true → same_bytes_at s (i + 4) s i (b - 4) ≡ true → (k r : ℕ) → r < 4 → r + 4 * k < b → get_or s (i + (r + 4 * k)) 0 ≡ get_or t (j + r) 0
      word e f zero r h l = let z : r + 4 * 0 ≡ r = omega arith in rw z (same_bytes s t i j 4 (omega arith) q e r h)
      word e f (suc k) r h l =
          let z : i + (r + 4 * suc k) ≡ i + 4 + (r + 4 * k) = omega arith in
          rw z (same_bytes s s (i + 4) i (b - 4) (omega arith) (omega arith) f (r + 4 * k) (omega arith) ∙ word e f k r h (omega arith))

      there : (same_bytes_at s i t j 4 && same_bytes_at s (i + 4) s i (b - 4)) ≡ true → alike (tab (raw_byte s i) 0 b) (tab (fill_byte t j) 0 b) ≡ true
      there e =
          let g = both (same_bytes_at s i t j 4) (same_bytes_at s (i + 4) s i (b - 4)) e in
          tabs_alike (raw_byte s i) (fill_byte t j) b
          (λ m l. let z : m % 4 + 4 * (m / 4) ≡ m = omega arith in rw z at (word g.0 g.1 (m / 4) (m % 4) (mod-lt m (zero-lt-suc 3)) (omega arith)))

      back : alike (tab (raw_byte s i) 0 b) (tab (fill_byte t j) 0 b) ≡ true → (same_bytes_at s i t j 4 && same_bytes_at s (i + 4) s i (b - 4)) ≡ true
      back e =
          let at = alike_tabs (raw_byte s i) (fill_byte t j) b e in
          let first : same_bytes_at s i t j 4 ≡ true =
          bytes_same s t i j 4 (omega arith) q (λ c l. let z : c % 4 ≡ c = omega arith in at c (omega arith) ∙ rw z) in
          let later : same_bytes_at s (i + 4) s i (b - 4) ≡ true =
          bytes_same s s (i + 4) i (b - 4) (omega arith) (omega arith)
          (λ c l.
          let y : i + 4 + c ≡ i + (4 + c) = omega arith in
          let z : (4 + c) % 4 ≡ c % 4 = omega arith in
          rw y (at (4 + c) (omega arith) ∙ rw z (sym (at c (omega arith))))) in
          rw (first, later)

  -- two fill blocks
  words_alike : i + 4 ≤ length s → j + 4 ≤ length t → same_bytes_at s i t j 4 ≡ alike (tab (fill_byte s i) 0 b) (tab (fill_byte t j) 0 b)
  words_alike p q =
      equal_truths (same_bytes_at s i t j 4) (alike (tab (fill_byte s i) 0 b) (tab (fill_byte t j) 0 b))
      (λ e. tabs_alike (fill_byte s i) (fill_byte t j) b (λ m l. same_bytes s t i j 4 p q e (m % 4) (mod-lt m (zero-lt-suc 3))))
      (λ e.
      bytes_same s t i j 4 p q
      (λ c l. let z : c % 4 ≡ c = omega arith in rw z at (alike_tabs (fill_byte s i) (fill_byte t j) b e c (omega arith))))

-- ---- blocks

alike_swap : (xs ys : List ℕ) → alike xs ys ≡ alike ys xs
alike_swap xs ys =
    equal_truths (alike xs ys) (alike ys xs) (λ e. rw (alike_true xs ys e) (alike_refl ys)) (λ e. rw (alike_true ys xs e) (alike_refl xs))

-- the bytes of a block of a kind that writes
abbrev bytes_of : List ℕ → ℕ → Kind → ℕ → List ℕ
bytes_of s b k at = cond (is_raw k) (tab (raw_byte s at) 0 b) (tab (fill_byte s at) 0 b)

-- one that is written has bytes
pub record Written (s : List ℕ) (b : ℕ) (k : Kind) (at : ℕ) : Type 0 where
  pub bytes : List ℕ
  pub is : block_from s b k at ≡ some bytes
  pub by : bytes ≡ bytes_of s b k at

pub written : (s : List ℕ) (b : ℕ) (k : Kind) (at : ℕ) → writes k ≡ true → Written s b k at
unfolding block_from
written s b Raw at e = record { bytes = tab (raw_byte s at) 0 b; is = refl; by = refl }
written s b Fill at e = record { bytes = tab (fill_byte s at) 0 b; is = refl; by = refl }
written s b DontCare at e = let z : ◌≡◌ {A = ℕ} 0 1 = cc in absurd (omega arith)
written s b Unknown at e = let z : ◌≡◌ {A = ℕ} 0 1 = cc in absurd (omega arith)

-- one that is kept has none
pub kept : (s : List ℕ) (b : ℕ) (k : Kind) (at : ℕ) → writes k ≡ false → block_from s b k at ≡ none
unfolding block_from
kept s b Raw at e = cc
kept s b Fill at e = cc
kept s b DontCare at e = refl
kept s b Unknown at e = refl

-- where the data of a chunk's first block lie: b bytes of raw data, and else 4
block_inside : {s : List ℕ} {b : ℕ} {x : Chunk} → Summable s b x → 0 < x.blocks → writes x.kind ≡ true
    → x.body + cond (is_raw x.kind) b 4 ≤ length s
block_inside {s} {b} {x} w h e = go x.kind w.inside e
  where
    go : (k : Kind) → x.body + data_bytes k x.blocks b ≤ length s → writes k ≡ true → x.body + cond (is_raw k) b 4 ≤ length s
    go Raw i e = omega (arith, at_least x.blocks b h)
    go Fill i e = i
    go DontCare i e = let z : ◌≡◌ {A = ℕ} 0 1 = cc in absurd (omega arith)
    go Unknown i e = let z : ◌≡◌ {A = ℕ} 0 1 = cc in absurd (omega arith)

-- the first blocks of two chunks that write are compared by their bytes
module _ {s t : List ℕ} {b : ℕ} {x y : Chunk} (least : 4 ≤ b) (v : Summable s b x) (w : Summable t b y) (g : 0 < x.blocks) (h : 0 < y.blocks)
    (e : writes x.kind ≡ true) (f : writes y.kind ≡ true) where
  pub block_alike : same_block s x t y b ≡ alike (written s b x.kind x.body e).bytes (written t b y.kind y.body f).bytes
  unfolding same_block
  block_alike =
      go (is_raw x.kind) (is_raw y.kind) (block_inside v g e) (block_inside w h f)
      ∙ sym (ap₂ alike (written s b x.kind x.body e).by (written t b y.kind y.body f).by)
    where
      go : (r q : Bool) → x.body + cond r b 4 ≤ length s → y.body + cond q b 4 ≤ length t
          → cond r (cond q (same_bytes_at s x.body t y.body b) (repeats_word s x.body t y.body b))
          (cond q (repeats_word t y.body s x.body b) (same_bytes_at s x.body t y.body 4))
          ≡ alike (cond r (tab (raw_byte s x.body) 0 b) (tab (fill_byte s x.body) 0 b)) (cond q (tab (raw_byte t y.body) 0 b) (tab (fill_byte t y.body) 0 b))
      go true true i j = same_inside s t x.body y.body b i j
      go true false i j = repeats_alike s t x.body y.body b least i j
      go false true i j = repeats_alike t s y.body x.body b least j i ∙ alike_swap (tab (raw_byte t y.body) 0 b) (tab (fill_byte s x.body) 0 b)
      go false false i j = words_alike s t x.body y.body b least i j

some_same : (xs ys : List ℕ) → ◌≡◌ {A = Block} (some xs) (some ys) → xs ≡ ys
some_same xs ys e = cc

-- the first blocks of two chunks that write are found the same exactly where they are
pub compared : Compared
compared s t b x y least v w g h e f =
    let p = written s b x.kind x.body e in
    let q = written t b y.kind y.body f in
    let same = block_alike least v w g h e f in
    record {
      sound = λ k. p.is ∙ ap some (alike_true p.bytes q.bytes (sym same ∙ k)) ∙ sym q.is;
      complete = λ k. same ∙ tells_bytes.complete p.bytes q.bytes (some_same p.bytes q.bytes (sym p.is ∙ k ∙ q.is));
    }
