-- Bytes one after the other, and a stretch of them at once.
-- Assumes nothing.
use mathlib.Core.Path.{◌≡◌, refl, sym, ap, ap₂, ◌∙◌}
use mathlib.Core.Bool.{Bool, true, false, not, ◌&&◌, ◌||◌}
use mathlib.Core.Option.{some}
use mathlib.Core.List.{List, [], ◌∷◌, ◌++◌, map}
use Prim.Native.Nat.{ℕ, suc, ◌+◌, ◌-◌, min, ◌≤◌, ◌<◌}
use native.Mathlib.Omega.{arith}
use lib.Dec.{leb, ltb}
use lib.Seq.{sets}
use lib.ListN.{length, set}
use borrow.Author.Tests.{ltb-false, leb-false, lt-ltb, le-ltb, le-leb, lt-leb, eq-eqb, ne_eqb}
use Rattle.sparse_rules.specs.declared.Kind.{Kind}
use Rattle.sparse_rules.specs.declared.Kind.TheVariants.{Raw, Fill, DontCare, Unknown}
use Rattle.sparse_store_rules.specs.Store.{laid}
use Rattle.sparse_stream_rules.specs.declared.Pass.{Pass}
use Rattle.sparse_stream_rules.specs.State.{head_of, kind_now, span_now, end_now, data_by, gap, stuck, moved, keeping, in_data}
use Rattle.sparse_stream_rules.specs.Steps.{sum_on, settled, headed, chunk_taken, chunk_kept, gathered, fill_sum, word_kept, worded, data_taken, carried, stepped, fed}
use Rattle.sparse_stream_rules.specs.Laid.{fill_laid, data_laid, laid_by, stores}
use Rattle.sparse_stream_rules.proofs.Sums.{sum_on-append}
use Rattle.sparse_stream_rules.proofs.StateLaws.{settled_before}
use Rattle.sparse_store_rules.proofs.Over.{laid_cons}
use Rattle.rules.proofs.Tests.{or_left, or_right, and_rest}

-- ---- a state that takes bytes

-- it is not refused, and its place is no further than a chunk's header
pub free_number : (x : Pass) → stuck x ≡ false → x.refusal.number ≡ 0
unfolding stuck
free_number x e = omega (arith, ltb-false 0 x.refusal.number (or_left (ltb 0 x.refusal.number) (leb 28 x.come.bytes && leb 12 (x.come.bytes - x.walk.next.at)) e))

-- its place is no further than the header of a chunk
pub free_near : (x : Pass) → stuck x ≡ false → 28 ≤ x.come.bytes → x.come.bytes - x.walk.next.at < 12
unfolding stuck
free_near x e h =
    leb-false 12 (x.come.bytes - x.walk.next.at)
    (and_rest (leb 28 x.come.bytes) (leb 12 (x.come.bytes - x.walk.next.at)) (or_right (ltb 0 x.refusal.number) (leb 28 x.come.bytes && leb 12 (x.come.bytes - x.walk.next.at)) e) (le-leb 28 x.come.bytes h))

-- a state in a chunk is free where it is not refused
pub free_before : (x : Pass) → x.refusal.number ≡ 0 → x.come.bytes - x.walk.next.at < 12 → stuck x ≡ false
unfolding stuck
free_before x n h = go (leb 28 x.come.bytes) refl
  where
    go : (y : Bool) → leb 28 x.come.bytes ≡ y → (ltb 0 x.refusal.number || (leb 28 x.come.bytes && leb 12 (x.come.bytes - x.walk.next.at))) ≡ false
    go true e = rw (le-ltb 0 x.refusal.number (omega arith), lt-leb 12 (x.come.bytes - x.walk.next.at) h, e)
    go false e = rw (le-ltb 0 x.refusal.number (omega arith), e)

module _ (x : Pass) (b : ℕ) where
  pub step_stuck : stuck x ≡ true → stepped x b ≡ x
  unfolding stepped
  step_stuck e = rw e

  module _ (free : stuck x ≡ false) where
    pub step_head : x.come.bytes < 28 → stepped x b ≡ headed x b
    unfolding stepped
    step_head h = rw (free, lt-ltb _ _ h)

    module _ (known : 28 ≤ x.come.bytes) where
      pub step_data : x.come.bytes < x.walk.next.at → stepped x b ≡ carried x b
      unfolding stepped
      step_data h = rw (free, le-ltb _ _ known, lt-ltb _ _ h)

      pub step_chunk : x.walk.next.at ≤ x.come.bytes → stepped x b ≡ gathered x b
      unfolding stepped
      step_chunk h = rw (free, le-ltb _ _ known, le-ltb _ _ h)

  -- a byte that is passed over
  pub carried_pass : data_by (kind_now x) x < gap x → carried x b ≡ settled (moved x 1 x.come.sum)
  unfolding carried
  carried_pass h = rw (lt-ltb _ _ h)

  -- a byte of data
  pub carried_data : gap x ≤ data_by (kind_now x) x → carried x b ≡ settled (data_taken (kind_now x) x b)
  unfolding carried
  carried_data h = rw (le-ltb _ _ h)

-- ---- bytes

-- bytes in two parts
pub fed_append : (x : Pass) (ys zs : List ℕ) → fed x (ys ++ zs) ≡ fed (fed x ys) zs
unfolding fed
fed_append x [] zs = refl
fed_append x (b ∷ ys) zs = fed_append (stepped x b) ys zs

-- a state that takes none
pub fed_stuck : (x : Pass) (ys : List ℕ) → stuck x ≡ true → fed x ys ≡ x
unfolding fed
fed_stuck x [] e = refl
fed_stuck x (b ∷ ys) e = rw (step_stuck x b e) (fed_stuck x ys e)

-- a single byte
pub fed_one : (x : Pass) (b : ℕ) → fed x (b ∷ []) ≡ stepped x b
unfolding fed
fed_one x b = refl

-- two moves are one
moved_twice : (x : Pass) (m s t : ℕ) → moved (moved x 1 s) m t ≡ moved x (suc m) t
moved_twice x m s t =
    let e : x.come.bytes + 1 + m ≡ x.come.bytes + suc m = omega arith in
    ap (λ (n : ℕ). record { told = x.told; refusal = x.refusal; come = record { bytes = n; sum = t }; walk = x.walk; kept = x.kept }) e

-- the data of a chunk stay where they are
pub data_moved : (k : Kind) (x : Pass) (m s : ℕ) → data_by k (moved x m s) ≡ data_by k x
data_moved Raw x m s = refl
data_moved Fill x m s = refl
data_moved DontCare x m s = refl
data_moved Unknown x m s = refl

-- bytes before the data stay before them
before_data : (k : Kind) (x : Pass) (m s n g : ℕ) → n + data_by k x ≤ g → n + data_by k (moved x m s) ≤ g
before_data k x m s n g h = rw (data_moved k x m s) h

-- and bytes of data stay data
in-data : (k : Kind) (x : Pass) (m s g : ℕ) → g ≤ data_by k x → g ≤ data_by k (moved x m s)
in-data k x m s g h = rw (data_moved k x m s) h

-- bytes that are passed over
pub fed_pass : (x : Pass) (b : ℕ) (bs : List ℕ) → stuck x ≡ false → 28 ≤ x.come.bytes → suc (length bs) + data_by (kind_now x) x ≤ gap x
    → fed x (b ∷ bs) ≡ settled (moved x (suc (length bs)) x.come.sum)
unfolding fed
fed_pass x b [] free known h =
    step_data x b free known (omega arith) ∙ carried_pass x b (omega arith)
fed_pass x b (c ∷ bs) free known h =
    let g : stepped x b ≡ moved x 1 x.come.sum =
    step_data x b free known (omega arith) ∙ carried_pass x b (omega arith)
    ∙ settled_before (moved x 1 x.come.sum) (λ (e : x.come.bytes + 1 ≡ x.walk.next.at). absurd (omega arith)) in
    rw g
    (fed_pass (moved x 1 x.come.sum) c bs (free_before (moved x 1 x.come.sum) (free_number x free) (omega arith)) (omega arith) (before_data (kind_now x) x 1 x.come.sum (suc (length bs)) (x.walk.next.at - (x.come.bytes + 1)) (omega arith))
    ∙ ap settled (moved_twice x (suc (length bs)) x.come.sum x.come.sum))

-- raw data
pub fed_raw : (x : Pass) (b : ℕ) (bs : List ℕ) → stuck x ≡ false → 28 ≤ x.come.bytes → kind_now x ≡ Raw → gap x ≤ data_by (kind_now x) x → suc (length bs) ≤ gap x
    → fed x (b ∷ bs) ≡ settled (moved x (suc (length bs)) (sum_on (head_of x) x.come.sum (b ∷ bs)))
unfolding fed
fed_raw x b [] free known k d h = step_data x b free known (omega arith) ∙ carried_data x b d ∙ rw k
fed_raw x b (c ∷ bs) free known k d h =
    let s : ℕ = sum_on (head_of x) x.come.sum (b ∷ []) in
    let g : stepped x b ≡ moved x 1 s =
    step_data x b free known (omega arith) ∙ carried_data x b d ∙ rw k
    (settled_before (moved x 1 s) (λ (e : x.come.bytes + 1 ≡ x.walk.next.at). absurd (omega arith))) in
    rw g
    (fed_raw (moved x 1 s) c bs (free_before (moved x 1 s) (free_number x free) (omega arith)) (omega arith) k (in-data (kind_now x) x 1 s (x.walk.next.at - (x.come.bytes + 1)) (omega arith)) (omega arith)
    ∙ ap settled (moved_twice x (suc (length bs)) s (sum_on (head_of x) s (c ∷ bs)) ∙ ap (moved x (suc (suc (length bs)))) (sym (sum_on-append (head_of x) x.come.sum (b ∷ []) (c ∷ bs)))))

-- ---- what bytes store

-- ---- whether the next byte is one of data

module _ (x : Pass) where
  -- none of the file header is
  pub data_not_yet : x.come.bytes < 28 → in_data x ≡ false
  unfolding in_data
  data_not_yet h = go (stuck x)
    where
      go : (y : Bool) → (not y && leb 28 x.come.bytes && ltb x.come.bytes x.walk.next.at && leb (gap x) (data_by (kind_now x) x)) ≡ false
      go true = refl
      go false = rw (lt-leb 28 x.come.bytes h)

  -- none of a chunk header
  pub data_after : x.walk.next.at ≤ x.come.bytes → in_data x ≡ false
  unfolding in_data
  data_after h = go (stuck x) (leb 28 x.come.bytes)
    where
      go : (y z : Bool) → (not y && z && ltb x.come.bytes x.walk.next.at && leb (gap x) (data_by (kind_now x) x)) ≡ false
      go true z = refl
      go false true = rw (le-ltb x.come.bytes x.walk.next.at h)
      go false false = refl

  -- none that is passed over
  pub data_before : data_by (kind_now x) x < gap x → in_data x ≡ false
  unfolding in_data
  data_before h = go (stuck x) (leb 28 x.come.bytes) (ltb x.come.bytes x.walk.next.at)
    where
      go : (y z w : Bool) → (not y && z && w && leb (gap x) (data_by (kind_now x) x)) ≡ false
      go true z w = refl
      go false true true = rw (lt-leb (gap x) (data_by (kind_now x) x) h)
      go false true false = refl
      go false false w = refl

  -- and all others are
  pub data_there : stuck x ≡ false → 28 ≤ x.come.bytes → x.come.bytes < x.walk.next.at → gap x ≤ data_by (kind_now x) x → in_data x ≡ true
  unfolding in_data
  data_there free known h d = rw (free, le-leb _ _ known, lt-ltb _ _ h, le-leb _ _ d)

module _ (x : Pass) (b : ℕ) (p : List ℕ) where
  pub lays_stuck : stuck x ≡ true → laid_by x b p ≡ p
  unfolding laid_by in_data
  lays_stuck e = rw e

  -- where it is none, nothing is stored
  pub lays_none : in_data x ≡ false → laid_by x b p ≡ p
  unfolding laid_by
  lays_none e = rw e

  -- where it is one, it stores by its kind
  pub lays_data : stuck x ≡ false → 28 ≤ x.come.bytes → x.come.bytes < x.walk.next.at → gap x ≤ data_by (kind_now x) x → laid_by x b p ≡ data_laid (kind_now x) x b p
  unfolding laid_by
  lays_data free known h d = rw (data_there x free known h d)

-- the bytes of a chunk header that are still missing, all at once
pub fed_header : (x : Pass) (bs : List ℕ) → x.refusal.number ≡ 0 → 28 ≤ x.come.bytes → x.walk.next.at ≤ x.come.bytes
    → x.come.bytes - x.walk.next.at + length bs ≡ 12 → 0 < length bs
    → fed x bs ≡ chunk_taken (moved (keeping x (record { file = x.kept.file; chunk = sets x.kept.chunk (x.come.bytes - x.walk.next.at) bs; word = x.kept.word })) (length bs) x.come.sum)
unfolding fed gathered
fed_header x [] n k h l p = absurd (omega arith)
fed_header x (b ∷ []) n k h l p =
    fed_one x b ∙ step_chunk x b (free_before x n (omega arith)) k h ∙ last (omega arith)
  where
    last : x.come.bytes - x.walk.next.at ≡ 11 → gathered x b ≡ chunk_taken (chunk_kept x b)
    last e = rw (eq-eqb _ _ e)
fed_header x (b ∷ (c ∷ bs)) n k h l p =
    ap (λ (y : Pass). fed y (c ∷ bs)) (step_chunk x b (free_before x n (omega arith)) k h ∙ more (λ e. omega arith))
    ∙ fed_header (chunk_kept x b) (c ∷ bs) n (omega arith) (omega arith) (omega arith) (omega arith)
    ∙ ap₂
    (λ (i m : ℕ). chunk_taken
    (record {
      told = x.told;
      refusal = x.refusal;
      come = record { bytes = m; sum = x.come.sum };
      walk = x.walk;
      kept = record { file = x.kept.file; chunk = sets (set x.kept.chunk (x.come.bytes - x.walk.next.at) b) i (c ∷ bs); word = x.kept.word };
    }))
    (at_next h) (omega arith)
  where
    at_next : x.walk.next.at ≤ x.come.bytes → x.come.bytes + 1 - x.walk.next.at ≡ suc (x.come.bytes - x.walk.next.at)
    at_next g = omega (arith, g)

    more : (x.come.bytes - x.walk.next.at ≡ 11 → ⊥) → gathered x b ≡ chunk_kept x b
    more e = rw (ne_eqb _ _ e)

-- the bytes of a chunk header store nothing
pub stores_header : (x : Pass) (bs p : List ℕ) → x.refusal.number ≡ 0 → 28 ≤ x.come.bytes → x.walk.next.at ≤ x.come.bytes
    → x.come.bytes - x.walk.next.at + length bs ≤ 12 → stores x bs p ≡ p
unfolding stores gathered
stores_header x [] p n k h l = refl
stores_header x (b ∷ []) p n k h l = lays_none x b p (data_after x h)
stores_header x (b ∷ (c ∷ bs)) p n k h l =
    let e : x.come.bytes - x.walk.next.at ≡ 11 → ⊥ = λ z. omega arith in
    let g : stepped x b ≡ chunk_kept x b = step_chunk x b (free_before x n (omega arith)) k h ∙ rw (ne_eqb _ _ e) in
    rw (g, lays_none x b p (data_after x h)) (stores_header (chunk_kept x b) (c ∷ bs) p n (omega arith) (omega arith) (omega arith))

-- ---- a fill word

-- where the next byte of a word is kept
next_place : (at came : ℕ) → at - came ≤ 4 → 1 < at - came → 4 - (at - (came + 1)) ≡ suc (4 - (at - came))
next_place at came h l = omega arith

-- the state with these bytes in its fill word, from a place on
abbrev pub with_word : Pass → ℕ → List ℕ → Pass
with_word x i bs = keeping x (record { file = x.kept.file; chunk = x.kept.chunk; word = sets x.kept.word i bs })

module _ (x : Pass) (n : x.refusal.number ≡ 0) (known : 28 ≤ x.come.bytes) (k : kind_now x ≡ Fill) (four : gap x ≤ 4)
    (more : 0 < gap x) where
  -- the next byte is one of its data
  word_in : gap x ≤ data_by (kind_now x) x
  word_in = rw k four

  -- and is taken
  word_free : stuck x ≡ false
  word_free = free_before x n (omega arith)

  module _ (b : ℕ) where
    -- it is kept
    word_step : stepped x b ≡ settled (worded x b)
    word_step = step_data x b word_free known (omega arith) ∙ carried_data x b word_in ∙ rw k

    -- the last one counts the whole chunk
    word_last : gap x ≡ 1 → stepped x b ≡ settled (moved (word_kept x b) 1 (fill_sum true (word_kept x b)))
    unfolding worded
    word_last e = word_step ∙ rw (eq-eqb (gap x) 1 e)

    -- an earlier one counts nothing
    word_more : (gap x ≡ 1 → ⊥) → stepped x b ≡ moved (word_kept x b) 1 x.come.sum
    unfolding worded
    word_more e =
        word_step ∙ rw (ne_eqb (gap x) 1 e)
        (settled_before (moved (word_kept x b) 1 x.come.sum) (λ (z : x.come.bytes + 1 ≡ x.walk.next.at). e (omega arith)))

    -- what it stores
    word_lays : (p : List ℕ) → laid_by x b p ≡ data_laid Fill x b p
    word_lays p = lays_data x b p word_free known (omega arith) word_in ∙ rw k

-- the bytes of a fill word that are still missing, all at once
pub fed_word : (x : Pass) (bs : List ℕ) → x.refusal.number ≡ 0 → 28 ≤ x.come.bytes → kind_now x ≡ Fill → gap x ≤ 4
    → gap x ≡ length bs → 0 < length bs
    → fed x bs ≡ settled (moved (with_word x (4 - gap x) bs) (length bs) (fill_sum true (with_word x (4 - gap x) bs)))
unfolding fed
fed_word x [] n known k four l p = absurd (omega arith)
fed_word x (b ∷ []) n known k four l p = word_last x n known k four (omega arith) b l
fed_word x (b ∷ (c ∷ bs)) n known k four l p =
    ap (λ (y : Pass). fed y (c ∷ bs)) (word_more x n known k four (omega arith) b (λ e. omega arith))
    ∙ fed_word (moved (word_kept x b) 1 x.come.sum) (c ∷ bs) n (omega arith) k (omega arith) (omega arith) (omega arith)
    ∙ ap₂
    (λ (i m : ℕ). settled
    (record {
      told = x.told;
      refusal = x.refusal;
      come = record { bytes = m; sum = fill_sum true (with_word (word_kept x b) i (c ∷ bs)) };
      walk = x.walk;
      kept = (with_word (word_kept x b) i (c ∷ bs)).kept;
    }))
    (next_place x.walk.next.at x.come.bytes four (omega arith)) (omega arith)

-- they store the chunk whole
pub stores_word : (x : Pass) (bs p : List ℕ) → x.refusal.number ≡ 0 → 28 ≤ x.come.bytes → kind_now x ≡ Fill → gap x ≤ 4
    → gap x ≡ length bs → 0 < length bs → stores x bs p ≡ fill_laid (with_word x (4 - gap x) bs) p
unfolding stores fill_laid
stores_word x [] p n known k four l q = absurd (omega arith)
stores_word x (b ∷ []) p n known k four l q = word_lays x n known k four (omega arith) b p ∙ rw (eq-eqb (gap x) 1 l)
stores_word x (b ∷ (c ∷ bs)) p n known k four l q =
    let e : gap x ≡ 1 → ⊥ = λ z. omega arith in
    let w : laid_by x b p ≡ p = word_lays x n known k four (omega arith) b p ∙ rw (ne_eqb (gap x) 1 e) in
    rw (word_more x n known k four (omega arith) b e, w)
    (stores_word (moved (word_kept x b) 1 x.come.sum) (c ∷ bs) p n (omega arith) k (omega arith) (omega arith) (omega arith)
    ∙ ap (λ (i : ℕ). fill_laid (with_word (word_kept x b) i (c ∷ bs)) p)
    (next_place x.walk.next.at x.come.bytes four (omega arith)))

-- a single byte
pub stores_one : (x : Pass) (b : ℕ) (p : List ℕ) → stores x (b ∷ []) p ≡ laid_by x b p
unfolding stores
stores_one x b p = refl

-- bytes in two parts
pub stores_append : (x : Pass) (ys zs p : List ℕ) → stores x (ys ++ zs) p ≡ stores (fed x ys) zs (stores x ys p)
unfolding stores fed
stores_append x [] zs p = refl
stores_append x (b ∷ ys) zs p = stores_append (stepped x b) ys zs (laid_by x b p)

-- a state that takes none stores none
pub stores_stuck : (x : Pass) (ys p : List ℕ) → stuck x ≡ true → stores x ys p ≡ p
unfolding stores
stores_stuck x [] p e = refl
stores_stuck x (b ∷ ys) p e = rw (step_stuck x b e, lays_stuck x b p e) (stores_stuck x ys p e)

-- bytes that are passed over store nothing
pub stores_pass : (x : Pass) (b : ℕ) (bs p : List ℕ) → stuck x ≡ false → 28 ≤ x.come.bytes → suc (length bs) + data_by (kind_now x) x ≤ gap x
    → stores x (b ∷ bs) p ≡ p
unfolding stores
stores_pass x b [] p free known h = lays_none x b p (data_before x (omega arith))
stores_pass x b (c ∷ bs) p free known h =
    let g : stepped x b ≡ moved x 1 x.come.sum =
    step_data x b free known (omega arith) ∙ carried_pass x b (omega arith)
    ∙ settled_before (moved x 1 x.come.sum) (λ (e : x.come.bytes + 1 ≡ x.walk.next.at). absurd (omega arith)) in
    rw (g, lays_none x b p (data_before x (omega arith)))
    (stores_pass (moved x 1 x.come.sum) c bs p (free_before (moved x 1 x.come.sum) (free_number x free) (omega arith)) (omega arith) (before_data (kind_now x) x 1 x.come.sum (suc (length bs)) (x.walk.next.at - (x.come.bytes + 1)) (omega arith)))

-- the lesser of two is no more than the second
least_right : (a b : ℕ) → min a b ≤ b
least_right a b = omega arith

-- raw data lie together
pub stores_raw : (x : Pass) (b : ℕ) (bs p : List ℕ) → stuck x ≡ false → 28 ≤ x.come.bytes → kind_now x ≡ Raw → gap x ≤ data_by (kind_now x) x → suc (length bs) ≤ gap x
    → stores x (b ∷ bs) p ≡ laid (end_now x - gap x) (map some (b ∷ bs)) p
unfolding stores
stores_raw x b [] p free known k d h = lays_data x b p free known (omega arith) d ∙ rw k
stores_raw x b (c ∷ bs) p free known k d h =
    let s : ℕ = sum_on (head_of x) x.come.sum (b ∷ []) in
    let g : stepped x b ≡ moved x 1 s =
    step_data x b free known (omega arith) ∙ carried_data x b d ∙ rw k
    (settled_before (moved x 1 s) (λ (e : x.come.bytes + 1 ≡ x.walk.next.at). absurd (omega arith))) in
    let l : laid_by x b p ≡ laid (end_now x - gap x) (some b ∷ []) p = lays_data x b p free known (omega arith) d ∙ rw k in
    let w : gap x ≤ min (span_now x) (end_now x) = rw k at d in
    let e : end_now x - (x.walk.next.at - (x.come.bytes + 1)) ≡ suc (end_now x - gap x) = omega (arith, least_right (span_now x) (end_now x)) in
    rw (g, l)
    (stores_raw (moved x 1 s) c bs (laid (end_now x - gap x) (some b ∷ []) p) (free_before (moved x 1 s) (free_number x free) (omega arith)) (omega arith) k (in-data (kind_now x) x 1 s (x.walk.next.at - (x.come.bytes + 1)) (omega arith)) (omega arith)
    ∙ ap (λ (n : ℕ). laid n (map some (c ∷ bs)) (laid (end_now x - gap x) (some b ∷ []) p)) e
    ∙ laid_cons (end_now x - gap x) b (map some (c ∷ bs)) p)
