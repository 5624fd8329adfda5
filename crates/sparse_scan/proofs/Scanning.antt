-- What a scan of blocks keeps: the words of a block, the blocks in front that are of a kind, and the first run.
-- Assumes nothing.
use mathlib.Core.Path.{◌≡◌, refl, sym, ap, ◌∙◌}
use mathlib.Core.Bool.{Bool, true, false, cond}
use mathlib.Core.List.{List, ◌∷◌}
use Rattle.std.specs.Prelude.{Option}
use Prim.Native.Nat.{ℕ, zero, suc, ◌+◌, ◌-◌, ◌*◌, ◌/◌, ◌%◌, ◌≤◌, ◌<◌}
use native.Mathlib.Nat.{not-suc-le-zero, suc-mul, sub-zero, mul-le-mul_right}
use native.Mathlib.Numerals.{sub-one, add-one}
use native.Mathlib.Omega.{arith}
use Rattle.fields_rules.specs.Number.{number_at}
use Rattle.sparse_write_rules.specs.Kinds.{BlockKind, kept, same_kind, all_equal}
use Rattle.sparse_write_rules.specs.Runs.{in_front, runs}
use Rattle.sparse_write_rules.proofs.KindSteps.{equal_none, equal_next, equal_differs}
use Rattle.sparse_write_rules.proofs.Runs.{split_blocks, tells_kinds, of, apart, differ, front_same, front_other}
use Rattle.sparse_write_rules.specs.declared.Stored.{Stored}
use Rattle.sparse_write_rules.specs.KindOf.{kind_of}
use Rattle.sparse_scan.specs.Scan.{kinds_at, runs_at, first_kind, leading, following, run_blocks, after_run}

-- ---- the words of a block

-- k words are left from byte i to byte end, and on them hangs whether all of the block's are w
pub record Rest (s : List ℕ) (whole : Bool) (w i end : ℕ) : Type 0 where
  pub k : ℕ
  pub ends : i + k * 4 ≡ end
  pub goes : whole ≡ all_equal s w k i

module _ {s : List ℕ} {whole : Bool} {w i end : ℕ} (r : Rest s whole w i end) where
  one_more : i < end → (j : ℕ) × (r.k ≡ suc j)
  one_more h = let e : i + r.k * 4 ≡ end = r.ends in (r.k - 1, omega arith)

  -- a word that is w is passed
  pub rest_next : i < end → number_at s i 4 ≡ w → Rest s whole w (i + 4) end
  rest_next h e =
      let m = one_more h in
      let q : i + r.k * 4 ≡ end = r.ends in
      record {
        k = m.0;
        ends = omega (arith, m.1);
        goes = r.goes ∙ ap (λ (n : ℕ). all_equal s w n i) m.1 ∙ equal_next s w m.0 i e;
      }

  -- one that differs decides
  pub rest_differs : i < end → (number_at s i 4 ≡ w → ⊥) → whole ≡ false
  rest_differs h e =
      let m = one_more h in
      r.goes ∙ ap (λ (n : ℕ). all_equal s w n i) m.1 ∙ equal_differs s w m.0 i e

  -- and so does the end
  pub rest_done : end ≤ i → whole ≡ true
  rest_done h =
      let q : i + r.k * 4 ≡ end = r.ends in
      let z : r.k ≡ 0 = omega arith in
      r.goes ∙ ap (λ (n : ℕ). all_equal s w n i) z ∙ equal_none s w i

rest_words : (s : List ℕ) (words at w : ℕ) → 0 < words → w ≡ number_at s at 4 → Rest s (all_equal s w words at) w (at + 4) (at + words * 4)
rest_words s zero at w h e = absurd (not-suc-le-zero h)
rest_words s (suc k) at w h e = record { k = k; ends = omega arith; goes = equal_next s w k at (sym e) }

module _ (s : List ℕ) (b at w : ℕ) (e : w ≡ number_at s at 4) where
  -- a block begins with its first word
  pub rest_first : 4 ≤ b → b % 4 ≡ 0 → Rest s (all_equal s w (b / 4) at) w (at + 4) (at + b)
  rest_first h m =
      let q : at + b / 4 * 4 ≡ at + b = omega arith in
      rw q at (rest_words s (b / 4) at w (omega arith) e)

-- ---- the blocks in front that are of a kind

module _ (f : ℕ → BlockKind) (b : ℕ) (kind : BlockKind) where
  leading_on : (n at : ℕ) → 0 < n → f at ≡ kind → leading f b kind n at ≡ suc (leading f b kind (n - 1) (at + b))
  unfolding leading
  leading_on zero at h e = absurd (not-suc-le-zero h)
  leading_on (suc n) at h e = rw (tells_kinds.complete (f at) kind e, sub-one)

  leading_off : (n at : ℕ) → (f at ≡ kind → ⊥) → leading f b kind n at ≡ 0
  unfolding leading
  leading_off zero at d = refl
  leading_off (suc n) at d = rw (differ same_kind tells_kinds (f at) kind d)

  following_on : (n at : ℕ) → 0 < n → f at ≡ kind → following f b kind n at ≡ following f b kind (n - 1) (at + b)
  unfolding following
  following_on zero at h e = absurd (not-suc-le-zero h)
  following_on (suc n) at h e = rw (tells_kinds.complete (f at) kind e, sub-one)

  following_off : (n at : ℕ) → 0 < n → (f at ≡ kind → ⊥) → following f b kind n at ≡ f at
  unfolding following
  following_off zero at h d = absurd (not-suc-le-zero h)
  following_off (suc n) at h d = rw (differ same_kind tells_kinds (f at) kind d)

-- m blocks of a kind lie behind, and on those left hangs what is found
pub record Scanned (f : ℕ → BlockKind) (b n from : ℕ) (kind : BlockKind) (m : ℕ) : Type 0 where
  pub counts : leading f b kind n from ≡ m + leading f b kind (n - m) (from + m * b)
  pub follows : following f b kind n from ≡ following f b kind (n - m) (from + m * b)

-- at first none
pub scan_start : (f : ℕ → BlockKind) (b n from : ℕ) (kind : BlockKind) → Scanned f b n from kind 0
scan_start f b n from kind =
    let z : from + 0 * b ≡ from = omega arith in
    record { counts = rw (z, sub-zero) (omega arith); follows = rw (z, sub-zero) }

-- the next block lies within
pub scan_room : (b n from m : ℕ) → m < n → from + m * b + b ≤ from + n * b
scan_room b n from m h =
    let e : suc m * b ≤ n * b = mul-le-mul_right b h in
    omega (arith, suc-mul m b)

module _ {f : ℕ → BlockKind} {b n from : ℕ} {kind : BlockKind} {m : ℕ} (r : Scanned f b n from kind m) where
  -- a block of the kind is passed
  pub scan_on : m < n → f (from + m * b) ≡ kind → Scanned f b n from kind (m + 1)
  scan_on h e =
      let at : ℕ = from + m * b in
      let q : n - m - 1 ≡ n - (m + 1) = omega arith in
      let p : at + b ≡ from + (m + 1) * b = omega (arith, ap (λ (k : ℕ). k * b) (add-one m), suc-mul m b) in
      record {
        counts = omega (arith, r.counts, rw (q, p) at (leading_on f b kind (n - m) at (omega arith) e));
        follows = r.follows ∙ rw (q, p) at (following_on f b kind (n - m) at (omega arith) e);
      }

  -- at one that is not, the scan stops
  pub scan_stop : {k : BlockKind} → m < n → f (from + m * b) ≡ k → (kind ≡ k → ⊥) → (m ≡ leading f b kind n from) × (k ≡ following f b kind n from)
  scan_stop h e d =
      let g : f (from + m * b) ≡ kind → ⊥ = λ q. d (sym q ∙ e) in (
        omega (arith, r.counts, leading_off f b kind (n - m) (from + m * b) g),
        sym e ∙ sym (r.follows ∙ following_off f b kind (n - m) (from + m * b) (omega arith) g),
      )

  -- and at the end
  pub scan_end : m ≡ n → (n ≡ leading f b kind n from) × (kept ≡ following f b kind n from)
  unfolding leading following
  scan_end h =
      let z : n - m ≡ 0 = omega arith in
      let l : leading f b kind (n - m) (from + m * b) ≡ 0 = rw z in
      (omega (arith, r.counts), sym (r.follows ∙ rw z))

-- ---- the first run

-- a block of a kind before others makes a run with the first m of them, and then comes a block of the kind next
pub record Ends (f : ℕ → BlockKind) (b : ℕ) (kind : BlockKind) (n at m : ℕ) (next : BlockKind) : Type 0 where
  pub runs_on : in_front same_kind kind (runs_at f b n at) ≡ of kind (suc m) ∷ runs_at f b (n - m) (at + m * b)
  pub fits : m ≤ n
  pub alike : (j : ℕ) → j < m → f (at + j * b) ≡ kind
  pub goes : next ≡ first_kind f (n - m) (at + m * b)

-- a block before others: what is said of those after it holds from it on
next_alike : (f : ℕ → BlockKind) (b : ℕ) (kind : BlockKind) (m at : ℕ) → f at ≡ kind → ((j : ℕ) → j < m → f (at + b + j * b) ≡ kind) → (j : ℕ) → j < suc m → f (at + j * b) ≡ kind
next_alike f b kind m at e h zero l = let z : at + 0 * b ≡ at = omega arith in ap f z ∙ e
next_alike f b kind m at e h (suc j) l = let z : at + suc j * b ≡ at + b + j * b = omega (arith, suc-mul j b) in ap f z ∙ h j (omega arith)

run_on : (f : ℕ → BlockKind) (b : ℕ) (kind : BlockKind) (n at : ℕ) → Ends f b kind n at (leading f b kind n at) (following f b kind n at)
unfolding leading following runs kinds_at
run_on f b kind zero at =
    record { runs_on = refl; fits = omega arith; alike = λ j l. absurd (omega arith); goes = refl }
run_on f b kind (suc n) at =
    go (leading f b kind n (at + b)) (following f b kind n (at + b)) (run_on f b kind n (at + b)) (same_kind (f at) kind) refl
  where
    go : (m : ℕ) (next : BlockKind) → Ends f b kind n (at + b) m next → (x : Bool) → same_kind (f at) kind ≡ x
        → Ends f b kind (suc n) at (cond x (suc m) 0) (cond x next (f at))
    go m next i true e =
        let k : f at ≡ kind = tells_kinds.sound (f at) kind e in
        let q : suc n - suc m ≡ n - m = omega arith in
        let p : at + suc m * b ≡ at + b + m * b = omega (arith, suc-mul m b) in
        record {
          runs_on = ap (λ (x : BlockKind). in_front same_kind kind (in_front same_kind x (runs_at f b n (at + b)))) k ∙ ap (in_front same_kind kind) i.runs_on ∙ front_same same_kind tells_kinds kind (suc m) _ ∙ rw (q, p);
          fits = omega (arith, i.fits);
          alike = next_alike f b kind m at k i.alike;
          goes = rw (q, p) i.goes;
        }
    go m next i false e =
        let z : at + 0 * b ≡ at = omega arith in
        let d : kind ≡ f at → ⊥ = λ q. apart same_kind tells_kinds (f at) kind e (sym q) in
        record {
          runs_on = front_other same_kind tells_kinds kind (f at) (runs_at f b n (at + b)) d ∙ rw (z, sub-zero);
          fits = omega arith;
          alike = λ j l. absurd (omega arith);
          goes = rw (z, sub-zero);
        }

-- where there is no block, nothing is found
pub run_none : (f : ℕ → BlockKind) (b : ℕ) (kind : BlockKind) (n at : ℕ) → n ≡ 0 → (0 ≡ run_blocks f b kind n at) × (kept ≡ after_run f b kind n at) × (kept ≡ first_kind f n at)
run_none f b kind zero at e = (refl, refl, refl)
run_none f b kind (suc n) at e = absurd (omega arith)

-- where there is one, the scan goes from the second on
pub run_some : (f : ℕ → BlockKind) (b : ℕ) (kind : BlockKind) (n at : ℕ) {m : ℕ} {k : BlockKind} → 0 < n → m ≡ leading f b kind (n - 1) (at + b) → k ≡ following f b kind (n - 1) (at + b)
    → (m + 1 ≡ run_blocks f b kind n at) × (k ≡ after_run f b kind n at) × (m + 1 ≤ n)
run_some f b kind zero at h l g = absurd (not-suc-le-zero h)
run_some f b kind (suc n) at h l g =
    let one : suc n - 1 ≡ n = omega arith in
    let m : _ ≡ leading f b kind n (at + b) = rw one at l in
    (omega arith, rw one at g, omega (arith, (run_on f b kind n (at + b)).fits))

-- where there is one, the first kind is its own
pub first_of : (f : ℕ → BlockKind) (n at : ℕ) → 0 < n → first_kind f n at ≡ f at
first_of f zero at h = absurd (omega arith)
first_of f (suc n) at h = refl

-- what follows those of a kind that the first block is not is the first block
pub first_follows : (f : ℕ → BlockKind) (b : ℕ) (kind : BlockKind) (n at : ℕ) {k : BlockKind} → 0 < n → (f at ≡ kind → ⊥) → k ≡ following f b kind n at → k ≡ first_kind f n at
first_follows f b kind zero at h d g = absurd (not-suc-le-zero h)
first_follows f b kind (suc n) at h d g = g ∙ following_off f b kind (suc n) at h d

-- the first run of n blocks: what is stored of its blocks, how many blocks and bytes it has, and what is stored of the one after it
pub record FirstRun (f : ℕ → BlockKind) (b n at : ℕ) (kind : Option Stored) (many len : ℕ) (next : Option Stored) : Type 0 where
  -- it stands before the runs of the blocks after it
  pub first : runs_at f b n at ≡ of (kind_of kind) many ∷ runs_at f b (n - many) (at + len)
  -- it has a block, and no more than there are
  pub some : 0 < many
  pub fits : many ≤ n
  -- its bytes are those of its blocks
  pub long : len ≡ many * b
  -- and with those of the blocks after it they are all
  pub rest : len + (n - many) * b ≡ n * b
  -- each of its blocks is of its kind
  pub alike : (j : ℕ) → j < many → f (at + j * b) ≡ kind_of kind
  -- and the one after it is of the next; kept where none is left
  pub goes : kind_of next ≡ first_kind f (n - many) (at + len)

-- what is found from a block of the first run's kind on is the first run
pub first_is : (f : ℕ → BlockKind) (b n at : ℕ) (kind : Option Stored) {m len : ℕ} {k : Option Stored} → 0 < n → kind_of kind ≡ f at → m ≡ run_blocks f b (kind_of kind) n at
    → len ≡ m * b → kind_of k ≡ after_run f b (kind_of kind) n at → FirstRun f b n at kind m len k
unfolding kinds_at runs
first_is f b zero at kind h e l w g = absurd (not-suc-le-zero h)
first_is f b (suc n) at kind {m} {len} {k} h e l w g =
    let j : ℕ = leading f b (kind_of kind) n (at + b) in
    let r : Ends f b (kind_of kind) n (at + b) j (kind_of k) = rw (← g) at (run_on f b (kind_of kind) n (at + b)) in
    let q : suc n - suc j ≡ n - j = omega arith in
    let p : at + len ≡ at + b + j * b = omega (arith, w, suc-mul j b, ap (λ (x : ℕ). x * b) l) in
    record {
      first = ap (λ (x : BlockKind). in_front same_kind x (runs_at f b n (at + b))) (sym e) ∙ r.runs_on ∙ rw (l, q, p);
      some = omega arith;
      fits = omega (arith, r.fits);
      long = w;
      rest = rw w (split_blocks (suc n) m b (omega (arith, r.fits)));
      alike = λ i i<. next_alike f b (kind_of kind) j at (sym e) r.alike i (omega arith);
      goes = r.goes ∙ rw (l, q, p);
    }
