-- What bytes leave of a state and a partition: what was told stays, a byte counts one at most, no length changes, and nothing is
-- summed where no checksum is stated.
-- Assumes nothing.
use mathlib.Core.Path.{◌≡◌, refl, ap, ◌∙◌}
use mathlib.Core.Bool.{Bool, true, false, cond}
use mathlib.Core.Option.{none, some}
use mathlib.Core.List.{List, [], ◌∷◌, ◌++◌}
use Prim.Native.Nat.{ℕ, zero, suc, ◌+◌, ◌-◌, ◌≤◌, ◌<◌}
use native.Mathlib.Omega.{arith}
use lib.Dec.{ltb, eqb}
use lib.ListN.{length, set, replicate}
use borrow.Author.Tests.{ltb-true, ltb-false}
use Rattle.rules.specs.First.{first}
use Rattle.sparse_rules.specs.declared.Kind.{Kind}
use Rattle.sparse_rules.specs.declared.Kind.TheVariants.{Raw, Fill, DontCare, Unknown}
use Rattle.sparse_rules.specs.Header.{header_of}
use Rattle.sparse_rules.specs.Cells.{cells_by}
use Rattle.sparse_rules.specs.Counts.{writes}
use Rattle.sparse_store_rules.proofs.Over.{length_over}
use Rattle.sparse_stream_rules.specs.declared.Told.{Told}
use Rattle.sparse_stream_rules.specs.declared.Come.{Come}
use Rattle.sparse_stream_rules.specs.declared.Kept.{Kept}
use Rattle.sparse_stream_rules.specs.declared.Pass.{Pass}
use Rattle.sparse_stream_rules.specs.State.{head_of, kind_now, span_now, end_now, data_by, gap, stuck, stop_or, moved, in_data}
use Rattle.sparse_stream_rules.specs.Laid.{fill_from, fill_laid, fill_if, data_laid, laid_by, stores}
use Rattle.sparse_stream_rules.specs.Steps.{arrival, arrival_place, arrived, arrive_if, settled, header_number, opened, headed, head_kept, ready, ready_if, chunk_number, skip_sum, chunk_read, chunk_kept, chunk_taken, taken_if, gathered, fill_sum, word_kept, worded, data_taken, carried, stepped, fed}
use Rattle.sparse_stream_rules.specs.States.{called}
use Rattle.sparse_stream_rules.proofs.Sums.{sum_on-zero}
use Rattle.sparse_stream_rules.proofs.Stretches.{step_stuck, step_head, step_data, step_chunk}

-- ---- what bytes keep

-- a property of what was told, of what has come and of what is kept: refusals and the walk over the chunks do not touch it
module _ (P : Told → Come → Kept → Type 0) where
  -- a state has it
  abbrev Has : Pass → Type 0
  Has x = P x.told x.come x.kept

  -- a refusal keeps it
  stop_has : (n place : ℕ) (x y : Pass) → Has x → Has y → Has (stop_or n place x y)
  stop_has zero place x y a b = b
  stop_has (suc n) place x y a b = a

  -- and so do the tests where a chunk begins
  settled_has : (x : Pass) → Has x → Has (settled x)
  unfolding settled arrived
  settled_has x a = go (eqb x.come.bytes x.walk.next.at)
    where
      go : (y : Bool) → Has (arrive_if y x)
      go true = stop_has (arrival x) (arrival_place (arrival x) x.walk.next.at) x x a a
      go false = a

  module _ (x : Pass) (b : ℕ) where
    -- a byte of the file header
    headed_has : Has (head_kept x b) → Has (headed x b)
    unfolding headed
    headed_has a =
        stop_has (header_number (set x.kept.file x.come.bytes b) (x.come.bytes + 1) x.told.length x.told.room) 0
        (head_kept x b) (ready_if (eqb (x.come.bytes + 1) 28) (head_kept x b)) a (go (eqb (x.come.bytes + 1) 28))
      where
        go : (y : Bool) → Has (ready_if y (head_kept x b))
        go true = settled_has (ready (head_kept x b)) a
        go false = a

    -- a byte of a chunk header
    gathered_has : Has (chunk_kept x b) → Has (chunk_read (chunk_kept x b)) → Has (gathered x b)
    unfolding gathered chunk_taken
    gathered_has a c = go (eqb (x.come.bytes - x.walk.next.at) 11)
      where
        go : (y : Bool) → Has (taken_if y (chunk_kept x b))
        go true =
            stop_has (chunk_number (chunk_kept x b)) x.walk.next.at (chunk_kept x b) (settled (chunk_read (chunk_kept x b))) a
            (settled_has (chunk_read (chunk_kept x b)) c)
        go false = a

    -- a byte of a chunk's rest
    carried_has : Has (moved x 1 x.come.sum) → ((k : Kind) → Has (data_taken k x b)) → Has (carried x b)
    unfolding carried
    carried_has a d =
        settled_has (cond (ltb (data_by (kind_now x) x) (gap x)) (moved x 1 x.come.sum) (data_taken (kind_now x) x b))
        (go (ltb (data_by (kind_now x) x) (gap x)))
      where
        go : (y : Bool) → Has (cond y (moved x 1 x.come.sum) (data_taken (kind_now x) x b))
        go true = a
        go false = d (kind_now x)

-- ---- what was told, and how much has come

-- so many bytes have come, and this was told
abbrev Came : ℕ → Told → Told → Come → Kept → Type 0
Came k l told come kept = (come.bytes ≡ k) × (told ≡ l)

module _ (x : Pass) (b : ℕ) where
  abbrev One : Told → Come → Kept → Type 0
  One = Came (x.come.bytes + 1) x.told

  data_came : (k : Kind) → Has One (data_taken k x b)
  unfolding worded
  data_came Raw = (refl, refl)
  data_came Fill = (refl, refl)
  data_came DontCare = (refl, refl)
  data_came Unknown = (refl, refl)

-- a byte counts one at most, and leaves what was told
pub step_came : (x : Pass) (b : ℕ) → ((stepped x b).come.bytes ≤ x.come.bytes + 1) × ((stepped x b).told ≡ x.told)
unfolding stepped
step_came x b = go (stuck x) (ltb x.come.bytes 28) (ltb x.come.bytes x.walk.next.at)
  where
    least : (y : Pass) → Has (One x b) y → (y.come.bytes ≤ x.come.bytes + 1) × (y.told ≡ x.told)
    least y a = (omega (arith, a.0), a.1)

    go : (p q r : Bool)
        → ((cond p x (cond q (headed x b) (cond r (carried x b) (gathered x b)))).come.bytes ≤ x.come.bytes + 1) × ((cond p x (cond q (headed x b) (cond r (carried x b) (gathered x b)))).told ≡ x.told)
    go true q r = (omega arith, refl)
    go false true r = least (headed x b) (headed_has (One x b) x b (refl, refl))
    go false false true = least (carried x b) (carried_has (One x b) x b (refl, refl) (data_came x b))
    go false false false = least (gathered x b) (gathered_has (One x b) x b (refl, refl) (refl, refl))

-- and bytes, one after the other
pub fed_came : (x : Pass) (ys : List ℕ) → ((fed x ys).come.bytes ≤ x.come.bytes + length ys) × ((fed x ys).told ≡ x.told)
unfolding fed
fed_came x [] = (omega arith, refl)
fed_came x (b ∷ ys) =
    let s = step_came x b in
    let f = fed_came (stepped x b) ys in
    (omega (arith, s.0, f.0), f.1 ∙ s.1)

-- the first test
pub opened_told : (x : Pass) → (opened x).told ≡ x.told
unfolding opened
opened_told x =
    (stop_has (Came x.come.bytes x.told)
    (cond (eqb x.come.bytes 0) (header_number x.kept.file 0 x.told.length x.told.room) 0) 0 x x (refl, refl) (refl, refl)
    ).1

-- a call leaves the announced partition length
pub call_room : (x : Pass) (c : List ℕ) → (fed (opened x) c).told.room ≡ x.told.room
call_room x c = ap (λ (l : Told). l.room) ((fed_came (opened x) c).1 ∙ opened_told x)

-- nor does a call that is refused change it
pub called_room : (ts : List (Bool × ℕ)) (x : Pass) (c : List ℕ) → (called ts x (fed (opened x) c)).told.room ≡ x.told.room
unfolding called
called_room ts x c = go (ltb 0 x.refusal.number)
  where
    on : (n : ℕ) → (stop_or n 0 x (fed (opened x) c)).told.room ≡ x.told.room
    on zero = call_room x c
    on (suc n) = refl

    go : (y : Bool) → (cond y x (stop_or (first ts) 0 x (fed (opened x) c))).told.room ≡ x.told.room
    go true = refl
    go false = on (first ts)

-- ---- where no checksum is stated

-- the checksum's state and the file header stay, and all of the header has come
abbrev Unmoved : ℕ → List ℕ → Told → Come → Kept → Type 0
Unmoved sum file told come kept = (come.sum ≡ sum) × (kept.file ≡ file) × (28 ≤ come.bytes)

module _ (x : Pass) (b : ℕ) (known : 28 ≤ x.come.bytes) (z : (head_of x).checksum ≡ 0) where
  abbrev Same : Told → Come → Kept → Type 0
  Same = Unmoved x.come.sum x.kept.file

  more : 28 ≤ x.come.bytes + 1
  more = omega (arith, known)

  data_same : (k : Kind) → Has Same (data_taken k x b)
  unfolding worded
  data_same Raw = (sum_on-zero (head_of x) x.come.sum z (b ∷ []), refl, more)
  data_same Fill = (go (eqb (gap x) 1), refl, more)
    where
      go : (y : Bool) → fill_sum y (word_kept x b) ≡ x.come.sum
      go true = sum_on-zero (head_of x) x.come.sum z _
      go false = refl
  data_same DontCare = (refl, refl, more)
  data_same Unknown = (refl, refl, more)

  read_same : (t : Bool) (n : ℕ) → skip_sum t (head_of x) n x.come.sum ≡ x.come.sum
  read_same true n = refl
  read_same false n = sum_on-zero (head_of x) x.come.sum z (replicate n 0)

  step_same : Has Same (stepped x b)
  step_same = go (stuck x) refl (ltb x.come.bytes x.walk.next.at) refl
    where
      go : (p : Bool) → stuck x ≡ p → (r : Bool) → ltb x.come.bytes x.walk.next.at ≡ r → Has Same (stepped x b)
      go true e r f = rw (step_stuck x b e) (refl, refl, known)
      go false e true f = rw (step_data x b e known (ltb-true _ _ f)) (carried_has Same x b (refl, refl, more) data_same)
      go false e false f =
          rw (step_chunk x b e known (ltb-false _ _ f))
          (gathered_has Same x b (refl, refl, more) (read_same (writes (kind_now (chunk_kept x b))) (span_now (chunk_kept x b)), refl, more))

-- bytes that come where no checksum is stated leave the checksum's state
pub fed_same : (x : Pass) (ys : List ℕ) → 28 ≤ x.come.bytes → (head_of x).checksum ≡ 0 → (fed x ys).come.sum ≡ x.come.sum
unfolding fed
fed_same x [] known z = refl
fed_same x (b ∷ ys) known z =
    let s = step_same x b known z in
    fed_same (stepped x b) ys s.2 (ap (λ (f : List ℕ). (header_of f).checksum) s.1 ∙ z) ∙ s.0

-- and so do those of the file header, whatever it states
pub head_same : (x : Pass) (b : ℕ) → x.come.bytes < 28 → (stepped x b).come.sum ≡ x.come.sum
head_same x b h = go (stuck x) refl
  where
    go : (p : Bool) → stuck x ≡ p → (stepped x b).come.sum ≡ x.come.sum
    go true e = rw (step_stuck x b e)
    go false e = rw (step_head x b e h) (headed_has (λ told come kept. come.sum ≡ x.come.sum) x b refl)

-- ---- the partition's length

-- a byte leaves the partition its length
lays_length : (x : Pass) (b : ℕ) (p : List ℕ) → length (laid_by x b p) ≡ length p
unfolding laid_by fill_laid
lays_length x b p = go (in_data x) (kind_now x)
  where
    word : (y : Bool) → length (fill_if y (word_kept x b) p) ≡ length p
    word true =
        length_over (replicate (fill_from (word_kept x b)) none ++ cells_by (word_kept x b).kept.word Fill 0 (span_now (word_kept x b))) p
    word false = refl

    go : (y : Bool) (k : Kind) → length (cond y (data_laid k x b p) p) ≡ length p
    go true Raw = length_over (replicate (end_now x - gap x) none ++ (some b ∷ [])) p
    go true Fill = word (eqb (gap x) 1)
    go true DontCare = refl
    go true Unknown = refl
    go false k = refl

-- and so do bytes
pub stores_length : (x : Pass) (ys p : List ℕ) → length (stores x ys p) ≡ length p
unfolding stores
stores_length x [] p = refl
stores_length x (b ∷ ys) p = stores_length (stepped x b) ys (laid_by x b p) ∙ lays_length x b p
