-- What the two passes over the runs keep: the one that measures the image, and the one that puts its chunks.
-- Assumes nothing.
use mathlib.Core.Path.{◌≡◌, refl, sym, ap, subst, ◌∙◌}
use mathlib.Core.Bool.{true}
use mathlib.Core.List.{List, [], ◌++◌}
use Rattle.std.specs.Prelude.{Option, None, Some}
use Prim.Native.Nat.{ℕ, zero, suc, ◌+◌, ◌-◌, ◌*◌, ◌≤◌, ◌<◌}
use native.Mathlib.Omega.{arith}
use lib.ListN.{length, take, drop, length-append, take-append-drop}
use lib.Seq.{sets, length-sets, drop-drop, drop-length}
use Rattle.fields_rules.specs.Number.{Bytes}
use Rattle.fields_rules.proofs.Sets.{sets-append}
use Rattle.crc32_rules.specs.Crc.{crc_from, all_ones}
use Rattle.crc32_rules.proofs.Laws.{crc_nil, crc-append}
use Rattle.sparse_rules.specs.Header.{block_size_right}
use Rattle.sparse_rules.specs.Cells.{tab, raw_byte}
use Rattle.sparse_rules.proofs.Cells.{length-tab}
use Rattle.sparse_write_rules.specs.Kinds.{BlockKind, kept, raw, fill, same_kind, stored_kind}
use Rattle.sparse_write_rules.specs.Runs.{runs}
use Rattle.sparse_write_rules.specs.Encode.{chunk_size, chunk, chunks}
use Rattle.sparse_write_rules.proofs.Runs.{of, at_least, blocks_small, tells_kinds, apart}
use Rattle.sparse_write_rules.proofs.KindCells.{Stores, stored_stores, WordFits, stored_fits, raw_part}
use Rattle.sparse_write_rules.proofs.Chunks.{chunks_nil, chunks_cons, length_chunk}
use Rattle.sparse_write_rules.proofs.FlatImage.{block_good}
use Rattle.sparse_write_rules.specs.KindOf.{kind_of, OfKind}
use Rattle.sparse_write_rules.specs.declared.Stored.{Stored}
use Rattle.sparse_write_rules.specs.declared.Stored.TheVariants.{Raw, Fill}
use Rattle.sparse_write_rules.proofs.KindOf.{run_holds}
use Rattle.sparse_scan.specs.Scan.{whole_blocks, kinds_at, runs_at, first_kind, run_blocks, after_run}
use Rattle.sparse_scan.proofs.Whole.{whole_all}
use Rattle.sparse_scan.proofs.Scanning.{FirstRun, first_of, first_is}

-- ---- the first run, and those after it

module _ {f : ℕ → BlockKind} {b n at k len : ℕ} {kind next : Option Stored} (q : FirstRun f b n at kind k len next) where
  -- the chunk of the first run stands before the others
  chunks-first : (d : List ℕ) → chunks b d at (runs_at f b n at) ≡ chunk (kind_of kind) k (tab (raw_byte d at) 0 len) ++ chunks b d (at + len) (runs_at f b (n - k) (at + len))
  chunks-first d = ap (chunks b d at) q.first ∙ chunks_cons b d at (of (kind_of kind) k) _ ∙ rw (← q.long)

  length-first : (d : List ℕ) → length (chunks b d at (runs_at f b n at)) ≡ chunk_size (kind_of kind) len + length (chunks b d (at + len) (runs_at f b (n - k) (at + len)))
  length-first d = ap length (chunks-first d) ∙ simp (length-append, length_chunk, length-tab)

  sets_first : (d l : List ℕ) (i : ℕ) → sets l i (chunks b d at (runs_at f b n at))
      ≡ sets (sets l i (chunk (kind_of kind) k (tab (raw_byte d at) 0 len))) (i + chunk_size (kind_of kind) len) (chunks b d (at + len) (runs_at f b (n - k) (at + len)))
  sets_first d l i =
      ap (sets l i) (chunks-first d) ∙ sets-append (chunk (kind_of kind) k (tab (raw_byte d at) 0 len)) _ l i ∙ rw (length_chunk, length-tab)

none_left : (f : ℕ → BlockKind) (b at n : ℕ) → n ≡ 0 → runs_at f b n at ≡ []
unfolding runs kinds_at
none_left f b at zero e = refl
none_left f b at (suc n) e = absurd (omega arith)

size_small : (kind : BlockKind) (n : ℕ) → 4 ≤ n → chunk_size kind n ≤ 4 * n
size_small kept n h = omega arith
size_small raw n h = omega arith
size_small (fill w) n h = omega arith

-- ---- what both passes keep

-- so many blocks are left from a place on, and the first of them is of this kind; kept where there is none
pub record Ahead (s : List ℕ) (b at left : ℕ) (kind : Option Stored) : Type 0 where
  pub whole : at + left * b ≡ length s
  pub known : kind_of kind ≡ first_kind (stored_kind s b) left at

-- at first all are
pub ahead_start : (s : List ℕ) (b n : ℕ) (kind : Option Stored) → block_size_right b ≡ true → n * b ≡ length s → kind_of kind ≡ first_kind (stored_kind s b) (whole_blocks (length s) b 0) 0
    → Ahead s b 0 n kind
ahead_start s b n kind right h e =
    let w : 0 + n * b ≡ length s = omega arith in
    record { whole = w; known = e ∙ rw (whole_all (length s) b 0 n right w) }

-- no block is left where nothing is stored of the next
pub ahead_none : {s : List ℕ} {b at left : ℕ} → Ahead s b at left None → left ≡ 0
ahead_none {left = zero} a = refl
ahead_none {s} {b} {at} {left = suc n} a = absurd (subst Stores (sym a.known) (stored_stores s b at))

-- and some where something is
pub ahead_some : {s : List ℕ} {b at left : ℕ} {x : Stored} → Ahead s b at left (Some x) → 0 < left
ahead_some {left = suc n} a = omega arith
ahead_some {left = zero} {x} a = absurd (go x a.known)
  where
    go : (x : Stored) → kind_of (Some x) ≡ kept → ⊥
    go Raw e = apart same_kind tells_kinds raw kept refl e
    go (Fill w) e = apart same_kind tells_kinds (fill w) kept refl e

-- what is found from there on is the first run of them
pub ahead_run : {s : List ℕ} {b at left k len : ℕ} {kind next : Option Stored} → Ahead s b at left kind → block_size_right b ≡ true → 0 < left
    → k ≡ run_blocks (stored_kind s b) b (kind_of kind) (whole_blocks (length s) b at) at → len ≡ k * b
    → kind_of next ≡ after_run (stored_kind s b) b (kind_of kind) (whole_blocks (length s) b at) at
    → FirstRun (stored_kind s b) b left at kind k len next
ahead_run {s} {b} {at} {left} {kind} a right h e long g =
    let w = whole_all (length s) b at left right a.whole in
    first_is (stored_kind s b) b left at kind h (a.known ∙ first_of (stored_kind s b) left at h) (e ∙ rw w) long (g ∙ rw w)

module _ {s : List ℕ} {b at left k len : ℕ} {kind next : Option Stored} (a : Ahead s b at left kind) (q : FirstRun (stored_kind s b) b left at kind k len next) where
  -- the run is of the kind of its first block
  ahead_of : 0 < left → kind_of kind ≡ stored_kind s b at
  ahead_of h = a.known ∙ first_of (stored_kind s b) left at h

  -- after a run, the next
  pub ahead_next : Ahead s b (at + len) (left - k) next
  ahead_next = record { whole = omega (arith, a.whole, q.rest); known = q.goes }

  -- the run lies within the flat data
  pub ahead_inside : at + len ≤ length s
  ahead_inside = omega (arith, a.whole, q.rest)

  -- and has as many bytes as a block at least
  pub ahead_least : b ≤ len
  ahead_least = omega (arith, q.long, at_least k b q.some)

  -- its blocks are no more than its bytes
  pub ahead_few : block_size_right b ≡ true → k ≤ len
  ahead_few right = omega (arith, q.long, blocks_small k b (block_good b right).0)

-- ---- measuring

-- so many bytes and chunks are counted, and what is left makes up the image
pub record Measured (s : List ℕ) (b n bytes count at left : ℕ) (kind : Option Stored) : Type 0 where
  pub ahead : Ahead s b at left kind
  pub goes : bytes + length (chunks b s at (runs_at (stored_kind s b) b left at)) ≡ 28 + length (chunks b s 0 (runs_at (stored_kind s b) b n 0))
  pub counts : count + length (runs_at (stored_kind s b) b left at) ≡ length (runs_at (stored_kind s b) b n 0)
  pub small : bytes ≤ 28 + 4 * at
  pub few : count ≤ at

-- before the first run, the header
pub measure_start : (s : List ℕ) (b n : ℕ) (kind : Option Stored) → Ahead s b 0 n kind → Measured s b n 28 0 0 n kind
measure_start s b n kind a = record { ahead = a; goes = refl; counts = omega arith; small = omega arith; few = omega arith }

-- one run more
pub measure_step : {s : List ℕ} {b n bytes count at left k len : ℕ} {kind next : Option Stored} (z : ℕ) → block_size_right b ≡ true → Measured s b n bytes count at left kind
    → FirstRun (stored_kind s b) b left at kind k len next → z ≡ chunk_size (kind_of kind) len
    → Measured s b n (bytes + z) (count + 1) (at + len) (left - k) next
measure_step {s} {b} {len = len} {kind = kind} z right r q e =
    let l = ahead_least r.ahead q in
    let h = (block_good b right).0 in
    record {
      ahead = ahead_next r.ahead q;
      goes = omega (arith, r.goes, length-first q s, e);
      counts = omega (arith, r.counts, ap length q.first);
      small = omega (arith, r.small, e, size_small (kind_of kind) len (omega arith));
      few = omega (arith, r.few);
    }

-- after the last, the image
pub measure_done : {s : List ℕ} {b n bytes count at left : ℕ} {kind : Option Stored} → left ≡ 0 → Measured s b n bytes count at left kind
    → (bytes ≡ 28 + length (chunks b s 0 (runs_at (stored_kind s b) b n 0))) × (count ≡ length (runs_at (stored_kind s b) b n 0))
measure_done {s} {b} {at = at} {left} e r =
    let z = none_left (stored_kind s b) b at left e in
    let g : length (chunks b s at (runs_at (stored_kind s b) b left at)) ≡ 0 = rw (z, chunks_nil) in
    let h : length (runs_at (stored_kind s b) b left at) ≡ 0 = rw z in
    (omega (arith, r.goes), omega (arith, r.counts))

-- ---- putting

-- chunks are put up to a place of the output, and what is left makes up the image and its checksum
pub record Put (s : List ℕ) (b n : ℕ) (out₀ out : List ℕ) (state pos at left : ℕ) (kind : Option Stored) : Type 0 where
  pub ahead : Ahead s b at left kind
  pub fits : pos + length (chunks b s at (runs_at (stored_kind s b) b left at)) ≤ length out
  pub long : length out ≡ length out₀
  pub goes : sets out₀ 28 (chunks b s 0 (runs_at (stored_kind s b) b n 0)) ≡ sets out pos (chunks b s at (runs_at (stored_kind s b) b left at))
  pub sum : crc_from all_ones s ≡ crc_from state (drop at s)

-- before the first
pub put_start : (s : List ℕ) (b n : ℕ) (out : List ℕ) (state : ℕ) (kind : Option Stored) → Ahead s b 0 n kind
    → 28 + length (chunks b s 0 (runs_at (stored_kind s b) b n 0)) ≤ length out → state ≡ all_ones
    → Put s b n out out state 28 0 n kind
put_start s b n out state kind a h g = record { ahead = a; fits = h; long = refl; goes = refl; sum = rw g }

module _ {s : List ℕ} {b n : ℕ} {out₀ out : List ℕ} {state pos at left k len : ℕ} {kind next : Option Stored}
    (r : Put s b n out₀ out state pos at left kind) (q : FirstRun (stored_kind s b) b left at kind k len next) where
  -- the flat data of the run
  part : take (at + len - at) (drop at s) ≡ tab (raw_byte s at) 0 len
  part = let e : at + len - at ≡ len = omega arith in rw e (sym (raw_part s at len (ahead_inside r.ahead q)))

  -- are as many
  pub put_long : length (take (at + len - at) (drop at s)) ≡ len
  put_long = ap length part ∙ length-tab (raw_byte s at) 0 len

  -- its chunk fits
  pub put_fits : pos + chunk_size (kind_of kind) len ≤ length out
  put_fits = omega (arith, r.fits, length-first q s)

  -- and it holds what its kind says
  pub put_holds : Bytes s → block_size_right b ≡ true → 0 < left → OfKind (kind_of kind) (take (at + len - at) (drop at s))
  put_holds small right h =
      rw (part, q.long)
      (run_holds s small b (kind_of kind) k at (block_good b right).2 (subst Stores (sym (ahead_of r.ahead q h)) (stored_stores s b at))
      (subst WordFits (sym (ahead_of r.ahead q h)) (stored_fits s small b at)) q.alike)

  -- one run more
  pub put_step : (z sum : ℕ) (new : List ℕ) → z ≡ chunk_size (kind_of kind) len
      → sum ≡ crc_from state (take (at + len - at) (drop at s)) → new ≡ sets out pos (chunk (kind_of kind) k (take (at + len - at) (drop at s)))
      → Put s b n out₀ new sum (pos + z) (at + len) (left - k) next
  put_step z sum new e g h =
      let h1 : new ≡ sets out pos (chunk (kind_of kind) k (tab (raw_byte s at) 0 len)) = h ∙ rw part in
      let l : length new ≡ length out = ap length h1 ∙ length-sets out pos (chunk (kind_of kind) k (tab (raw_byte s at) 0 len)) in
      let m : at + len - at ≡ len = omega arith in
      record {
        ahead = ahead_next r.ahead q;
        fits = omega (arith, r.fits, e, length-first q s);
        long = omega (arith, r.long);
        goes = r.goes ∙ sets_first q s out pos ∙ rw (← e, ← h1);
        sum =
            r.sum
            ∙ ap (crc_from state) (sym (take-append-drop len (drop at s)) ∙ ap (λ (x : List ℕ). take len (drop at s) ++ x) (drop-drop len at s))
            ∙ crc-append state (take len (drop at s)) (drop (at + len) s)
            ∙ ap (λ (x : ℕ). crc_from x (drop (at + len) s)) (sym (g ∙ rw m));
      }

-- after the last
pub put_done : {s : List ℕ} {b n : ℕ} {out₀ out : List ℕ} {state pos at left : ℕ} {kind : Option Stored} → left ≡ 0 → Put s b n out₀ out state pos at left kind
    → (state ≡ crc_from all_ones s) × (out ≡ sets out₀ 28 (chunks b s 0 (runs_at (stored_kind s b) b n 0)))
put_done {s} {b} {at = at} {left} e r =
    let z : 0 * b ≡ 0 = omega arith in
    let w : at ≡ length s = omega (arith, r.ahead.whole, ap (λ (x : ℕ). x * b) e) in
    (sym (r.sum ∙ rw (w, drop-length) (crc_nil _)), sym (r.goes ∙ rw (none_left (stored_kind s b) b at left e, chunks_nil)))
