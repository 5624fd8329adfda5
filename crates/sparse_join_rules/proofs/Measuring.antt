-- An image as it grows: how long it is and how many chunks it has, with the blocks that come after.
-- Assumes nothing.
use mathlib.Core.Path.{◌≡◌, refl, sym, ap, ap₂, ◌∙◌}
use mathlib.Core.Bool.{Bool, true, false, cond}
use mathlib.Core.List.{List, [], ◌∷◌, ◌++◌, map, append_assoc, map-append}
use Prim.Native.Nat.{ℕ, zero, suc, ◌+◌, ◌*◌, ◌≤◌}
use native.Mathlib.Nat.{mul-le-mul_right}
use native.Mathlib.Omega.{arith}
use Rattle.std.specs.Prelude.{Option}
use lib.ListN.{length, replicate, length-append, length-map, length-replicate, replicate-append-replicate}
use Rattle.sparse_write_rules.specs.Blocks.{Block}
use Rattle.sparse_write_rules.specs.Kinds.{BlockKind, same_kind, block_kind}
use Rattle.sparse_write_rules.specs.declared.Stored.{Stored}
use Rattle.sparse_write_rules.specs.KindOf.{kind_of}
use Rattle.sparse_write_rules.specs.Runs.{Run, runs, closed}
use Rattle.sparse_write_rules.specs.Encode.{chunk_size}
use Rattle.sparse_write_rules.specs.Parts.{sizes}
use Rattle.sparse_write_rules.proofs.Runs.{of, tells_kinds, apart, closed_last, closed_before, begins, counted}
use Rattle.sparse_write_rules.proofs.KindOf.{one_kind}
use Rattle.sparse_write_rules.proofs.Chunks.{sizes_append, size_grows}
use Rattle.sparse_join_rules.specs.declared.Growing.{Growing}
use Rattle.sparse_join_rules.specs.Ahead.{Alike}
use Rattle.sparse_join_rules.specs.Grows.{begun, last_run, runs_with, end_of, count_of, ended_for, turned_to, lengthened}

-- ---- runs

module _ {b : ℕ} {ps : List Block} {kind : Option Stored} {n : ℕ} (p : Alike b ps kind n) where
  -- as many as are said
  pub alike_many : length ps ≡ n
  alike_many = sym (length-map ps (block_kind b)) ∙ ap length p.kinds ∙ length-replicate n (kind_of kind)

  kinds_ahead : (xs : List Block) → map (block_kind b) (ps ++ xs) ≡ replicate n (kind_of kind) ++ map (block_kind b) xs
  kinds_ahead xs = map-append (block_kind b) ps xs ∙ ap (λ (r : List BlockKind). r ++ map (block_kind b) xs) p.kinds

  -- of the last chunk's kind: they lengthen it
  pub runs_more : (g : Growing) → g.kind ≡ kind → (xs : List Block) → runs_with b g (ps ++ xs) ≡ runs_with b (lengthened g n) xs
  runs_more g e xs =
      let k : BlockKind = kind_of g.kind in
      let ks : List BlockKind = map (block_kind b) xs in
      ap (runs same_kind)
      (ap (λ (r : List BlockKind). replicate g.blocks k ++ r) (kinds_ahead xs ∙ ap (λ (j : Option Stored). replicate n (kind_of j) ++ ks) (sym e))
      ∙ sym (append_assoc (replicate g.blocks k) (replicate n k) ks)
      ∙ ap (λ (r : List BlockKind). r ++ ks) (replicate-append-replicate g.blocks n k))

  -- of another: they come after it
  pub runs_turn : (g : Growing) → (kind_of kind ≡ kind_of g.kind → ⊥) → (xs : List Block) → runs_with b g (ps ++ xs) ≡ last_run g ++ runs_with b (ended_for b g kind) (ps ++ xs)
  runs_turn g d xs =
      let k : BlockKind = kind_of g.kind in
      ap (λ (r : List BlockKind). runs same_kind (replicate g.blocks k ++ r)) (kinds_ahead xs)
      ∙ closed_before same_kind tells_kinds k (kind_of kind) g.blocks n (map (block_kind b) xs) p.some (λ e. d (sym e))
      ∙ ap (λ (r : List BlockKind). last_run g ++ runs same_kind r) (sym (kinds_ahead xs))

-- after the last block
pub runs_end : (b : ℕ) (g : Growing) → runs_with b g [] ≡ last_run g
runs_end b g = closed_last same_kind tells_kinds (kind_of g.kind) g.blocks

-- a run of so many counts as many
pub counted_closed : (k : BlockKind) (n : ℕ) → counted (closed k n) ≡ n
counted_closed k zero = refl
counted_closed k (suc n) = omega arith

-- where the kinds are told apart, they are two
pub turns : (g : Growing) (kind : Option Stored) → same_kind (kind_of kind) (kind_of g.kind) ≡ false → kind_of kind ≡ kind_of g.kind → ⊥
turns g kind e = apart same_kind tells_kinds (kind_of kind) (kind_of g.kind) e

-- where a turn leads
pub turned_kind : (b : ℕ) (g : Growing) (kind : Option Stored) → (turned_to b g kind).kind ≡ kind
turned_kind b g kind = go (same_kind (kind_of kind) (kind_of g.kind)) refl
  where
    go : (x : Bool) → same_kind (kind_of kind) (kind_of g.kind) ≡ x → (cond x g (ended_for b g kind)).kind ≡ kind
    go true e = sym (one_kind kind g.kind (tells_kinds.sound (kind_of kind) (kind_of g.kind) e))
    go false e = refl

-- a last chunk without blocks is none
pub ended_none : (b : ℕ) (g : Growing) (kind : Option Stored) → g.blocks ≡ 0 → record { at = g.at; chunks = g.chunks; kind = kind; blocks = g.blocks } ≡ ended_for b g kind
ended_none b g kind e =
    let p : g.at ≡ end_of b g = rw e (omega arith) in
    let q : g.chunks ≡ count_of g = rw e (omega arith) in
    rw (← p, ← q, e)

-- one with blocks has its size, and counts
pub ended_some : (b : ℕ) (g : Growing) (kind : Option Stored) → (g.blocks ≡ 0 → ⊥) → {z : ℕ} → z ≡ chunk_size (kind_of g.kind) (g.blocks * b)
    → record { at = g.at + z; chunks = g.chunks + 1; kind = kind; blocks = 0 } ≡ ended_for b g kind
ended_some b g kind d {z} e = go g.blocks d e
  where
    go : (n : ℕ) → (n ≡ 0 → ⊥) → z ≡ chunk_size (kind_of g.kind) (n * b)
        → ◌≡◌ {A = Growing} (record { at = g.at + z; chunks = g.chunks + 1; kind = kind; blocks = 0 })
        (record { at = g.at + sizes b (closed (kind_of g.kind) n); chunks = g.chunks + length (closed (kind_of g.kind) n); kind = kind; blocks = 0 })
    go zero f h = absurd (f refl)
    go (suc n) f h =
        let p : g.at + z ≡ g.at + sizes b (closed (kind_of g.kind) (suc n)) = omega arith in
        ap (λ (x : ℕ). record { at = x; chunks = g.chunks + 1; kind = kind; blocks = 0 }) p

-- ---- the length and the number of chunks

module _ (b : ℕ) (xs : List Block) where
  -- the runs of all blocks
  abbrev pub every_run : List (Run BlockKind)
  every_run = runs same_kind (map (block_kind b) xs)

  -- what is measured, and the blocks that are left
  pub record Measured (g : Growing) (left : List Block) : Type 0 where
    pub bytes : g.at + sizes b (runs_with b g left) ≡ 28 + sizes b every_run
    pub counts : g.chunks + length (runs_with b g left) ≡ length every_run
    pub few : g.blocks + length left ≤ length xs

  -- before the first block
  pub measure_start : Measured begun xs
  measure_start = record { bytes = refl; counts = omega arith; few = omega arith }

  -- after the last, the image's length and its number of chunks
  pub measure_done : {g : Growing} → Measured g [] → (end_of b g ≡ 28 + sizes b every_run) × (count_of g ≡ length every_run)
  measure_done {g} w = (rw (runs_end b g) at w.bytes, rw (runs_end b g) at w.counts)

  module _ (ps left : List Block) {g : Growing} (w : Measured g (ps ++ left)) {kind : Option Stored} {n : ℕ} (p : Alike b ps kind n) where
    -- a turn to blocks of a kind
    pub measure_turn : Measured (turned_to b g kind) (ps ++ left)
    measure_turn = go (same_kind (kind_of kind) (kind_of g.kind)) refl
      where
        go : (x : Bool) → same_kind (kind_of kind) (kind_of g.kind) ≡ x → Measured (cond x g (ended_for b g kind)) (ps ++ left)
        go true e = w
        go false e =
            let apart = runs_turn p g (turns g kind e) left in
            let long = ap (sizes b) apart ∙ sizes_append b (last_run g) (runs_with b (ended_for b g kind) (ps ++ left)) in
            let many = ap length apart ∙ length-append (last_run g) (runs_with b (ended_for b g kind) (ps ++ left)) in
            record {
              bytes = omega (arith, w.bytes, long);
              counts = omega (arith, w.counts, many);
              few = omega (arith, w.few);
            }

    -- blocks of the last chunk's kind
    pub measure_more : g.kind ≡ kind → Measured (lengthened g n) left
    measure_more e =
        let same = runs_more p g e left in
        record {
          bytes = rw same at w.bytes;
          counts = rw same at w.counts;
          few = omega (arith, w.few, length-append ps left, alike_many p);
        }

    -- the last chunk with them is no longer than the image
    pub measure_fits : g.kind ≡ kind → g.at + chunk_size (kind_of kind) ((g.blocks + n) * b) ≤ 28 + sizes b every_run
    measure_fits e = go (g.blocks + n) refl
      where
        go : (m : ℕ) → g.blocks + n ≡ m → g.at + chunk_size (kind_of kind) ((g.blocks + n) * b) ≤ 28 + sizes b every_run
        go zero z = absurd (omega (arith, p.some))
        go (suc m) z =
            let f = begins same_kind tells_kinds (kind_of kind) m (map (block_kind b) left) in
            let same : runs_with b g (ps ++ left) ≡ of (kind_of kind) f.many ∷ f.rest =
            runs_more p g e left ∙ rw (z, e) f.is in
            omega (arith, w.bytes, ap (sizes b) same, size_grows (kind_of kind) ((g.blocks + n) * b) (f.many * b) (mul-le-mul_right b (omega (arith, f.least))))
