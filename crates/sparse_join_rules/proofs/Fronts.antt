-- The next blocks of two readers, joined: which image they are of, their kinds and their bytes.
-- Assumes nothing.
use mathlib.Core.Path.{◌≡◌, refl, sym, ap, ap₂, ◌∙◌}
use mathlib.Core.Bool.{Bool, true, false}
use mathlib.Core.List.{List, ◌∷◌, map}
use Prim.Native.Nat.{ℕ, zero, suc, ◌+◌, ◌*◌, ◌/◌, ◌%◌, min, ◌≤◌, ◌<◌}
use native.Mathlib.Nat.{suc-mul, zero-lt-suc, mul-le-mul_right}
use native.Mathlib.Omega.{arith}
use lib.ListN.{length, take, drop, replicate}
use lib.Seq.{get_or-take, get_or-drop}
use Rattle.fields_rules.specs.Number.{number_at}
use Rattle.fields_rules.proofs.Laws.{number_same}
use Rattle.sparse_rules.specs.declared.Kind.{Kind}
use Rattle.sparse_rules.specs.declared.Kind.TheVariants.{Raw, Fill}
use Rattle.sparse_rules.specs.declared.Chunk.{Chunk}
use Rattle.sparse_rules.specs.Counts.{writes}
use Rattle.sparse_rules.specs.Cells.{tab, raw_byte, fill_byte, cells_of, zeroed}
use Rattle.sparse_rules.proofs.Cells.{get_or-tab, tab_same, length-cells_of, length_zeroed}
use Rattle.sparse_rules.proofs.Image.{chunk_cells}
use Rattle.sparse_write_rules.specs.Blocks.{Block, block_cells}
use Rattle.sparse_write_rules.specs.Kinds.{BlockKind, kept, raw, fill, same_kind, all_equal, stored_kind, block_kind}
use Rattle.std.specs.Prelude.{Option, None, Some}
use Rattle.sparse_write_rules.specs.declared.Stored.{Stored}
use Rattle.sparse_write_rules.specs.declared.Stored.TheVariants as stored
use Rattle.sparse_write_rules.proofs.Runs.{tells_kinds, apart}
use Rattle.sparse_write_rules.specs.KindOf.{kind_of}
use Rattle.sparse_write_rules.proofs.KindSteps.{equal_none, equal_next, kind_fill}
use Rattle.sparse_write_rules.proofs.FlatImage.{kind_tab}
use Rattle.sparse_blocks_rules.specs.declared.Reader.{Reader}
use Rattle.sparse_blocks_rules.specs.Blocks.{block_from, pace, stretch}
use Rattle.sparse_blocks_rules.specs.Pairs.{each}
use Rattle.sparse_blocks_rules.specs.Beside.{ahead, Beside}
use Rattle.sparse_blocks_rules.proofs.Comparing as blocks
use Rattle.sparse_blocks_rules.proofs.Giving.{cells_stretch}
use Rattle.sparse_blocks_rules.proofs.SideBySide.{both_have}
use Rattle.sparse_join_rules.specs.Join.{onto}
use Rattle.sparse_join_rules.specs.Ahead.{FirstAlike, joined_ahead, JoinedAlike}

-- ---- the kind of a block, by its chunk

-- some blocks of a chunk, each of one kind
kinds_stretch : (s : List ℕ) (b : ℕ) (k : Kind) (kind : BlockKind) (n at : ℕ) → ((j : ℕ) → j < n → block_kind b (block_from s b k (at + j * pace b k)) ≡ kind)
    → map (block_kind b) (stretch s b k n at) ≡ replicate n kind
unfolding stretch
kinds_stretch s b k kind zero at alike = refl
kinds_stretch s b k kind (suc n) at alike =
    let p : at + 0 * pace b k ≡ at = omega arith in
    let on : (j : ℕ) → j < n → block_kind b (block_from s b k (at + pace b k + j * pace b k)) ≡ kind =
    λ j i. let u : at + pace b k + j * pace b k ≡ at + suc j * pace b k = omega (arith, suc-mul j (pace b k)) in rw u (alike (suc j) (omega arith)) in
    ap₂ (λ (x : BlockKind) (r : List BlockKind). x ∷ r) (rw p at (alike 0 (zero-lt-suc n))) (kinds_stretch s b k kind n (at + pace b k) on)

module _ (s : List ℕ) (b : ℕ) (least : 4 ≤ b) where
  -- a raw block's is that of its data
  raw_kind : (at : ℕ) → block_kind b (block_from s b Raw at) ≡ stored_kind s b at
  unfolding block_from
  raw_kind at = kind_tab s b at least

  -- wherever these are cut out
  part_kind : (at m i : ℕ) → i + b ≤ m → stored_kind (take m (drop at s)) b i ≡ stored_kind s b (at + i)
  part_kind at m i h =
      sym (kind_tab (take m (drop at s)) b i least)
      ∙ ap (λ (l : List ℕ). stored_kind l b 0)
      (tab_same (raw_byte (take m (drop at s)) i) (raw_byte s (at + i)) 0 0 b
      (λ j l. let z : at + (i + (0 + j)) ≡ at + i + (0 + j) = omega arith in get_or-take m (drop at s) (i + (0 + j)) 0 (omega arith) ∙ get_or-drop at s (i + (0 + j)) 0 ∙ rw z))
      ∙ kind_tab s b (at + i) least

  module _ (at : ℕ) where
    -- a fill block has its word all over
    fill_word : (i : ℕ) → i % 4 ≡ 0 → i + 4 ≤ b → number_at (tab (fill_byte s at) 0 b) i 4 ≡ number_at s at 4
    fill_word i e h =
        number_same (tab (fill_byte s at) 0 b) s i at 4
        (λ j l. let z : (0 + (i + j)) % 4 ≡ j = omega arith in get_or-tab (fill_byte s at) 0 b (i + j) (omega arith) ∙ rw z)

    fill_words : (n i : ℕ) → i % 4 ≡ 0 → i + n * 4 ≤ b → all_equal (tab (fill_byte s at) 0 b) (number_at s at 4) n i ≡ true
    fill_words zero i e h = equal_none (tab (fill_byte s at) 0 b) (number_at s at 4) i
    fill_words (suc n) i e h =
        equal_next (tab (fill_byte s at) 0 b) (number_at s at 4) n i (fill_word i e (omega arith)) ∙ fill_words n (i + 4) (omega arith) (omega arith)

    -- and its kind is fill with that word
    fill_kind : block_kind b (block_from s b Fill at) ≡ fill (number_at s at 4)
    unfolding block_from
    fill_kind =
        kind_fill (tab (fill_byte s at) 0 b) b 0 (number_at s at 4) (sym (fill_word 0 refl (omega arith))) (fill_words (b / 4) 0 refl (omega arith))

  -- all blocks of a fill chunk are of that kind
  pub fill_kinds : (n at : ℕ) → map (block_kind b) (stretch s b Fill n at) ≡ replicate n (fill (number_at s at 4))
  fill_kinds n at =
      kinds_stretch s b Fill (fill (number_at s at 4)) n at (λ j l. let y : at + j * 0 ≡ at = omega arith in rw y (fill_kind at))

-- a skipped block's is don't care
kept_kind : (s : List ℕ) (b : ℕ) (k : Kind) (at : ℕ) → writes k ≡ false → block_kind b (block_from s b k at) ≡ kept
kept_kind s b k at e = ap (block_kind b) (blocks.kept s b k at e)

-- and so are all blocks of such a chunk
pub kept_kinds : (s : List ℕ) (b : ℕ) (k : Kind) (n at : ℕ) → writes k ≡ false → map (block_kind b) (stretch s b k n at) ≡ replicate n kept
kept_kinds s b k n at e = kinds_stretch s b k kept n at (λ j l. kept_kind s b k (at + j * pace b k) e)

-- ---- the first blocks of a chunk

module _ {s : List ℕ} {b : ℕ} {k : Chunk} {n : ℕ} (least : 4 ≤ b) (some_left : 0 < n) where
  -- of a raw one, those that the scan of its data finds alike
  pub first_raw : k.kind ≡ Raw → {kind : Option Stored} {m : ℕ} → 0 < m → m ≤ n
      → ((j : ℕ) → j < m → stored_kind (take (n * b) (drop k.body s)) b (0 + j * b) ≡ kind_of kind) → FirstAlike s b k n kind m
  first_raw e {kind} {m} h fits alike =
      record {
        fits = fits;
        alike =
            record {
              some = h;
              kinds =
                  rw e
                  (kinds_stretch s b Raw (kind_of kind) m k.body
                  (λ j l.
                  let z : 0 + j * b ≡ j * b = omega arith in
                  let more : suc j ≤ n = omega arith in
                  let inside : j * b + b ≤ n * b = omega (arith, suc-mul j b, mul-le-mul_right b more) in
                  raw_kind s b least (k.body + j * b) ∙ sym (part_kind s b least k.body (n * b) (j * b) inside) ∙ rw z at (alike j l)));
            };
        raw = λ z. e;
      }

  -- of a fill one, all
  pub first_fill : k.kind ≡ Fill → {w : ℕ} → w ≡ number_at s k.body 4 → FirstAlike s b k n (Some (stored.Fill w)) n
  first_fill e {w} h =
      record {
        fits = omega arith;
        alike =
            record {
              some = some_left;
              kinds = rw (e, h) (fill_kinds s b least n k.body);
            };
        raw = λ y. absurd (apart same_kind tells_kinds (fill w) raw refl y);
      }

  -- of one that is skipped, all
  pub first_kept : writes k.kind ≡ false → FirstAlike s b k n None n
  first_kept e =
      record {
        fits = omega arith;
        alike = record { some = some_left; kinds = kept_kinds s b k.kind n k.body e };
        raw = λ y. absurd (apart same_kind tells_kinds kept raw refl y);
      }

-- ---- joined

-- the first n blocks of a chunk, as one
abbrev pub first_of : Chunk → ℕ → Chunk
first_of k n = record { kind = k.kind; blocks = n; body = k.body }

-- the second's blocks, where it writes them
pub onto_second : (s t : List ℕ) (b c : ℕ) (k l : Kind) (n at to : ℕ) → writes l ≡ true → each onto (stretch s b k n at) (stretch t c l n to) ≡ stretch t c l n to
unfolding stretch each
onto_second s t b c k l zero at to e = refl
onto_second s t b c k l (suc n) at to e =
    let u = (blocks.written t c l to e).is in
    ap₂ (λ (x : Block) (r : List Block). x ∷ r) (ap (onto (block_from s b k at)) u ∙ sym u) (onto_second s t b c k l n (at + pace b k) (to + pace c l) e)

-- and else the first's
pub onto_first : (s t : List ℕ) (b c : ℕ) (k l : Kind) (n at to : ℕ) → writes l ≡ false → each onto (stretch s b k n at) (stretch t c l n to) ≡ stretch s b k n at
unfolding stretch each
onto_first s t b c k l zero at to e = refl
onto_first s t b c k l (suc n) at to e =
    ap₂ (λ (x : Block) (r : List Block). x ∷ r) (ap (onto (block_from s b k at)) (blocks.kept t c l to e)) (onto_first s t b c k l n (at + pace b k) (to + pace c l) e)

module _ {s t : List ℕ} {a b : Reader} (w : Beside s t a b) where
  second_ahead : (n : ℕ) → writes b.chunk.kind ≡ true → joined_ahead s t a b n ≡ ahead t b n
  second_ahead n e = onto_second s t a.header.block b.header.block a.chunk.kind b.chunk.kind n a.chunk.body b.chunk.body e

  first_ahead : (n : ℕ) → writes b.chunk.kind ≡ false → joined_ahead s t a b n ≡ ahead s a n
  first_ahead n e = onto_first s t a.header.block b.header.block a.chunk.kind b.chunk.kind n a.chunk.body b.chunk.body e

  -- the bytes of the next blocks: of the second image
  pub second_bytes : (n : ℕ) → writes b.chunk.kind ≡ true
      → zeroed (cells_of t b.header.block (first_of b.chunk n)) ≡ zeroed (block_cells a.header.block (joined_ahead s t a b n))
  second_bytes n e =
      ap zeroed
      (chunk_cells t b.header.block (first_of b.chunk n) ∙ cells_stretch t b.header.block w.second.reads.here.fours b.chunk.kind n b.chunk.body
      ∙ sym (ap₂ block_cells w.size (second_ahead n e)))

  -- or of the first
  pub first_bytes : (n : ℕ) → writes b.chunk.kind ≡ false
      → zeroed (cells_of s a.header.block (first_of a.chunk n)) ≡ zeroed (block_cells a.header.block (joined_ahead s t a b n))
  first_bytes n e =
      ap zeroed
      (chunk_cells s a.header.block (first_of a.chunk n) ∙ cells_stretch s a.header.block w.first.reads.here.fours a.chunk.kind n a.chunk.body
      ∙ sym (ap (block_cells a.header.block) (first_ahead n e)))

  -- as many as the blocks have
  pub ahead_long : (n : ℕ) → length (zeroed (block_cells a.header.block (joined_ahead s t a b n))) ≡ n * a.header.block
  ahead_long n = go (writes b.chunk.kind) refl
    where
      go : (x : Bool) → writes b.chunk.kind ≡ x → length (zeroed (block_cells a.header.block (joined_ahead s t a b n))) ≡ n * a.header.block
      go true e =
          ap length (sym (second_bytes n e)) ∙ length_zeroed (cells_of t b.header.block (first_of b.chunk n)) ∙ length-cells_of t b.header.block (first_of b.chunk n)
          ∙ ap (λ (x : ℕ). n * x) (sym w.size)
      go false e =
          ap length (sym (first_bytes n e)) ∙ length_zeroed (cells_of s a.header.block (first_of a.chunk n)) ∙ length-cells_of s a.header.block (first_of a.chunk n)

  module _ (some_left : 0 < a.chunk.blocks) {m : ℕ} (lesser : m ≡ min a.chunk.blocks b.chunk.blocks) where
    -- there is one
    pub some_ahead : (0 < m) × (m ≤ a.chunk.blocks) × (m ≤ b.chunk.blocks)
    some_ahead = let h = both_have w some_left in (omega arith, omega arith, omega arith)

    module _ {kind : Option Stored} {n : ℕ} where
      -- the next blocks are the second's
      pub joins_second : writes b.chunk.kind ≡ true → FirstAlike t b.header.block b.chunk m kind n → JoinedAlike s t a b kind n
      joins_second e f =
          let g = some_ahead in
          record {
            first = omega (arith, f.fits);
            second = omega (arith, f.fits);
            alike = record { some = f.alike.some; kinds = ap₂ (λ (x : ℕ) (r : List Block). map (block_kind x) r) w.size (second_ahead n e) ∙ f.alike.kinds };
            raw_second = λ x y. f.raw y;
            raw_first = λ x y. let z : ◌≡◌ {A = ℕ} 0 1 = cc in absurd (omega arith);
          }

      -- or the first's
      pub joins_first : writes b.chunk.kind ≡ false → FirstAlike s a.header.block a.chunk m kind n → JoinedAlike s t a b kind n
      joins_first e f =
          let g = some_ahead in
          record {
            first = omega (arith, f.fits);
            second = omega (arith, f.fits);
            alike = record { some = f.alike.some; kinds = ap (map (block_kind a.header.block)) (first_ahead n e) ∙ f.alike.kinds };
            raw_second = λ x y. let z : ◌≡◌ {A = ℕ} 0 1 = cc in absurd (omega arith);
            raw_first = λ x y. f.raw y;
          }
