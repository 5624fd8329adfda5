-- What the two passes over two images keep: the one that measures the joined image, and the one that lays it into the output.
-- Assumes nothing.
use mathlib.Core.Path.{◌≡◌, sym, ap, ap₂, subst, ◌∙◌}
use mathlib.Core.List.{List, ◌++◌, map}
use Prim.Native.Nat.{ℕ, ◌+◌, ◌*◌, ◌%◌, ◌≤◌, ◌<◌}
use native.Mathlib.Nat.{mul-le-mul_right}
use native.Mathlib.Omega.{arith}
use lib.Bits.{bit_xor}
use lib.ListN.{length, drop, replicate, length-append, length-map}
use lib.Seq.{sets, length-sets}
use Rattle.fields_rules.specs.Number.{Bytes, placed}
use Rattle.fields_rules.proofs.Laws.{placed_whole}
use Rattle.fields_rules.proofs.Sets.{sets_whole, sets_around}
use Rattle.crc32_rules.specs.Crc.{crc_from, crc32, all_ones}
use Rattle.crc32_rules.proofs.Laws.{crc_finish}
use Rattle.sparse_rules.specs.declared.Header.{Header}
use Rattle.sparse_rules.specs.Header.{header_of, block_size, total_blocks}
use Rattle.sparse_rules.specs.Cells.{zeroed}
use Rattle.sparse_write_rules.specs.Blocks.{Block, block_cells, AllFit}
use Rattle.sparse_write_rules.specs.Kinds.{BlockKind, same_kind, block_kind}
use Rattle.std.specs.Prelude.{Option}
use Rattle.sparse_write_rules.specs.declared.Stored.{Stored}
use Rattle.sparse_write_rules.specs.KindOf.{kind_of}
use Rattle.sparse_write_rules.specs.Encode.{chunk_size, header, image, encode}
use Rattle.sparse_write_rules.specs.Parts.{chunk_rest, sizes}
use Rattle.sparse_write_rules.proofs.Runs.{tells_kinds, spread_runs, count_runs, counted, counted_spread, blocks_small}
use Rattle.sparse_write_rules.proofs.FlatImage.{block_good}
use Rattle.sparse_write_rules.proofs.Chunks.{length-chunks, length_header, sizes_most}
use Rattle.sparse_blocks_rules.specs.declared.Reader.{Reader}
use Rattle.sparse_blocks_rules.specs.Blocks.{needed}
use Rattle.sparse_blocks_rules.specs.Reading.{passed_by, opened}
use Rattle.sparse_blocks_rules.specs.Pairs.{each, Matched}
use Rattle.sparse_blocks_rules.specs.Beside.{remaining, ahead, Beside}
use Rattle.sparse_blocks_rules.proofs.Giving.{fit_stretch, right_size}
use Rattle.sparse_blocks_rules.proofs.Passing.{opens}
use Rattle.sparse_blocks_rules.proofs.SideBySide.{none_left, passes_both, pairs_ahead, opens_beside, opens_all}
use Rattle.sparse_join_rules.specs.declared.Growing.{Growing}
use Rattle.sparse_join_rules.specs.Join.{onto, joined_blocks, join}
use Rattle.sparse_join_rules.specs.Image.{joined_bytes, joined_runs, joined_chunks}
use Rattle.sparse_join_rules.specs.Ahead.{Alike, joined_ahead, JoinedAlike}
use Rattle.sparse_join_rules.specs.Grows.{begun, end_of, count_of, turned_to, lengthened, put_into, settled_by, sum_turned}
use Rattle.sparse_join_rules.proofs.Blocks.{fit_onto, length_joined}
use Rattle.sparse_join_rules.proofs.Measuring.{Measured, measure_start, measure_turn, measure_more, measure_fits, measure_done}
use Rattle.sparse_join_rules.proofs.Waiting.{Waits, alike_waits}
use Rattle.sparse_join_rules.proofs.Laying.{Laid, lay_start, lay_long, lay_turn, lay_more, lay_done}
use Rattle.sparse_join_rules.proofs.Fronts.{ahead_long}

-- ---- the image in its parts

module _ {s t : List ℕ} (m : Matched s t) where
  pub join_parts : join s t ≡ header (block_size s) (total_blocks s) (length (joined_runs s t)) (crc32 (joined_bytes s t)) ++ joined_chunks s t
  unfolding join encode image
  join_parts =
      ap (λ (n : ℕ). header (block_size s) n (length (joined_runs s t)) (crc32 (joined_bytes s t)) ++ joined_chunks s t)
      (length-map (joined_blocks s t) (block_kind (block_size s)) ∙ length_joined m)

  -- its length
  pub join_long : length (join s t) ≡ 28 + length (joined_chunks s t)
  join_long = ap length join_parts ∙ length-append (header (block_size s) (total_blocks s) (length (joined_runs s t)) (crc32 (joined_bytes s t))) (joined_chunks s t)
      ∙ ap (λ (n : ℕ). n + length (joined_chunks s t)) (length_header (block_size s) (total_blocks s) (length (joined_runs s t)) (crc32 (joined_bytes s t)))

  -- by its runs
  pub join_sizes : length (join s t) ≡ 28 + sizes (block_size s) (joined_runs s t)
  join_sizes = join_long ∙ ap (λ (n : ℕ). 28 + n) (length-chunks (block_size s) (joined_bytes s t) 0 (joined_runs s t))

  -- no chunks but of a block at least, and none of them long
  module _ (small : needed s ≤ 2147483648) where
    many_blocks : total_blocks s ≤ 2147483648
    many_blocks = omega (arith, blocks_small (total_blocks s) (block_size s) (block_good (block_size s) (right_size m.first)).0)

    few_runs : length (joined_runs s t) ≤ total_blocks s
    few_runs =
        let ks : List BlockKind = map (block_kind (block_size s)) (joined_blocks s t) in
        omega (arith, count_runs same_kind ks, length-map (joined_blocks s t) (block_kind (block_size s)), length_joined m)

    -- the image is not long
    pub join_small : length (join s t) < 1099511627776
    join_small =
        let ks : List BlockKind = map (block_kind (block_size s)) (joined_blocks s t) in
        let c : counted (joined_runs s t) ≡ total_blocks s =
        counted_spread (joined_runs s t) ∙ ap length (spread_runs same_kind tells_kinds ks) ∙ length-map (joined_blocks s t) (block_kind (block_size s)) ∙ length_joined m in
        omega (arith, join_sizes, sizes_most (block_size s) (joined_runs s t), ap (λ (n : ℕ). n * block_size s) c, few_runs, many_blocks)

-- ---- the blocks that are left

-- the joined blocks that two readers have still to give
abbrev left : List ℕ → List ℕ → Reader → Reader → List Block
left s t a b = each onto (remaining s a) (remaining t b)

-- readers of two images at one place
pub record Beginning (s t : List ℕ) (a b : Reader) : Type 0 where
  pub beside : Beside s t a b
  pub sized : a.header.block ≡ block_size s

module _ {s t : List ℕ} (m : Matched s t) where
  -- at first
  begins : Beginning s t (opened s) (opened t)
  begins = record { beside = opens_beside m; sized = ap (λ (h : Header). h.block) (opens m.first).2 }

module _ {s t : List ℕ} {a b : Reader} (w : Beginning s t a b) {kind : Option Stored} {n : ℕ} (p : JoinedAlike s t a b kind n) where
  -- past some blocks
  goes_on : Beginning s t (passed_by s a n) (passed_by t b n)
  goes_on =
      let u = passes_both w.beside n p.first in
      record { beside = u.after; sized = ap (λ (h : Header). h.block) u.same ∙ w.sized }

  -- fewer are left
  pub fewer : length (remaining s (passed_by s a n)) < length (remaining s a)
  fewer = omega (arith, (passes_both w.beside n p.first).count, p.alike.some)

  split : left s t a b ≡ joined_ahead s t a b n ++ left s t (passed_by s a n) (passed_by t b n)
  split = pairs_ahead w.beside n p.first onto p.second

  of_kind : Alike (block_size s) (joined_ahead s t a b n) kind n
  of_kind = rw (← w.sized) p.alike

-- ---- measuring

-- what is measured, and the blocks that are left
pub record Measures (s t : List ℕ) (a b : Reader) (g : Growing) : Type 0 where
  pub at : Beginning s t a b
  pub measured : Measured (block_size s) (joined_blocks s t) g (left s t a b)

-- at first
pub measures_start : {s t : List ℕ} → Matched s t → Measures s t (opened s) (opened t) begun
unfolding joined_blocks
measures_start {s} {t} m =
    record { at = begins m; measured = rw (opens_all m onto) (measure_start (block_size s) (joined_blocks s t)) }

module _ {s t : List ℕ} {a b : Reader} {g : Growing} (w : Measures s t a b g) (m : Matched s t) (small : needed s ≤ 2147483648) where
  -- no number is large
  pub measures_small : (g.blocks * a.header.block ≤ 2147483648) × (g.at < 1099511627776) × (g.chunks < 4294967295)
  measures_small =
      let few : g.blocks ≤ total_blocks s = omega (arith, w.measured.few, length_joined m) in (
        rw w.at.sized (omega (arith, mul-le-mul_right (block_size s) few)),
        omega (arith, w.measured.bytes, join_sizes m, join_small m small),
        omega (arith, w.measured.counts, few_runs m small, many_blocks m small),
      )

  -- after the last block, the image's length and its number of chunks
  pub measures_done : a.chunk.blocks ≡ 0 → (end_of a.header.block g ≡ length (join s t)) × (count_of g ≡ length (joined_runs s t))
  measures_done e =
      let none = none_left w.at.beside onto e in
      let r = measure_done (block_size s) (joined_blocks s t) (rw none at w.measured) in
      (rw w.at.sized (r.0 ∙ sym (join_sizes m)), r.1)

  module _ {kind : Option Stored} {n : ℕ} (p : JoinedAlike s t a b kind n) where
    -- a turn to the next blocks
    pub measures_turn : Measures s t a b (turned_to a.header.block g kind)
    measures_turn =
        let ps : List Block = joined_ahead s t a b n in
        let rest : List Block = left s t (passed_by s a n) (passed_by t b n) in
        record {
          at = w.at;
          measured =
              subst (λ (x : ℕ). Measured (block_size s) (joined_blocks s t) (turned_to x g kind) (left s t a b)) (sym w.at.sized)
              (subst (Measured (block_size s) (joined_blocks s t) (turned_to (block_size s) g kind)) (sym (split w.at p))
              (measure_turn (block_size s) (joined_blocks s t) ps rest (subst (Measured (block_size s) (joined_blocks s t) g) (split w.at p) w.measured) (of_kind w.at p)));
        }

    module _ (e : g.kind ≡ kind) where
      -- past them
      pub measures_on : Measures s t (passed_by s a n) (passed_by t b n) (lengthened g n)
      measures_on =
          record {
            at = goes_on w.at p;
            measured = measure_more (block_size s) (joined_blocks s t) (joined_ahead s t a b n) (left s t (passed_by s a n) (passed_by t b n)) (rw (split w.at p) at w.measured) (of_kind w.at p) e;
          }

      -- the last chunk with them has few blocks
      pub measures_few : (g.blocks + n < 4294967296) × ((g.blocks + n) * a.header.block ≤ 2147483648)
      measures_few =
          let few : g.blocks + n ≤ total_blocks s = omega (arith, measures_on.measured.few, length_joined m) in
          (omega (arith, many_blocks m small), rw w.at.sized (omega (arith, mul-le-mul_right (block_size s) few)))

      -- and ends within the image
      pub measures_fits : g.at + chunk_size (kind_of kind) ((g.blocks + n) * a.header.block) ≤ length (join s t)
      measures_fits =
          rw w.at.sized
          (omega (arith, join_sizes m, measure_fits (block_size s) (joined_blocks s t) (joined_ahead s t a b n) (left s t (passed_by s a n) (passed_by t b n)) (rw (split w.at p) at w.measured) (of_kind w.at p) e))

-- ---- laying

-- the next blocks fit the block size
fit_ahead : {s t : List ℕ} {a b : Reader} → Beside s t a b → Bytes s → Bytes t → (n : ℕ) → AllFit a.header.block (joined_ahead s t a b n)
fit_ahead {s} {t} {a} {b} w small little n =
    fit_onto a.header.block (ahead s a n) (ahead t b n) (fit_stretch s small a.header.block a.chunk.kind n a.chunk.body)
    (subst (λ (x : ℕ). AllFit x (ahead t b n)) (sym w.size) (fit_stretch t little b.header.block b.chunk.kind n b.chunk.body))

-- what is laid into the output, and the blocks that are left
pub record Lays (s t out₀ out : List ℕ) (a b : Reader) (g : Growing) (state : ℕ) : Type 0 where
  pub at : Beginning s t a b
  pub laid : Laid (block_size s) (joined_blocks s t) out₀ out state g (left s t a b)

-- at first
pub lays_start : {s t : List ℕ} → Matched s t → (out : List ℕ) {state : ℕ} → length (join s t) ≤ length out → state ≡ all_ones → Lays s t out out (opened s) (opened t) begun state
unfolding joined_blocks
lays_start {s} {t} m out h e =
    record { at = begins m; laid = rw (opens_all m onto) (lay_start (block_size s) (joined_blocks s t) out _ (omega (arith, join_long m)) e) }

module _ {s t out₀ out : List ℕ} {a b : Reader} {g : Growing} {state : ℕ} (w : Lays s t out₀ out a b g state) where
  -- it is measured on the way
  pub lays_measures : Measures s t a b g
  lays_measures = record { at = w.at; measured = w.laid.measured }

  -- the output is as long as it was
  pub lays_long : length out ≡ length out₀
  lays_long = lay_long (block_size s) (joined_blocks s t) w.laid

  -- after the last block, the chunks and the state
  pub lays_done : a.chunk.blocks ≡ 0 → (settled_by a.header.block g state ≡ crc_from all_ones (joined_bytes s t)) × (out ≡ sets out₀ 28 (joined_chunks s t))
  lays_done e =
      let r = lay_done (block_size s) (joined_blocks s t) (subst (Laid (block_size s) (joined_blocks s t) out₀ out state g) (none_left w.at.beside onto e) w.laid) in
      (ap (λ (x : ℕ). settled_by x g state) w.at.sized ∙ r.0, r.1)

  module _ {kind : Option Stored} {n : ℕ} (p : JoinedAlike s t a b kind n) where
    -- a turn to the next blocks
    pub lays_turn : Lays s t out₀ out a b (turned_to a.header.block g kind) (sum_turned a.header.block g kind state)
    lays_turn =
        let ps : List Block = joined_ahead s t a b n in
        let rest : List Block = left s t (passed_by s a n) (passed_by t b n) in
        record {
          at = w.at;
          laid =
              subst (λ (x : ℕ). Laid (block_size s) (joined_blocks s t) out₀ out (sum_turned x g kind state) (turned_to x g kind) (left s t a b)) (sym w.at.sized)
              (subst (Laid (block_size s) (joined_blocks s t) out₀ out (sum_turned (block_size s) g kind state) (turned_to (block_size s) g kind)) (sym (split w.at p))
              (lay_turn (block_size s) (joined_blocks s t) ps rest (subst (Laid (block_size s) (joined_blocks s t) out₀ out state g) (split w.at p) w.laid) (of_kind w.at p)));
        }

    -- past them, once they are put
    pub lays_on : Bytes s → Bytes t → g.kind ≡ kind → {out' : List ℕ} {state' : ℕ}
        → state' ≡ crc_from state (chunk_rest (kind_of g.kind) (zeroed (block_cells a.header.block (joined_ahead s t a b n))))
        → out' ≡ put_into out a.header.block g n (zeroed (block_cells a.header.block (joined_ahead s t a b n)))
        → Lays s t out₀ out' (passed_by s a n) (passed_by t b n) (lengthened g n) state'
    lays_on small little e summed put =
        let z = w.at.sized in
        let v = w.at.beside in
        let ps : List Block = joined_ahead s t a b n in
        let ys : List ℕ = zeroed (block_cells a.header.block ps) in
        let waits : Waits a.header.block (kind_of g.kind) ys n =
        alike_waits a.header.block v.first.reads.here.fours (kind_of g.kind) ps n (fit_ahead v small little n) (p.alike.kinds ∙ ap (λ (j : Option Stored). replicate n (kind_of j)) (sym e)) in
        record {
          at = goes_on w.at p;
          laid =
              lay_more (block_size s) (joined_blocks s t) ps (left s t (passed_by s a n) (passed_by t b n)) (subst (Laid (block_size s) (joined_blocks s t) out₀ out state g) (split w.at p) w.laid)
              (of_kind w.at p) (subst (λ (x : ℕ). x % 4 ≡ 0) z v.first.reads.here.fours) e (ap (λ (x : ℕ). zeroed (block_cells x ps)) z) (ahead_long v n ∙ ap (λ (x : ℕ). n * x) z)
              (subst (λ (x : ℕ). Waits x (kind_of g.kind) ys n) z waits) (put ∙ ap (λ (x : ℕ). put_into out x g n ys) z) summed;
        }

-- ---- the header

-- the header put before the chunks: the output that is answered
pub join_put : {s t : List ℕ} (m : Matched s t) (out : List ℕ) {chunks sum : ℕ} {out₁ out₂ : List ℕ} → length (join s t) ≤ length out → chunks ≡ length (joined_runs s t)
    → sum ≡ bit_xor (crc_from all_ones (joined_bytes s t)) all_ones → out₁ ≡ sets out 28 (joined_chunks s t) → {read : Header} → read ≡ header_of s
    → out₂ ≡ placed out₁ 0 (header read.block read.total chunks sum) → out₂ ≡ join s t ++ drop (length (join s t)) out
join_put {s} {t} m out {chunks} {sum} {out₁ = out₁} h e f g r put =
    let top : List ℕ = header (block_size s) (total_blocks s) (length (joined_runs s t)) (crc32 (joined_bytes s t)) in
    let long : length top ≡ 28 = length_header (block_size s) (total_blocks s) (length (joined_runs s t)) (crc32 (joined_bytes s t)) in
    let same = ap length g ∙ length-sets out 28 (joined_chunks s t) in
    put
    ∙ ap (λ (x : Header). placed out₁ 0 (header x.block x.total chunks sum)) r
    ∙ ap₂ (λ (c v : ℕ). placed out₁ 0 (header (block_size s) (total_blocks s) c v)) e (f ∙ sym (crc_finish (joined_bytes s t)))
    ∙ placed_whole out₁ 0 top (omega (arith, join_long m))
    ∙ ap (λ (l : List ℕ). sets l 0 top) g
    ∙ sets_around top (joined_chunks s t) out 28 long (omega (arith, join_long m))
    ∙ ap (sets out 0) (sym (join_parts m))
    ∙ sets_whole (join s t) out h
