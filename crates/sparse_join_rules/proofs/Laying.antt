-- What stands of an image in an output as it grows, and its checksum's state, with the blocks that come after.
-- Assumes nothing.
use mathlib.Core.Path.{◌≡◌, refl, sym, ap, ap₂, ◌∙◌}
use mathlib.Core.Bool.{Bool, true, false, cond}
use mathlib.Core.List.{List, [], ◌++◌, append_assoc, append-nil}
use Prim.Native.Nat.{ℕ, zero, suc, ◌+◌, ◌*◌, ◌%◌, ◌≤◌, ◌<◌}
use native.Mathlib.Nat.{add-mul}
use native.Mathlib.Omega.{arith}
use Rattle.std.specs.Prelude.{Option}
use lib.ListN.{length, take, drop, length-append}
use lib.Seq.{sets, length-sets, drop-drop, drop_at}
use Rattle.fields_rules.specs.Number.{placed}
use Rattle.fields_rules.proofs.Sets.{sets-append, sets_anew}
use Rattle.crc32_rules.specs.Crc.{crc_from, all_ones}
use Rattle.crc32_rules.proofs.Laws.{crc_nil}
use Rattle.sparse_rules.specs.declared.Kind.TheVariants.{Raw}
use Rattle.sparse_rules.specs.declared.Chunk.{Chunk}
use Rattle.sparse_rules.specs.Cells.{tab, raw_byte, cells_of, zeroed}
use Rattle.sparse_rules.specs.Facts.{Summable}
use Rattle.sparse_rules.proofs.Cells.{length-tab, zeroed_append, zeroed_raw}
use Rattle.sparse_rules.proofs.Image.{chunk_cells}
use Rattle.sparse_rules.proofs.SumLaws.{raw_inside}
use Rattle.sparse_write_rules.specs.Blocks.{Block, block_cells}
use Rattle.sparse_write_rules.specs.Kinds.{BlockKind, kept, raw, fill, same_kind}
use Rattle.sparse_write_rules.specs.declared.Stored.{Stored}
use Rattle.sparse_write_rules.specs.KindOf.{kind_of}
use Rattle.sparse_write_rules.specs.Runs.{Run, closed}
use Rattle.sparse_write_rules.specs.Encode.{chunk_size, chunk, chunks}
use Rattle.sparse_write_rules.specs.Parts.{chunk_top, chunk_rest}
use Rattle.sparse_write_rules.proofs.Runs.{of}
use Rattle.sparse_write_rules.proofs.KindCells.{raw_split}
use Rattle.sparse_write_rules.proofs.FlatImage.{table_ahead}
use Rattle.sparse_write_rules.proofs.Chunks.{chunks_nil, chunks_cons, chunk_parts, rest_none, length_top, length-chunks, chunks-append}
use Rattle.sparse_write_rules.proofs.Putting.{top_fits, rest_put}
use Rattle.sparse_blocks_rules.proofs.Giving.{cells-append}
use Rattle.sparse_join_rules.specs.declared.Growing.{Growing}
use Rattle.sparse_join_rules.specs.Ahead.{Alike}
use Rattle.sparse_join_rules.specs.Grows.{begun, last_run, runs_with, ended_for, turned_to, lengthened, put_into, waiting, settled_by, sum_turned}
use Rattle.sparse_join_rules.proofs.Waiting.{waiting_none, Waits, sum_more}
use Rattle.sparse_join_rules.proofs.Measuring.{runs_more, runs_turn, runs_end, counted_closed, every_run, Measured, measure_start, measure_turn, measure_more, turns}

-- ---- the last chunk

-- the chunk of a run, if it has a block
chunk_closed : (b : ℕ) (d : List ℕ) (at : ℕ) (k : BlockKind) (n : ℕ) → chunks b d at (closed k (suc n)) ≡ chunk k (suc n) (tab (raw_byte d at) 0 (suc n * b))
chunk_closed b d at k n =
    chunks_cons b d at (of k (suc n)) [] ∙ ap (λ (r : List ℕ). chunk k (suc n) (tab (raw_byte d at) 0 (suc n * b)) ++ r) (chunks_nil b d (at + suc n * b))
    ∙ append-nil (chunk k (suc n) (tab (raw_byte d at) 0 (suc n * b)))

-- its beginning is put anew, whatever stood there of it
top_anew : (b : ℕ) (d : List ℕ) (before : ℕ) (k : BlockKind) (m j total : ℕ) (l : List ℕ) (i : ℕ)
    → sets (sets l i (chunks b d before (closed k m))) i (chunk_top k j total) ≡ sets l i (chunk_top k j total ++ chunk_rest k (tab (raw_byte d before) 0 (m * b)))
top_anew b d before k zero j total l i =
    let z : 0 * b ≡ 0 = omega arith in
    ap (λ (r : List ℕ). sets (sets l i r) i (chunk_top k j total)) (chunks_nil b d before)
    ∙ ap (sets l i) (sym (append-nil (chunk_top k j total)) ∙ ap (λ (r : List ℕ). chunk_top k j total ++ r) (rw z (sym (rest_none k))))
top_anew b d before k (suc m) j total l i =
    let xs : List ℕ = tab (raw_byte d before) 0 (suc m * b) in
    ap (λ (r : List ℕ). sets (sets l i r) i (chunk_top k j total)) (chunk_closed b d before k m ∙ chunk_parts k (suc m) xs)
    ∙ sets_anew (chunk_top k (suc m) (chunk_size k (length xs))) (chunk_top k j total) (chunk_rest k xs) l i (length_top k j (suc m) total (chunk_size k (length xs)))

-- so the chunk has grown
chunk_grown : (b : ℕ) (d : List ℕ) (before : ℕ) (k : BlockKind) (m n : ℕ) (ys l : List ℕ) (i : ℕ) → 0 < n → tab (raw_byte d (before + m * b)) 0 (n * b) ≡ ys
    → sets (sets (sets l i (chunks b d before (closed k m))) i (chunk_top k (m + n) (chunk_size k ((m + n) * b)))) (i + 12 + m * b) (chunk_rest k ys)
    ≡ sets l i (chunks b d before (closed k (m + n)))
chunk_grown b d before k m n ys l i h e =
    let xs : List ℕ = tab (raw_byte d before) 0 (m * b) in
    let total : ℕ = chunk_size k ((m + n) * b) in
    let long : length xs ≡ m * b = length-tab (raw_byte d before) 0 (m * b) in
    let all : xs ++ ys ≡ tab (raw_byte d before) 0 ((m + n) * b) =
    ap (λ (r : List ℕ). xs ++ r) (sym e) ∙ sym (raw_split d before (m * b) (n * b)) ∙ ap (tab (raw_byte d before) 0) (sym (add-mul m n b)) in
    ap₂ (λ (r : List ℕ) (p : ℕ). sets r (i + 12 + p) (chunk_rest k ys)) (top_anew b d before k m (m + n) total l i) (sym long)
    ∙ rest_put k (m + n) total xs ys l i
    ∙ ap (sets l i) (ap (λ (r : List ℕ). chunk_top k (m + n) total ++ chunk_rest k r) all ∙ whole (m + n) (omega arith))
  where
    whole : (j : ℕ) → 0 < j → chunk_top k j (chunk_size k (j * b)) ++ chunk_rest k (tab (raw_byte d before) 0 (j * b)) ≡ chunks b d before (closed k j)
    whole zero z = absurd (omega arith)
    whole (suc j) z =
        sym
        (chunk_closed b d before k j ∙ chunk_parts k (suc j) (tab (raw_byte d before) 0 (suc j * b))
        ∙ ap (λ (v : ℕ). chunk_top k (suc j) (chunk_size k v) ++ chunk_rest k (tab (raw_byte d before) 0 (suc j * b))) (length-tab (raw_byte d before) 0 (suc j * b)))

-- ---- blocks of a chunk of an image

rest_same : (kind : BlockKind) (xs ys : List ℕ) → (kind ≡ raw → xs ≡ ys) → chunk_rest kind xs ≡ chunk_rest kind ys
rest_same kept xs ys h = refl
rest_same raw xs ys h = h refl
rest_same (fill w) xs ys h = refl

raw_bytes : (s : List ℕ) (b : ℕ) (k : Chunk) → Summable s b k → k.kind ≡ Raw → take (k.blocks * b) (drop k.body s) ≡ zeroed (cells_of s b k)
raw_bytes s b k w e = sym (ap zeroed (chunk_cells s b k) ∙ rw e (zeroed_raw s k.body (k.blocks * b) (raw_inside 0 s b k w e)))

-- their data as they stand in the image, where they are raw
pub piece_rest : {s : List ℕ} {b : ℕ} {k : Chunk} → Summable s b k → (kind : BlockKind) → (kind ≡ raw → k.kind ≡ Raw)
    → chunk_rest kind (take (k.blocks * b) (drop k.body s)) ≡ chunk_rest kind (zeroed (cells_of s b k))
piece_rest {s} {b} {k} w kind raw-only = rest_same kind (take (k.blocks * b) (drop k.body s)) (zeroed (cells_of s b k)) (λ i. raw_bytes s b k w (raw-only i))

-- they are put into the last chunk: its beginning, and their data after what stands there
pub piece_put : {s : List ℕ} {b : ℕ} {k : Chunk} → Summable s b k → (out : List ℕ) (g : Growing)
    → g.at + chunk_size (kind_of g.kind) ((g.blocks + k.blocks) * b) ≤ length out → (kind_of g.kind ≡ raw → k.kind ≡ Raw) → {z : ℕ} {out₁ out₂ : List ℕ}
    → z ≡ chunk_size (kind_of g.kind) (g.blocks * b + k.blocks * b)
    → out₁ ≡ placed out g.at (chunk_top (kind_of g.kind) (g.blocks + k.blocks) z)
    → out₂ ≡ sets out₁ (g.at + 12 + g.blocks * b) (chunk_rest (kind_of g.kind) (take (k.blocks * b) (drop k.body s)))
    → out₂ ≡ put_into out b g k.blocks (zeroed (cells_of s b k))
piece_put {s} {b} {k} w out g room raw-only e put more =
    let kind : BlockKind = kind_of g.kind in
    let n : ℕ = g.blocks + k.blocks in
    let size = e ∙ ap (chunk_size kind) (sym (add-mul g.blocks k.blocks b)) in
    more
    ∙ ap₂ (λ (l r : List ℕ). sets l (g.at + 12 + g.blocks * b) r)
    (put ∙ ap (λ (x : ℕ). placed out g.at (chunk_top kind n x)) size ∙ top_fits kind n (n * b) out g.at room)
    (piece_rest w kind raw-only)

-- ---- the output

module _ (b : ℕ) (xs : List Block) where
  -- the bytes of all blocks, kept ones as zeros
  abbrev pub bytes_of : List Block → List ℕ
  bytes_of ys = zeroed (block_cells b ys)

  -- the chunks of all blocks
  abbrev pub all_chunks : List ℕ
  all_chunks = chunks b (bytes_of xs) 0 (every_run b xs)

  bytes_append : (ps ys : List Block) → bytes_of (ps ++ ys) ≡ bytes_of ps ++ bytes_of ys
  bytes_append ps ys = ap zeroed (cells-append b ps ys) ∙ zeroed_append (block_cells b ps) (block_cells b ys)

  -- what is laid into an output, and the blocks that are left
  pub record Laid (out₀ out : List ℕ) (state : ℕ) (g : Growing) (left : List Block) : Type 0 where
    pub measured : Measured b xs g left
    -- the chunks before the last, and how many bytes their blocks are
    pub done : List ℕ
    pub before : ℕ
    pub stands : g.at ≡ 28 + length done
    -- with the last chunk and those of the blocks that are left they are all
    pub goes : all_chunks ≡ done ++ chunks b (bytes_of xs) before (runs_with b g left)
    pub rest : drop (before + g.blocks * b) (bytes_of xs) ≡ bytes_of left
    -- they stand in the output, and the last one so far
    pub room : 28 + length all_chunks ≤ length out₀
    pub holds : out ≡ sets out₀ 28 (done ++ chunks b (bytes_of xs) before (last_run g))
    -- the state goes on over the blocks that wait and those that are left
    pub sum : crc_from all_ones (bytes_of xs) ≡ crc_from (settled_by b g state) (bytes_of left)

  -- before the first block
  pub lay_start : (out : List ℕ) (state : ℕ) → 28 + length all_chunks ≤ length out → state ≡ all_ones → Laid out out state begun xs
  lay_start out state h e =
      let z : 0 + 0 * b ≡ 0 = omega arith in
      record {
        measured = measure_start b xs;
        done = [];
        before = 0;
        stands = refl;
        goes = refl;
        rest = rw z;
        room = h;
        holds = rw chunks_nil;
        sum = ap (λ (c : ℕ). crc_from c (bytes_of xs)) (sym e ∙ sym (ap (crc_from state) (waiting_none b kept) ∙ crc_nil state));
      }

  -- after the last, the output and the state
  pub lay_done : {out₀ out : List ℕ} {state : ℕ} {g : Growing} → Laid out₀ out state g [] → (settled_by b g state ≡ crc_from all_ones (bytes_of xs)) × (out ≡ sets out₀ 28 all_chunks)
  unfolding block_cells zeroed
  lay_done {out₀} {state = state} {g = g} w = (
    sym (w.sum ∙ crc_nil (settled_by b g state)),
    w.holds ∙ ap (λ (rs : List (Run BlockKind)). sets out₀ 28 (w.done ++ chunks b (bytes_of xs) w.before rs)) (sym (runs_end b g)) ∙ ap (sets out₀ 28) (sym w.goes),
  )

  -- the output keeps its length
  pub lay_long : {out₀ out : List ℕ} {state : ℕ} {g : Growing} {left : List Block} → Laid out₀ out state g left → length out ≡ length out₀
  lay_long {out₀} {g = g} w = ap length w.holds ∙ length-sets out₀ 28 (w.done ++ chunks b (bytes_of xs) w.before (last_run g))

  module _ (ps left : List Block) {out₀ out : List ℕ} {state : ℕ} {g : Growing} (w : Laid out₀ out state g (ps ++ left)) {kind : Option Stored} {n : ℕ} (p : Alike b ps kind n) where
    -- a turn to blocks of a kind
    pub lay_turn : Laid out₀ out (sum_turned b g kind state) (turned_to b g kind) (ps ++ left)
    lay_turn = go (same_kind (kind_of kind) (kind_of g.kind)) refl (measure_turn b xs ps left w.measured p)
      where
        go : (x : Bool) → same_kind (kind_of kind) (kind_of g.kind) ≡ x → Measured b xs (cond x g (ended_for b g kind)) (ps ++ left) → Laid out₀ out (cond x state (settled_by b g state)) (cond x g (ended_for b g kind)) (ps ++ left)
        go true e m = w
        go false e m =
            let d : List ℕ = bytes_of xs in
            let last : List ℕ = chunks b d w.before (last_run g) in
            let on : ℕ = w.before + g.blocks * b in
            let rs : List (Run BlockKind) = runs_with b (ended_for b g kind) (ps ++ left) in
            let z : on + 0 * b ≡ on = omega arith in
            let apart : chunks b d w.before (runs_with b g (ps ++ left)) ≡ last ++ chunks b d on rs =
            ap (chunks b d w.before) (runs_turn p g (turns g kind e) left) ∙ chunks-append b d w.before (last_run g) rs
            ∙ ap (λ (i : ℕ). last ++ chunks b d (w.before + i * b) rs) (counted_closed (kind_of g.kind) g.blocks) in
            record {
              measured = m;
              done = w.done ++ last;
              before = on;
              stands = omega (arith, w.stands, length-append w.done last, length-chunks b d w.before (last_run g));
              goes = w.goes ∙ ap (λ (r : List ℕ). w.done ++ r) apart ∙ sym (append_assoc w.done last (chunks b d on rs));
              rest = rw z w.rest;
              room = w.room;
              holds = w.holds ∙ ap (sets out₀ 28) (sym (append-nil (w.done ++ last)) ∙ ap (λ (r : List ℕ). (w.done ++ last) ++ r) (sym (chunks_nil b d on)));
              sum = w.sum ∙ ap (λ (c : ℕ). crc_from c (bytes_of (ps ++ left))) (sym (ap (crc_from (settled_by b g state)) (waiting_none b (kind_of kind)) ∙ crc_nil (settled_by b g state)));
            }

    -- blocks of the last chunk's kind are put into it
    pub lay_more : b % 4 ≡ 0 → g.kind ≡ kind → {ys out' : List ℕ} {state' : ℕ} → ys ≡ bytes_of ps → length ys ≡ n * b → Waits b (kind_of g.kind) ys n
        → out' ≡ put_into out b g n ys → state' ≡ crc_from state (chunk_rest (kind_of g.kind) ys) → Laid out₀ out' state' (lengthened g n) left
    lay_more fours e {ys} {out'} {state'} is long waits put summed =
        let d : List ℕ = bytes_of xs in
        let k : BlockKind = kind_of g.kind in
        let m : ℕ = g.blocks in
        let here : ℕ = w.before + m * b in
        let ahead : drop here d ≡ ys ++ bytes_of left = w.rest ∙ bytes_append ps left ∙ ap (λ (r : List ℕ). r ++ bytes_of left) (sym is) in
        let more : tab (raw_byte d here) 0 (n * b) ≡ ys =
        ap (tab (raw_byte d here) 0) (sym long) ∙ table_ahead d ys (bytes_of left) here ahead in
        let next : here + n * b ≡ w.before + (m + n) * b = omega (arith, add-mul m n b) in
        let first : List ℕ = sets out₀ 28 w.done in
        let stood : out ≡ sets first g.at (chunks b d w.before (last_run g)) =
        w.holds ∙ sets-append w.done (chunks b d w.before (last_run g)) out₀ 28 ∙ rw (← w.stands) in
        record {
          measured = measure_more b xs ps left w.measured p e;
          done = w.done;
          before = w.before;
          stands = w.stands;
          goes = w.goes ∙ ap (λ (rs : List (Run BlockKind)). w.done ++ chunks b d w.before rs) (runs_more p g e left);
          rest = rw (← next) (sym (drop-drop (n * b) here d) ∙ ap (drop (n * b)) ahead ∙ drop_at ys (bytes_of left) (n * b) long);
          room = w.room;
          holds =
              put ∙ ap (λ (l : List ℕ). put_into l b g n ys) stood
              ∙ chunk_grown b d w.before k m n ys first g.at p.some more
              ∙ rw w.stands (sym (sets-append w.done (chunks b d w.before (closed k (m + n))) out₀ 28));
          sum =
              w.sum ∙ ap (crc_from (settled_by b g state)) (bytes_append ps left ∙ ap (λ (r : List ℕ). r ++ bytes_of left) (sym is))
              ∙ sum_more b fours k state m n ys (bytes_of left) waits ∙ ap (λ (c : ℕ). crc_from (crc_from c (waiting b k (m + n))) (bytes_of left)) (sym summed);
        }
