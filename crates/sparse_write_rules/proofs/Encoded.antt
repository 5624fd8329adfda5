-- An encoded image is accepted, its effect is the blocks' own cells, its chunks are as long as they can be, and no other blocks have it.
-- Assumes nothing.
use mathlib.Core.Path.{◌≡◌, refl, sym, ap, ap₂, ◌∙◌}
use mathlib.Core.Bool.{true}
use mathlib.Core.Option.{Option, none, some}
use mathlib.Core.List.{List, [], ◌∷◌, ◌++◌, map}
use Prim.Native.Nat.{ℕ, ◌+◌, ◌*◌, ◌%◌, ◌≤◌, ◌<◌}
use native.Mathlib.Nat.{suc-mul}
use native.Mathlib.Omega.{arith}
use lib.ListN.{length, get_or, drop, replicate, length-append, length-map, length-replicate, get_or-append}
use lib.Seq.{get_or-drop, drop-drop, drop_at}
use borrow.Author.Tests.{le-leb}
use Rattle.fields_rules.specs.Number.{number_at, packed, Bytes}
use Rattle.fields_rules.proofs.Laws.{number_bytes}
use Rattle.rules.specs.First.{first}
use Rattle.crc32_rules.specs.Crc.{crc32}
use Rattle.crc32_rules.proofs.Laws.{crc_finish, crc32_fits}
use Rattle.sparse_rules.specs.declared.Header.{Header}
use Rattle.sparse_rules.specs.declared.Chunk.{Chunk}
use Rattle.sparse_rules.specs.Header.{block_size, total_blocks, stated_checksum, header_of, block_size_right, header_tests}
use Rattle.rules.specs.Answer.{accepted}
use Rattle.sparse_rules.specs.Cells.{tab, raw_byte, cells, zeroed, checksum_of}
use Rattle.sparse_rules.specs.Counts.{unknown}
use Rattle.sparse_rules.specs.Judge.{structure, judged}
use Rattle.sparse_rules.proofs.Facts.{judged_accepted, sum_passed}
use Rattle.sparse_rules.proofs.Refusals.{header_passes}
use Rattle.sparse_rules.proofs.SumLaws.{sum_finish}
use Rattle.sparse_rules.proofs.Image.{structure_walk, effect_accepted}
use Rattle.sparse_rules.proofs.Cells.{length-tab, tab_same, zeroed_append, zeroed_some, zeroed_none}
use Rattle.sparse_write_rules.specs.Blocks.{Block, cells_of_block, block_cells, Fits, AllFit, Whole}
use Rattle.sparse_write_rules.specs.Kinds.{BlockKind, kept, raw, fill, stored_kind, same_kind, block_kind}
use Rattle.sparse_write_rules.specs.Runs.{Run, runs}
use Rattle.sparse_write_rules.specs.Encode.{chunk_size, chunk, chunks, version, header, image, encode}
use Rattle.sparse_write_rules.specs.Theorems.{run_of, ReadsAs, Encoded}
use Rattle.sparse_write_rules.proofs.Runs.{tells_kinds, spread_runs, longest, count_runs, counted, counted_spread, All, AllRuns, all_runs}
use Rattle.sparse_write_rules.proofs.KindCells.{cells_for, stored_cells, WordFits, stored_fits}
use Rattle.sparse_write_rules.proofs.ReadBack.{few_blocks, chunk_for, read_tail, read_word, read_as, known_back, walk_back, cells_back, cells_kinds, cells_spread}
use Rattle.sparse_write_rules.proofs.FlatImage.{block_good, flat_table}
use Rattle.sparse_write_rules.proofs.ImageBytes.{bytes_blocks, encode_bytes}

-- a block has as many cells as the block size says
pub length_block : (b : ℕ) (x : Block) → Fits b x → length (cells_of_block b x) ≡ b
length_block b none f = length-replicate b none
length_block b (some ys) f = length-map ys some ∙ f.0

-- blocks have as many cells as they have bytes
pub length-block_cells : (b : ℕ) (xs : List Block) → AllFit b xs → length (block_cells b xs) ≡ length xs * b
unfolding block_cells
length-block_cells b [] f = omega arith
length-block_cells b (x ∷ xs) f =
    length-append (cells_of_block b x) (block_cells b xs) ∙ omega (arith, length_block b x f.0, length-block_cells b xs f.1, suc-mul (length xs) b)

-- ---- block by block

cells_move : (d e : List ℕ) (at : ℕ) (kind : BlockKind) (n : ℕ) → ((i : ℕ) → i < n → get_or d (at + i) 0 ≡ get_or e i 0) → cells_for d at kind n ≡ cells_for e 0 kind n
cells_move d e at kept n h = refl
cells_move d e at raw n h =
    ap (map some)
    (tab_same (raw_byte d at) (raw_byte e 0) 0 0 n
    (λ i l. let z : at + (0 + i) ≡ at + i = omega arith in let y : 0 + (0 + i) ≡ i = omega arith in rw (z, y) (h i l)))
cells_move d e at (fill w) n h = refl

-- a stored block's cells, found by its kind, are its own
block_back : (b : ℕ) (d ys rest : List ℕ) (at : ℕ) → b % 4 ≡ 0 → length ys ≡ b → Bytes ys → drop at d ≡ ys ++ rest
    → cells_for d at (stored_kind ys b 0) b ≡ map some ys
block_back b d ys rest at fours long small e =
    cells_move d ys at (stored_kind ys b 0) b
    (λ i l. sym (get_or-drop at d i 0) ∙ ap (λ (r : List ℕ). get_or r i 0) e ∙ get_or-append ys rest 0 i (omega arith))
    ∙ stored_cells ys small b 0 fours
    ∙ ap (λ (n : ℕ). map some (tab (raw_byte ys 0) 0 n)) (sym long) ∙ ap (map some) (flat_table ys)

-- the cells of blocks, found by their kinds, are their own
kinds_back : (b : ℕ) (d : List ℕ) → b % 4 ≡ 0 → (xs : List Block) (at : ℕ) → AllFit b xs → drop at d ≡ zeroed (block_cells b xs)
    → cells_kinds b d at (map (block_kind b) xs) ≡ block_cells b xs
unfolding block_cells
kinds_back b d fours [] at f e = refl
kinds_back b d fours (none ∷ xs) at f e =
    let q : drop at d ≡ replicate b 0 ++ zeroed (block_cells b xs) =
    e ∙ zeroed_append (replicate b none) (block_cells b xs) ∙ ap (λ (r : List ℕ). r ++ zeroed (block_cells b xs)) (zeroed_none b) in
    let on : drop (at + b) d ≡ zeroed (block_cells b xs) =
    sym (drop-drop b at d) ∙ ap (drop b) q ∙ drop_at (replicate b 0) (zeroed (block_cells b xs)) b (length-replicate b 0) in
    ap (λ (r : List (Option ℕ)). replicate b none ++ r) (kinds_back b d fours xs (at + b) f.1 on)
kinds_back b d fours (some ys ∷ xs) at f e =
    let q : drop at d ≡ ys ++ zeroed (block_cells b xs) =
    e ∙ zeroed_append (map some ys) (block_cells b xs) ∙ ap (λ (r : List ℕ). r ++ zeroed (block_cells b xs)) (zeroed_some ys) in
    let on : drop (at + b) d ≡ zeroed (block_cells b xs) =
    sym (drop-drop b at d) ∙ ap (drop b) q ∙ drop_at ys (zeroed (block_cells b xs)) b f.0.0 in
    ap₂ (λ (x y : List (Option ℕ)). x ++ y) (block_back b d ys (zeroed (block_cells b xs)) at fours f.0.0 f.0.1 q)
    (kinds_back b d fours xs (at + b) f.1 on)

-- ---- the header

-- the fields of the file header, read back
header_back : (b n k c : ℕ) (rest : List ℕ) → b < 4294967296 → n < 4294967296 → k < 4294967296 → c < 4294967296
    → header_of (header b n k c ++ rest) ≡ record { block = b; total = n; chunks = k; checksum = c; start = 28; head = 12 }
unfolding header version packed number_at
header_back b n k c rest hb hn hk hc = rw (number_bytes 4 b [] hb, number_bytes 4 n [] hn, number_bytes 4 k [] hk, number_bytes 4 c [] hc)

-- an image with that header passes the tests of the header
tests_pass : (b n k c room : ℕ) (rest : List ℕ) → b < 4294967296 → n < 4294967296 → block_size_right b ≡ true → n * b ≤ room
    → first (header_tests (header b n k c ++ rest) (length (header b n k c ++ rest)) room) ≡ 0
unfolding header version packed number_at
tests_pass b n k c room rest hb hn right fits =
    let long : 28 ≤ length (header b n k c ++ rest) = simp length-append (omega arith) in
    sym
    (header_passes (header b n k c ++ rest) (length (header b n k c ++ rest)) room long refl refl (le-leb 28 (length (header b n k c ++ rest)) long)
    (rw (number_bytes 4 b [] hb) right) (rw (number_bytes 4 b [] hb, number_bytes 4 n [] hn) fits))

-- ---- kinds and chunks

kinds_fit : (b : ℕ) (xs : List Block) → AllFit b xs → All WordFits (map (block_kind b) xs)
kinds_fit b [] f = tt
kinds_fit b (none ∷ xs) f = (tt, kinds_fit b xs f.1)
kinds_fit b (some ys ∷ xs) f = (stored_fits ys f.0.1 b 0, kinds_fit b xs f.1)

run_back : (s : List ℕ) (pos : ℕ) (kind : BlockKind) (k : ℕ) (xs tail : List ℕ) → drop pos s ≡ chunk kind k xs ++ tail → WordFits kind
    → run_of s (chunk_for kind k pos) ≡ record { kind = kind; many = k }
run_back s pos kept k xs tail e h = refl
run_back s pos raw k xs tail e h = refl
run_back s pos (fill w) k xs tail e h = rw (read_word s pos w k xs tail e h)

-- the chunks of runs, read back, are the runs
runs_back : (s : List ℕ) (b : ℕ) (d : List ℕ) (rs : List (Run BlockKind)) (pos at : ℕ) → drop pos s ≡ chunks b d at rs → AllRuns WordFits rs
    → map (run_of s) (read_as b pos rs) ≡ rs
unfolding chunks
runs_back s b d [] pos at e a = refl
runs_back s b d (r ∷ rs) pos at e a =
    let xs : List ℕ = tab (raw_byte d at) 0 (r.many * b) in
    let tail : List ℕ = chunks b d (at + r.many * b) rs in
    let on = rw length-tab at (read_tail s pos r.kind r.many xs tail e) in
    ap₂ (λ (x : Run BlockKind) (l : List (Run BlockKind)). x ∷ l) (run_back s pos r.kind r.many xs tail e a.0)
    (runs_back s b d rs (pos + chunk_size r.kind (r.many * b)) (at + r.many * b) on a.1)

-- ---- the image

module _ (b : ℕ) (xs : List Block) (w : Whole b xs) where
  good : (4 ≤ b) × (b ≤ 65536) × (b % 4 ≡ 0)
  good = block_good b w.right

  count : length (map (block_kind b) xs) ≡ length xs
  count = length-map xs (block_kind b)

  -- the chunks that the image is read as
  unfoldable found : List Chunk
  found = read_as b 28 (runs same_kind (map (block_kind b) xs))

  few : length xs < 4294967296
  few = let g = good in few_blocks (length xs) b (omega arith) w.small

  few_chunks : length (runs same_kind (map (block_kind b) xs)) < 4294967296
  few_chunks = omega (arith, count_runs same_kind (map (block_kind b) xs), count, few)

  small_sum : crc32 (zeroed (block_cells b xs)) < 4294967296
  small_sum = crc32_fits (zeroed (block_cells b xs)) (bytes_blocks b xs w.fit)

  head : Header
  head = record { block = b; total = length xs; chunks = length (runs same_kind (map (block_kind b) xs)); checksum = crc32 (zeroed (block_cells b xs)); start = 28; head = 12 }

  is : encode b xs
      ≡ header b (length xs) (length (runs same_kind (map (block_kind b) xs))) (crc32 (zeroed (block_cells b xs))) ++ chunks b (zeroed (block_cells b xs)) 0 (runs same_kind (map (block_kind b) xs))
  unfolding encode image
  is = rw count

  head_is : header_of (encode b xs) ≡ head
  unfolding head
  head_is =
      let g = good in
      ap header_of is
      ∙ header_back b (length xs) (length (runs same_kind (map (block_kind b) xs))) (crc32 (zeroed (block_cells b xs))) (chunks b (zeroed (block_cells b xs)) 0 (runs same_kind (map (block_kind b) xs)))
      (omega arith) few few_chunks small_sum

  tail_is : drop 28 (encode b xs) ≡ chunks b (zeroed (block_cells b xs)) 0 (runs same_kind (map (block_kind b) xs))
  unfolding header version packed
  tail_is = ap (drop 28) is

  -- the runs stand for all blocks
  pub all_blocks : counted (runs same_kind (map (block_kind b) xs)) ≡ length xs
  all_blocks = counted_spread (runs same_kind (map (block_kind b) xs)) ∙ ap length (spread_runs same_kind tells_kinds (map (block_kind b) xs)) ∙ count

  walks : structure (encode b xs) (length (encode b xs)) ≡ accepted found
  unfolding head found
  walks =
      let g = good in
      sym (structure_walk (encode b xs) (length (encode b xs)) head (sym head_is))
      ∙ walk_back (encode b xs) head (zeroed (block_cells b xs)) refl (omega arith) w.small (runs same_kind (map (block_kind b) xs)) 28 0 0 tail_is (omega (arith, all_blocks))

  cells_are : cells (encode b xs) b found ≡ block_cells b xs
  unfolding found
  cells_are =
      cells_back (encode b xs) b (zeroed (block_cells b xs)) (runs same_kind (map (block_kind b) xs)) 28 0 tail_is
      ∙ sym (cells_spread b (zeroed (block_cells b xs)) good.2 (runs same_kind (map (block_kind b) xs)) 0)
      ∙ ap (cells_kinds b (zeroed (block_cells b xs)) 0) (spread_runs same_kind tells_kinds (map (block_kind b) xs))
      ∙ kinds_back b (zeroed (block_cells b xs)) good.2 xs 0 w.fit refl

  -- the block size, read back
  pub size_read : block_size (encode b xs) ≡ b
  unfolding head
  size_read = ap (λ (h : Header). h.block) head_is

  passes : (room : ℕ) → length xs * b ≤ room → first (header_tests (encode b xs) (length (encode b xs)) room) ≡ 0
  passes room h =
      let g = good in
      rw is
      (tests_pass b (length xs) (length (runs same_kind (map (block_kind b) xs))) (crc32 (zeroed (block_cells b xs))) room (chunks b (zeroed (block_cells b xs)) 0 (runs same_kind (map (block_kind b) xs)))
      (omega arith) few w.right h)

  -- the checksum, read back
  pub sum_read : stated_checksum (encode b xs) ≡ crc32 (zeroed (block_cells b xs))
  unfolding head
  sum_read = ap (λ (h : Header). h.checksum) head_is

  -- which is the true one
  true_sum : checksum_of (encode b xs) b found ≡ crc32 (zeroed (block_cells b xs))
  true_sum =
      sum_finish (encode b xs) b found ∙ sym (crc_finish (zeroed (cells (encode b xs) b found)))
      ∙ ap (λ (cs : List (Option ℕ)). crc32 (zeroed cs)) cells_are

  accepts : (room : ℕ) → length xs * b ≤ room → judged (encode b xs) (length (encode b xs)) room ≡ accepted found
  accepts room h =
      judged_accepted (encode b xs) (length (encode b xs)) room (passes room h) found walks
      (sum_passed (encode b xs) found (ap (λ (n : ℕ). checksum_of (encode b xs) n found) size_read ∙ true_sum ∙ sym sum_read))

  chunks_back : map (run_of (encode b xs)) found ≡ runs same_kind (map (block_kind b) xs)
  unfolding found
  chunks_back =
      runs_back (encode b xs) b (zeroed (block_cells b xs)) (runs same_kind (map (block_kind b) xs)) 28 0 tail_is
      (all_runs same_kind WordFits (map (block_kind b) xs) (kinds_fit b xs w.fit))

  -- the total, read back
  pub total_read : total_blocks (encode b xs) ≡ length xs
  unfolding head
  total_read = ap (λ (h : Header). h.total) head_is

  known_found : unknown found ≡ 0
  unfolding found
  known_found = known_back b 28 (runs same_kind (map (block_kind b) xs))

  -- the image of blocks reads back as these blocks wherever they have room
  pub reads : (room : ℕ) → length xs * b ≤ room → ReadsAs (encode b xs) b xs room
  reads room h =
      record {
        ks = found;
        found = accepts room h;
        states = (size_read, total_read);
        sums = sum_read ∙ sym true_sum;
        known = known_found;
        cells_are = cells_are;
        gives = effect_accepted (encode b xs) room found (accepts room h) ∙ ap (λ (n : ℕ). cells (encode b xs) n found) size_read ∙ cells_are;
        chunks_are = chunks_back;
        longest = rw chunks_back (longest same_kind tells_kinds (map (block_kind b) xs));
      }

-- what holds of the image of blocks
pub encoded : Encoded
encoded = record { bytes = λ b xs w. encode_bytes b xs w.fit; reads = λ b xs room w h. reads b xs w room h }
