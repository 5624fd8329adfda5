-- Blocks of flat data by their place, their cells and their image, what the writer's tests say, and its answers one by one.
-- Assumes nothing.
use mathlib.Core.Path.{◌≡◌, refl, sym, ap, ap₂, ◌∙◌}
use mathlib.Core.Bool.{Bool, true, false, not, ◌&&◌}
use mathlib.Core.Option.{Option, some}
use mathlib.Core.List.{List, ◌++◌, map}
use Prim.Native.Nat.{ℕ, zero, suc, ◌+◌, ◌*◌, ◌/◌, ◌%◌, ◌≤◌, ◌<◌}
use native.Mathlib.Nat.{suc-mul, div-add-mod'}
use native.Mathlib.Omega.{arith}
use lib.Dec.{leb, ltb, eqb}
use lib.ListN.{length, get_or, drop, length-map, get_or-append}
use lib.Seq.{take-length, get_or-drop}
use borrow.Author.Tests.{leb-true, eqb-true, ltb-false, le-leb, eq-eqb, lt-ltb, le-ltb, not-false}
use Rattle.fields_rules.specs.Number.{number_at}
use Rattle.fields_rules.proofs.Laws.{number_same}
use Rattle.rules.specs.Answer.{accepted, refused}
use Rattle.rules.proofs.Tests.{both, or_left, or_right}
use Rattle.crc32_rules.specs.Crc.{crc32}
use Rattle.sparse_rules.specs.Header.{block_size_right}
use Rattle.sparse_rules.specs.Cells.{tab, raw_byte}
use Rattle.sparse_rules.proofs.Cells.{get_or-tab, tab_same, zeroed_some}
use Rattle.sparse_write_rules.specs.Blocks.{block_cells, blocks_from, flat_blocks}
use Rattle.sparse_write_rules.specs.Kinds.{all_equal, stored_kind, same_kind, block_kind}
use Rattle.sparse_write_rules.specs.Runs.{runs}
use Rattle.sparse_write_rules.specs.Encode.{chunks, header, image, encode}
use Rattle.sparse_write_rules.specs.Write.{flat_image, length_wrong, write_tests, answer, output}
use Rattle.sparse_write_rules.proofs.KindCells.{some_append, raw_split, raw_part}

-- ---- a block by its place in the flat data

module _ (d : List ℕ) (b at : ℕ) where
  word_tab : (i : ℕ) → i + 4 ≤ b → number_at (tab (raw_byte d at) 0 b) i 4 ≡ number_at d (at + i) 4
  word_tab i h =
      number_same (tab (raw_byte d at) 0 b) d i (at + i) 4
      (λ j l. let z : at + (0 + (i + j)) ≡ at + i + j = omega arith in get_or-tab (raw_byte d at) 0 b (i + j) (omega arith) ∙ rw z)

  equal_tab : (w n i : ℕ) → i + n * 4 ≤ b → all_equal (tab (raw_byte d at) 0 b) w n i ≡ all_equal d w n (at + i)
  unfolding all_equal
  equal_tab w zero i h = refl
  equal_tab w (suc n) i h =
      let z : at + (i + 4) ≡ at + i + 4 = omega arith in
      ap₂ (λ (x y : Bool). x && y) (ap (λ (v : ℕ). eqb v w) (word_tab i (omega arith))) (equal_tab w n (i + 4) (omega arith) ∙ rw z)

  -- a block's kind is that of its place
  pub kind_tab : 4 ≤ b → stored_kind (tab (raw_byte d at) 0 b) b 0 ≡ stored_kind d b at
  unfolding stored_kind
  kind_tab h =
      let z : at + 0 ≡ at = omega arith in
      let w : number_at (tab (raw_byte d at) 0 b) 0 4 ≡ number_at d at 4 = word_tab 0 (omega arith) ∙ rw z in
      let s : all_equal (tab (raw_byte d at) 0 b) (number_at d at 4) (b / 4) 0 ≡ all_equal d (number_at d at 4) (b / 4) at = equal_tab (number_at d at 4) (b / 4) 0 (omega arith) ∙ rw z in
      rw (w, s)

-- there are as many blocks as are asked for
pub length-blocks : (d : List ℕ) (b n at : ℕ) → length (blocks_from d b n at) ≡ n
unfolding blocks_from
length-blocks d b zero at = refl
length-blocks d b (suc n) at = ap suc (length-blocks d b n (at + b))

cells_at : (d : List ℕ) (b n at : ℕ) → block_cells b (blocks_from d b n at) ≡ map some (tab (raw_byte d at) 0 (n * b))
unfolding blocks_from block_cells
cells_at d b zero at = let z : 0 * b ≡ 0 = omega arith in rw z
cells_at d b (suc n) at =
    let e : suc n * b ≡ b + n * b = omega (arith, suc-mul n b) in
    ap (λ (r : List (Option ℕ)). map some (tab (raw_byte d at) 0 b) ++ r) (cells_at d b n (at + b))
    ∙ sym (rw e (ap (map some) (raw_split d at b (n * b)) ∙ some_append (tab (raw_byte d at) 0 b) (tab (raw_byte d (at + b)) 0 (n * b))))

-- flat data, as a table of themselves
pub flat_table : (d : List ℕ) → tab (raw_byte d 0) 0 (length d) ≡ d
flat_table d = raw_part d 0 (length d) (omega arith) ∙ take-length d

-- and so are bytes that stand among others
pub table_ahead : (d ys rest : List ℕ) (at : ℕ) → drop at d ≡ ys ++ rest → tab (raw_byte d at) 0 (length ys) ≡ ys
table_ahead d ys rest at e =
    tab_same (raw_byte d at) (raw_byte ys 0) 0 0 (length ys)
    (λ i l.
    let z : at + (0 + i) ≡ at + i = omega arith in
    let y : 0 + (0 + i) ≡ i = omega arith in
    rw (z, y) (sym (get_or-drop at d i 0) ∙ ap (λ (r : List ℕ). get_or r i 0) e ∙ get_or-append ys rest 0 i l))
    ∙ flat_table ys

-- the cells of flat data that are whole blocks: all are stored
pub cells_flat : (d : List ℕ) (b : ℕ) → length d / b * b ≡ length d → block_cells b (flat_blocks d b) ≡ map some d
unfolding flat_blocks
cells_flat d b e = cells_at d b (length d / b) 0 ∙ ap (λ (n : ℕ). map some (tab (raw_byte d 0) 0 n)) e ∙ ap (map some) (flat_table d)

-- the image of flat data that are whole blocks
pub flat-image : (d : List ℕ) (b : ℕ) → length d / b * b ≡ length d
    → flat_image d b
    ≡ header b (length (flat_blocks d b)) (length (runs same_kind (map (block_kind b) (flat_blocks d b)))) (crc32 d) ++ chunks b d 0 (runs same_kind (map (block_kind b) (flat_blocks d b)))
unfolding flat_image encode image
flat-image d b e = rw (cells_flat d b e, zeroed_some d, length-map (flat_blocks d b) (block_kind b))

-- ---- what a test that is passed says

-- the block size is a multiple of 4 from 4 to 65,536
pub block_good : (b : ℕ) → block_size_right b ≡ true → (4 ≤ b) × (b ≤ 65536) × (b % 4 ≡ 0)
block_good b e =
    let p = both (leb 4 b && leb b 65536) (eqb (b % 4) 0) e in
    let q = both (leb 4 b) (leb b 65536) p.0 in
    (leb-true 4 b q.0, leb-true b 65536 q.1, eqb-true (b % 4) 0 p.1)

-- and such a size is right
pub block_right : (b : ℕ) → 4 ≤ b → b ≤ 65536 → b % 4 ≡ 0 → block_size_right b ≡ true
block_right b least most fours = rw (le-leb 4 b least, le-leb b 65536 most, eq-eqb (b % 4) 0 fours)

-- the flat data are not too long, and are whole blocks
pub length_good : (n b : ℕ) → length_wrong n b ≡ false → (n ≤ 2147483648) × (n / b * b ≡ n)
length_good n b e =
    let z : n % b ≡ 0 = eqb-true (n % b) 0 (not-false (eqb (n % b) 0) (or_right (ltb 2147483648 n) (not (eqb (n % b) 0)) e)) in
    (ltb-false 2147483648 n (or_left (ltb 2147483648 n) (not (eqb (n % b) 0)) e), omega (arith, div-add-mod' n b))

-- ---- the answers

module _ (d : List ℕ) (b : ℕ) (out : List ℕ) where
  -- 5 comes first
  pub refuse_5 : block_size_right b ≡ false → (refused 5 0 ≡ answer d b (length out)) × (out ≡ output d b out)
  unfolding answer output write_tests
  refuse_5 e = (rw e, rw e)

  module _ (g : block_size_right b ≡ true) where
    -- then 13
    pub refuse_13 : length_wrong (length d) b ≡ true → (refused 13 0 ≡ answer d b (length out)) × (out ≡ output d b out)
    unfolding answer output write_tests
    refuse_13 e = (rw (g, e), rw (g, e))

    module _ (l : length_wrong (length d) b ≡ false) where
      -- then 12
      pub refuse_12 : length out < length (flat_image d b) → (refused 12 0 ≡ answer d b (length out)) × (out ≡ output d b out)
      unfolding answer output write_tests
      refuse_12 h = let e = lt-ltb (length out) (length (flat_image d b)) h in (rw (g, l, e), rw (g, l, e))

      -- else the image is written
      pub accept : length (flat_image d b) ≤ length out
          → (accepted (length (flat_image d b)) ≡ answer d b (length out)) × (flat_image d b ++ drop (length (flat_image d b)) out ≡ output d b out)
      unfolding answer output write_tests
      accept h = let e = le-ltb (length out) (length (flat_image d b)) h in (rw (g, l, e), rw (g, l, e))
