-- The blocks of an image are what it gives each byte, and there are as many as its header says.
-- Assumes nothing.
use mathlib.Core.Path.{◌≡◌, refl, sym, ap, ap₂, ◌∙◌}
use mathlib.Core.Bool.{true}
use mathlib.Core.Option.{Option, none, some}
use mathlib.Core.List.{List, [], ◌∷◌, ◌++◌, map, append_assoc}
use Prim.Native.Nat.{ℕ, zero, suc, ◌+◌, ◌*◌, ◌%◌, ◌≤◌}
use native.Mathlib.Nat.{suc-mul}
use native.Mathlib.Omega.{arith}
use lib.ListN.{length, replicate, length-append, replicate-append-replicate}
use Rattle.rules.specs.Answer.{accepted}
use Rattle.fields_rules.specs.Number.{Bytes}
use Rattle.sparse_rules.specs.declared.Kind.{Kind}
use Rattle.sparse_rules.specs.declared.Kind.TheVariants.{Raw, Fill, DontCare, Unknown}
use Rattle.sparse_rules.specs.declared.Chunk.{Chunk}
use Rattle.sparse_rules.specs.Header.{block_size, block_size_right}
use Rattle.sparse_rules.specs.Cells.{tab, raw_byte, fill_byte, cells_by, cells}
use Rattle.sparse_rules.specs.Judge.{judged, effect}
use Rattle.sparse_rules.proofs.Counting.{blocks_in, three_parts}
use Rattle.sparse_rules.proofs.Cells.{length-tab, tab_same, tab-append, cells_nil, cells_cons, cells_kept}
use Rattle.sparse_rules.proofs.Facts.{accepted_facts}
use Rattle.sparse_rules.proofs.Image.{chunk_cells, raw_cells, fill_cells, effect_accepted}
use Rattle.sparse_rules.proofs.Theorems.{sums, judged_more}
use Rattle.sparse_write_rules.specs.Blocks.{Block, cells_of_block, block_cells, Fits, AllFit, Whole}
use Rattle.sparse_write_rules.specs.Encode.{encode}
use Rattle.sparse_write_rules.proofs.KindCells.{some_append, raw_split}
use Rattle.sparse_write_rules.proofs.FlatImage.{block_right}
use Rattle.sparse_write_rules.proofs.ImageBytes.{bytes_tab, encode_bytes}
use Rattle.sparse_write_rules.proofs.Encoded.{size_read, total_read, reads}
use Rattle.sparse_write_rules.proofs.Theorems.{blocks_injective}
use Rattle.sparse_blocks_rules.specs.Blocks.{block_from, pace, stretch, blocks_of, needed, found, blocks}
use Rattle.sparse_blocks_rules.specs.Pairs.{Accepted}
use Rattle.sparse_blocks_rules.specs.Theorems.{Given}
use Rattle.sparse_blocks_rules.proofs.Stretches.{length_stretch, blocks_accepted, blocks_cons, blocks_nil}

-- ---- cells

-- the cells of blocks that are joined
pub cells-append : (b : ℕ) (xs ys : List Block) → block_cells b (xs ++ ys) ≡ block_cells b xs ++ block_cells b ys
unfolding block_cells
cells-append b [] ys = refl
cells-append b (x ∷ xs) ys =
    ap (λ (r : List (Option ℕ)). cells_of_block b x ++ r) (cells-append b xs ys) ∙ sym (append_assoc (cells_of_block b x) (block_cells b xs) (block_cells b ys))

-- one block of a kind that keeps, and those after it
keeps_one : (s : List ℕ) (b : ℕ) (k : Kind) (n at : ℕ) → ((m : ℕ) → cells_by s k at m ≡ replicate m none)
    → cells_by s k at (b + n) ≡ replicate b none ++ cells_by s k (at + 0) n
keeps_one s b k n at kept =
    let z : at + 0 ≡ at = omega arith in
    kept (b + n) ∙ sym (replicate-append-replicate b n none) ∙ ap (λ (r : List (Option ℕ)). replicate b none ++ r) (sym (kept n) ∙ rw z)

-- one block of a kind, and those after it
cells_one : (s : List ℕ) (b : ℕ) → b % 4 ≡ 0 → (k : Kind) (n at : ℕ)
    → cells_by s k at (b + n) ≡ cells_of_block b (block_from s b k at) ++ cells_by s k (at + pace b k) n
unfolding block_from
cells_one s b fours Raw n at =
    raw_cells s at (b + n) ∙ ap (map some) (raw_split s at b n) ∙ some_append (tab (raw_byte s at) 0 b) (tab (raw_byte s (at + b)) 0 n)
    ∙ ap (λ (r : List (Option ℕ)). map some (tab (raw_byte s at) 0 b) ++ r) (sym (raw_cells s (at + b) n))
cells_one s b fours Fill n at =
    let z : at + 0 ≡ at = omega arith in
    fill_cells s at (b + n)
    ∙ ap (map some)
    (tab-append (fill_byte s at) 0 b n
    ∙ ap (λ (r : List ℕ). tab (fill_byte s at) 0 b ++ r)
    (tab_same (fill_byte s at) (fill_byte s at) (0 + b) 0 n (λ j h. let e : (0 + b + j) % 4 ≡ (0 + j) % 4 = omega arith in rw e)))
    ∙ some_append (tab (fill_byte s at) 0 b) (tab (fill_byte s at) 0 n)
    ∙ ap (λ (r : List (Option ℕ)). map some (tab (fill_byte s at) 0 b) ++ r) (sym (fill_cells s at n) ∙ rw z)
cells_one s b fours DontCare n at = keeps_one s b DontCare n at (λ m. cells_kept s DontCare at m refl)
cells_one s b fours Unknown n at = keeps_one s b Unknown n at (λ m. cells_kept s Unknown at m refl)

cells-zero : (s : List ℕ) (k : Kind) (at : ℕ) → cells_by s k at 0 ≡ []
unfolding cells_by
cells-zero s Raw at = refl
cells-zero s Fill at = refl
cells-zero s DontCare at = refl
cells-zero s Unknown at = refl

-- the cells of some blocks of a kind are those of their bytes
pub cells_stretch : (s : List ℕ) (b : ℕ) → b % 4 ≡ 0 → (k : Kind) (n at : ℕ) → cells_by s k at (n * b) ≡ block_cells b (stretch s b k n at)
unfolding stretch block_cells
cells_stretch s b fours k zero at = let z : 0 * b ≡ 0 = omega arith in rw z (cells-zero s k at)
cells_stretch s b fours k (suc n) at =
    let z : suc n * b ≡ b + n * b = omega (arith, suc-mul n b) in
    rw z
    (cells_one s b fours k (n * b) at
    ∙ ap (λ (r : List (Option ℕ)). cells_of_block b (block_from s b k at) ++ r) (cells_stretch s b fours k n (at + pace b k)))

-- the cells of chunks are those of their blocks
cells-blocks : (s : List ℕ) (b : ℕ) → b % 4 ≡ 0 → (ks : List Chunk) → cells s b ks ≡ block_cells b (blocks_of s b ks)
unfolding block_cells
cells-blocks s b fours [] = cells_nil s b ∙ sym (ap (block_cells b) (blocks_nil s b))
cells-blocks s b fours (k ∷ ks) =
    cells_cons s b k ks
    ∙ ap₂ (λ (x y : List (Option ℕ)). x ++ y) (chunk_cells s b k ∙ cells_stretch s b fours k.kind k.blocks k.body) (cells-blocks s b fours ks)
    ∙ sym (ap (block_cells b) (blocks_cons s b k ks) ∙ cells-append b (stretch s b k.kind k.blocks k.body) (blocks_of s b ks))

-- ---- how many

length-blocks_of : (s : List ℕ) (b : ℕ) (ks : List Chunk) → length (blocks_of s b ks) ≡ blocks_in ks
length-blocks_of s b [] = ap length (blocks_nil s b)
length-blocks_of s b (k ∷ ks) =
    ap length (blocks_cons s b k ks) ∙ length-append (stretch s b k.kind k.blocks k.body) (blocks_of s b ks)
    ∙ ap₂ (λ (x y : ℕ). x + y) (length_stretch s b k.kind k.blocks k.body) (length-blocks_of s b ks)

-- ---- blocks fit

block_fits : (s : List ℕ) → Bytes s → (b : ℕ) (k : Kind) (at : ℕ) → Fits b (block_from s b k at)
unfolding block_from
block_fits s small b Raw at = (length-tab (raw_byte s at) 0 b, bytes_tab (raw_byte s at) (λ i. small (at + i)) 0 b)
block_fits s small b Fill at = (length-tab (fill_byte s at) 0 b, bytes_tab (fill_byte s at) (λ i. small (at + i % 4)) 0 b)
block_fits s small b DontCare at = tt
block_fits s small b Unknown at = tt

fit_append : (b : ℕ) (xs ys : List Block) → AllFit b xs → AllFit b ys → AllFit b (xs ++ ys)
fit_append b [] ys p q = q
fit_append b (x ∷ xs) ys p q = (p.0, fit_append b xs ys p.1 q)

-- as do some blocks of a chunk
pub fit_stretch : (s : List ℕ) → Bytes s → (b : ℕ) (k : Kind) (n at : ℕ) → AllFit b (stretch s b k n at)
unfolding stretch
fit_stretch s small b k zero at = tt
fit_stretch s small b k (suc n) at = (block_fits s small b k at, fit_stretch s small b k n (at + pace b k))

fit_blocks_of : (s : List ℕ) → Bytes s → (b : ℕ) (ks : List Chunk) → AllFit b (blocks_of s b ks)
unfolding blocks_of
fit_blocks_of s small b [] = tt
fit_blocks_of s small b (k ∷ ks) =
    fit_append b (stretch s b k.kind k.blocks k.body) (blocks_of s b ks) (fit_stretch s small b k.kind k.blocks k.body)
    (fit_blocks_of s small b ks)

-- ---- an accepted image

module _ {s : List ℕ} (a : Accepted s) where
  -- it is accepted where it has just the room that it needs
  pub judges : judged s (length s) (needed s) ≡ accepted a.ks
  unfolding found
  judges = a.is

  -- its blocks are those of its chunks
  pub blocks_are : blocks s ≡ blocks_of s (block_size s) a.ks
  unfolding blocks
  blocks_are = blocks_accepted s (block_size s) a.ks a.is

  effect_blocks : (room : ℕ) → needed s ≤ room → effect s room ≡ block_cells (block_size s) (blocks s)
  effect_blocks room h =
      effect_accepted s room a.ks (judged_more s (length s) a.ks (needed s) room h judges)
      ∙ cells-blocks s (block_size s) (accepted_facts s (length s) (needed s) a.ks judges).header.block_fours a.ks
      ∙ ap (block_cells (block_size s)) (sym blocks_are)

  -- its blocks are what it gives
  pub gives : Given s
  gives =
      record {
        many =
            ap length blocks_are ∙ length-blocks_of s (block_size s) a.ks ∙ sym (three_parts a.ks)
            ∙ (sums s (length s) (needed s) a.ks judges).total;
        fit = λ small. rw blocks_are (fit_blocks_of s small (block_size s) a.ks);
        effects = effect_blocks;
        only = λ small room h xs f e.
            let least = (accepted_facts s (length s) (needed s) a.ks judges).header.block_least in
            blocks_injective (block_size s) (omega arith) xs (blocks s) f (rw blocks_are (fit_blocks_of s small (block_size s) a.ks)) (sym e ∙ effect_blocks room h);
      }

-- its block size is right
pub right_size : {s : List ℕ} → Accepted s → block_size_right (block_size s) ≡ true
right_size {s} a =
    let f = (accepted_facts s (length s) (needed s) a.ks (judges a)).header in
    block_right (block_size s) f.block_least f.block_most f.block_fours

-- ---- an encoded image

module _ (b : ℕ) (xs : List Block) (w : Whole b xs) where
  -- it needs the room of its blocks
  pub encoded_room : needed (encode b xs) ≡ length xs * b
  encoded_room = ap₂ (λ (m n : ℕ). m * n) (total_read b xs w) (size_read b xs w)

  -- it is accepted
  pub encoded_accepted : Accepted (encode b xs)
  unfolding found
  encoded_accepted = let r = reads b xs w (needed (encode b xs)) (omega (arith, encoded_room)) in record { ks = r.ks; is = r.found }

  -- and its blocks are those that it is encoded from
  pub encoded_blocks : blocks (encode b xs) ≡ xs
  encoded_blocks =
      let fit : AllFit (block_size (encode b xs)) xs = rw (size_read b xs w) w.fit in
      sym
      ((gives encoded_accepted).only (encode_bytes b xs w.fit) (needed (encode b xs)) (omega arith) xs fit
      ((reads b xs w (needed (encode b xs)) (omega (arith, encoded_room))).gives ∙ ap (λ (n : ℕ). block_cells n xs) (sym (size_read b xs w))))
