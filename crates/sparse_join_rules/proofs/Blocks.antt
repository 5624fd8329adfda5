-- Joined blocks: the cells that they are, that they fit, that grouping makes no difference, and how many there are.
-- Assumes nothing.
use mathlib.Core.Path.{◌≡◌, refl, sym, ap, ap₂, ◌∙◌}
use mathlib.Core.Option.{Option, none, some}
use mathlib.Core.List.{List, [], ◌∷◌, ◌++◌}
use Prim.Native.Nat.{ℕ, ◌*◌, ◌<◌}
use native.Mathlib.Omega.{arith}
use lib.ListN.{length, get_or, replicate}
use Rattle.sparse_rules.specs.Header.{block_size, total_blocks}
use Rattle.sparse_store_rules.specs.Store.{over}
use Rattle.sparse_store_rules.proofs.Over.{laters, over_laters, laters_append, laters_kept, laters_stored}
use Rattle.sparse_write_rules.specs.Blocks.{Block, cells_of_block, block_cells, Fits, AllFit, Whole}
use Rattle.sparse_write_rules.proofs.Encoded.{length_block, length-block_cells}
use Rattle.sparse_blocks_rules.specs.Blocks.{blocks}
use Rattle.sparse_blocks_rules.specs.Pairs.{each, Matched}
use Rattle.sparse_blocks_rules.proofs.Giving.{gives, right_size}
use Rattle.sparse_blocks_rules.proofs.SideBySide.{length_each, each_at, as_many}
use Rattle.sparse_join_rules.specs.Join.{onto, joined_blocks}
use Rattle.sparse_join_rules.specs.Theorems.{Joinable}

-- ---- the cells of blocks one onto another

cells_one : (b : ℕ) (x y : Block) → Fits b x → Fits b y → cells_of_block b (onto x y) ≡ laters (cells_of_block b y) (cells_of_block b x)
cells_one b x none f g =
    sym (ap (λ (n : ℕ). laters (replicate n none) (cells_of_block b x)) (sym (length_block b x f)) ∙ laters_kept (cells_of_block b x))
cells_one b x (some ys) f g = sym (laters_stored ys (cells_of_block b x) (g.0 ∙ sym (length_block b x f)))

-- of the two cells for each byte, the second's where that stores it
pub cells_onto : (b : ℕ) (xs ys : List Block) → AllFit b xs → AllFit b ys → length ys ≡ length xs
    → block_cells b (each onto xs ys) ≡ laters (block_cells b ys) (block_cells b xs)
unfolding each block_cells
cells_onto b [] [] f g e = refl
cells_onto b [] (y ∷ ys) f g e = absurd (omega arith)
cells_onto b (x ∷ xs) [] f g e = absurd (omega arith)
cells_onto b (x ∷ xs) (y ∷ ys) f g e =
    ap₂ (λ (u v : List (Option ℕ)). u ++ v) (cells_one b x y f.0 g.0) (cells_onto b xs ys f.1 g.1 (omega arith))
    ∙ sym
    (laters_append (cells_of_block b y) (block_cells b ys) (cells_of_block b x) (block_cells b xs)
    (length_block b y g.0 ∙ sym (length_block b x f.0)))

-- laid over a partition, they leave what the first and then the second leave
pub over_onto : (b : ℕ) (xs ys : List Block) (p : List ℕ) → AllFit b xs → AllFit b ys → length ys ≡ length xs
    → over (block_cells b (each onto xs ys)) p ≡ over (block_cells b ys) (over (block_cells b xs) p)
over_onto b xs ys p f g e =
    ap (λ (cs : List (Option ℕ)). over cs p) (cells_onto b xs ys f g e)
    ∙ over_laters (block_cells b ys) (block_cells b xs) p
    (length-block_cells b ys g ∙ ap (λ (n : ℕ). n * b) e ∙ sym (length-block_cells b xs f))

-- ---- such blocks fit, and can be grouped

-- where both fit, what they make fits
pub fit_onto : (b : ℕ) (xs ys : List Block) → AllFit b xs → AllFit b ys → AllFit b (each onto xs ys)
unfolding each
fit_onto b [] ys f g = tt
fit_onto b (x ∷ xs) [] f g = tt
fit_onto b (x ∷ xs) (none ∷ ys) f g = (f.0, fit_onto b xs ys f.1 g.1)
fit_onto b (x ∷ xs) (some y ∷ ys) f g = (g.0, fit_onto b xs ys f.1 g.1)

onto_group : (x y z : Block) → onto (onto x y) z ≡ onto x (onto y z)
onto_group x y none = refl
onto_group x y (some z) = refl

-- grouping of three makes no difference
pub group_onto : (xs ys zs : List Block) → each onto (each onto xs ys) zs ≡ each onto xs (each onto ys zs)
unfolding each
group_onto [] ys zs = refl
group_onto (x ∷ xs) [] zs = refl
group_onto (x ∷ xs) (y ∷ ys) [] = refl
group_onto (x ∷ xs) (y ∷ ys) (z ∷ zs) = ap₂ (λ (v : Block) (r : List Block). v ∷ r) (onto_group x y z) (group_onto xs ys zs)

-- ---- the blocks of two images

module _ {s t : List ℕ} (m : Matched s t) where
  -- there are as many as each image has
  pub length_joined : length (joined_blocks s t) ≡ total_blocks s
  unfolding joined_blocks
  length_joined = length_each onto (blocks s) (blocks t) (as_many m) ∙ (gives m.first).many

  -- the block at a place
  pub joined_at : (k : ℕ) → k < total_blocks s → get_or (joined_blocks s t) k none ≡ onto (get_or (blocks s) k none) (get_or (blocks t) k none)
  unfolding joined_blocks
  joined_at k h = each_at onto (blocks s) (blocks t) k none (omega (arith, (gives m.first).many)) (as_many m)

module _ {s t : List ℕ} (j : Joinable s t) where
  first_fit : AllFit (block_size s) (blocks s)
  first_fit = (gives j.matched.first).fit j.first

  second_fit : AllFit (block_size s) (blocks t)
  second_fit = rw j.matched.block ((gives j.matched.second).fit j.second)

  -- each fits the block size
  pub fit_joined : AllFit (block_size s) (joined_blocks s t)
  unfolding joined_blocks
  fit_joined = fit_onto (block_size s) (blocks s) (blocks t) first_fit second_fit

  -- an image can hold them
  pub whole : Whole (block_size s) (joined_blocks s t)
  whole =
      record {
        right = right_size j.matched.first;
        fit = fit_joined;
        small = rw (length_joined j.matched) j.small;
      }

  -- their cells are the second image's where it stores the byte, and else the first's
  pub cells_joined : block_cells (block_size s) (joined_blocks s t) ≡ laters (block_cells (block_size s) (blocks t)) (block_cells (block_size s) (blocks s))
  unfolding joined_blocks
  cells_joined = cells_onto (block_size s) (blocks s) (blocks t) first_fit second_fit (as_many j.matched)

  -- as many for the one as for the other
  pub cells_many : length (block_cells (block_size s) (blocks t)) ≡ length (block_cells (block_size s) (blocks s))
  cells_many =
      length-block_cells (block_size s) (blocks t) second_fit ∙ ap (λ (n : ℕ). n * block_size s) (as_many j.matched)
      ∙ sym (length-block_cells (block_size s) (blocks s) first_fit)

  -- laid over a partition, they leave what the first image's and then the second's leave
  pub over_joined : (p : List ℕ)
      → over (block_cells (block_size s) (joined_blocks s t)) p ≡ over (block_cells (block_size s) (blocks t)) (over (block_cells (block_size s) (blocks s)) p)
  unfolding joined_blocks
  over_joined p = over_onto (block_size s) (blocks s) (blocks t) p first_fit second_fit (as_many j.matched)
