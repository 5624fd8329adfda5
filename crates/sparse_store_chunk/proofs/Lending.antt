-- What a part of the partition that was lent to a writer leaves when it comes back.
-- Assumes nothing.
use mathlib.Core.Path.{◌≡◌, refl, sym, ap, ◌∙◌}
use mathlib.Core.Bool.{Bool, true, false}
use mathlib.Core.Option.{Option, some}
use mathlib.Core.List.{List, [], ◌∷◌, ◌++◌, map, map-append}
use Prim.Native.Nat.{ℕ, zero, suc, ◌+◌, ◌-◌, min, ◌≤◌, ◌<◌}
use native.Mathlib.Nat.{le_of_lt, min-eq_left, min-eq_right}
use native.Mathlib.Omega.{arith}
use lib.Dec.{leb}
use lib.ListN.{length, take, drop, length-drop, length-map}
use lib.Seq.{length-take-le}
use borrow.Author.Tests.{leb-true, leb-false}
use Rattle.sparse_rules.specs.declared.Kind.{Kind}
use Rattle.sparse_rules.specs.declared.Kind.TheVariants.{Raw, Fill}
use Rattle.sparse_rules.specs.Cells.{tab, raw_byte, fill_byte, cells_by}
use Rattle.sparse_rules.specs.Counts.{writes}
use Rattle.sparse_rules.proofs.Cells.{length-tab, tab-append, cells_kept}
use Rattle.sparse_rules.proofs.Image.{raw_cells, fill_cells}
use Rattle.sparse_store_rules.specs.Store.{laid}
use Rattle.sparse_store_rules.proofs.Over.{over_front, laid_clip, laid_kept}

-- bytes from a place on
part_laid : (from : ℕ) (p l : List ℕ) → from + length l ≤ length p → take from p ++ (l ++ drop (length l) (drop from p)) ≡ laid from (map some l) p
part_laid zero p l h = sym (over_front l p (omega arith))
part_laid (suc from) [] l h = absurd (omega arith)
part_laid (suc from) (x ∷ xs) l h = ap (λ (r : List ℕ). x ∷ r) (part_laid from xs l (omega arith))

-- entries of a table that lie past the end change nothing
clipped : (f : ℕ → ℕ) (p : List ℕ) (from n m : ℕ) → m ≡ min n (length p - from) → laid from (map some (tab f 0 m)) p ≡ laid from (map some (tab f 0 n)) p
clipped f p from n m e = go (leb n (length p - from)) refl
  where
    go : (x : Bool) → leb n (length p - from) ≡ x → laid from (map some (tab f 0 m)) p ≡ laid from (map some (tab f 0 n)) p
    go true q = let all : m ≡ n = e ∙ min-eq_left (leb-true n (length p - from) q) in rw all
    go false q =
        let h : length p - from < n = leb-false n (length p - from) q in
        let room : m ≡ length p - from = e ∙ min-eq_right (le_of_lt h) in
        let more : m + (n - m) ≡ n = omega arith in
        let long : length (map some (tab f 0 m)) ≡ m = length-map (tab f 0 m) some ∙ length-tab f 0 m in
        sym
        (ap (λ (k : ℕ). laid from (map some (tab f 0 k)) p) (sym more)
        ∙ ap (λ (l : List ℕ). laid from (map some l) p) (tab-append f 0 m (n - m))
        ∙ ap (λ (l : List (Option ℕ)). laid from l p) (map-append some (tab f 0 m) (tab f (0 + m) (n - m)))
        ∙ laid_clip from (map some (tab f 0 m)) (map some (tab f (0 + m) (n - m))) p (omega (arith, long)))

-- a part that was filled by a table: n bytes, or as many as there are
filled_part : (f : ℕ → ℕ) (p ys : List ℕ) (from n m : ℕ) → from ≤ length p → m ≡ min n (length p - from) → ys ≡ tab f 0 (length (take m (drop from p)))
    → take from p ++ (ys ++ drop m (drop from p)) ≡ laid from (map some (tab f 0 n)) p
filled_part f p ys from n m h e q =
    let long : length (take m (drop from p)) ≡ m = length-take-le m (drop from p) (simp length-drop (omega arith)) in
    let all : ys ≡ tab f 0 m = q ∙ rw long in
    let size : length (tab f 0 m) ≡ m = length-tab f 0 m in
    rw all (rw size at (part_laid from p (tab f 0 m) (rw size (omega arith)))) ∙ clipped f p from n m e

-- ---- the chunks' kinds

module _ (s p : List ℕ) (k : Kind) (at from n : ℕ) where
  module _ (ys : List ℕ) (m : ℕ) (inside : from ≤ length p) (size : m ≡ min n (length p - from)) where
    -- the raw writer stores the cells of a raw chunk
    pub stored_raw : k ≡ Raw → ys ≡ tab (raw_byte s at) 0 (length (take m (drop from p)))
        → take from p ++ (ys ++ drop m (drop from p)) ≡ laid from (cells_by s k at n) p
    stored_raw e q = rw (e, raw_cells s at n) (filled_part (raw_byte s at) p ys from n m inside size q)

    -- the fill writer those of a fill chunk
    pub stored_fill : k ≡ Fill → ys ≡ tab (fill_byte s at) 0 (length (take m (drop from p)))
        → take from p ++ (ys ++ drop m (drop from p)) ≡ laid from (cells_by s k at n) p
    stored_fill e q = rw (e, fill_cells s at n) (filled_part (fill_byte s at) p ys from n m inside size q)

  -- past the end nothing is stored
  pub stored_past : length p < from → p ≡ laid from (cells_by s k at n) p
  stored_past h = sym (laid_clip from [] (cells_by s k at n) p (omega arith) ∙ laid_kept from 0 p)

  -- and the others have nothing to store
  pub stored_none : writes k ≡ false → p ≡ laid from (cells_by s k at n) p
  stored_none e = rw (cells_kept s k at n e) (sym (laid_kept from n p))
