-- The cells of a chunk that is cut, and of the chunks after it.
-- Assumes nothing.
use mathlib.Core.Path.{◌≡◌, refl, sym, ap, ◌∙◌}
use mathlib.Core.Bool.{Bool, true, false, cond}
use mathlib.Core.Option.{Option, none, some}
use mathlib.Core.List.{List, [], ◌∷◌, ◌++◌, map}
use Prim.Native.Nat.{ℕ, zero, suc, ◌+◌, ◌-◌, ◌*◌, min}
use native.Mathlib.Nat.{zero-mul, mul_comm, mul-sub, min-zero, zero-min, suc-min-suc}
use native.Mathlib.Omega.{arith}
use lib.ListN.{length, take, replicate}
use Rattle.sparse_rules.specs.declared.Kind.{Kind}
use Rattle.sparse_rules.specs.declared.Kind.TheVariants.{Raw, Fill, DontCare, Unknown}
use Rattle.sparse_rules.specs.declared.Chunk.{Chunk}
use Rattle.sparse_rules.specs.Cells.{tab, raw_byte, fill_byte, count, cells_by, cells_of, cells}
use Rattle.sparse_rules.specs.Counts.{writes}
use Rattle.sparse_rules.proofs.Cells.{cells_cons, length-cells_of, count_cells_of, cells_kept}
use Rattle.sparse_rules.proofs.Image.{chunk_cells, raw_cells, fill_cells}
use Rattle.sparse_store_rules.specs.Store.{torn, laid}
use Rattle.sparse_store_rules.proofs.Over.{laid_kept, laid_then}
use Rattle.sparse_store_rules.proofs.Torn.{torn-append, torn_some, torn_kept}
use Rattle.sparse_store_rules.proofs.Cut.{min_scaled}

-- the first entries of a table
take-tab : (f : ℕ → ℕ) (i m n : ℕ) → take m (tab f i n) ≡ tab f i (min m n)
take-tab f i zero n = rw zero-min
take-tab f i (suc m) zero = rw min-zero
take-tab f i (suc m) (suc n) = rw suc-min-suc (ap (λ (r : List ℕ). f i ∷ r) (take-tab f (suc i) m n))

length-torn : (k : ℕ) (cs : List (Option ℕ)) → length (torn k [] cs) ≡ length cs
length-torn k [] = refl
length-torn k (none ∷ cs) = ap suc (length-torn k cs)
length-torn (suc k) (some v ∷ cs) = ap suc (length-torn k cs)
length-torn zero (some v ∷ cs) = ap suc (length-torn zero cs)

pub torn-zero : (cs : List (Option ℕ)) → torn 0 [] cs ≡ replicate (length cs) none
torn-zero [] = refl
torn-zero (none ∷ cs) = ap (λ (r : List (Option ℕ)). none ∷ r) (torn-zero cs)
torn-zero (some v ∷ cs) = ap (λ (r : List (Option ℕ)). none ∷ r) (torn-zero cs)

cut_table : (from : ℕ) (f : ℕ → ℕ) (m n : ℕ) (p : List ℕ)
    → laid from (torn m [] (map some (tab f 0 n))) p ≡ laid from (map some (tab f 0 (min m n))) p
cut_table from f m n p =
    let first : List (Option ℕ) = map some (take m (tab f 0 n)) in
    let rest : ℕ = length (tab f 0 n) - m in
    ap (λ (cs : List (Option ℕ)). laid from cs p) (torn_some m (tab f 0 n))
    ∙ sym (laid_then from first (replicate rest none) p) ∙ laid_kept (from + length first) rest (laid from first p)
    ∙ ap (λ (l : List ℕ). laid from (map some l) p) (take-tab f 0 m n)

cut_kept : (from m n : ℕ) (p : List ℕ) → laid from (torn m [] (replicate n none)) p ≡ laid from (replicate 0 none) p
cut_kept from m n p = ap (λ (cs : List (Option ℕ)). laid from cs p) (torn_kept m n) ∙ laid_kept from n p ∙ sym (laid_kept from 0 p)

-- a chunk's cells that are cut: its first ones, and nothing of a chunk that is skipped
cut_cells : (from : ℕ) (s : List ℕ) (k : Kind) (at m n : ℕ) (p : List ℕ)
    → laid from (torn m [] (cells_by s k at n)) p ≡ laid from (cells_by s k at (cond (writes k) (min m n) 0)) p
cut_cells from s Raw at m n p = rw (raw_cells s at n, raw_cells s at (min m n)) (cut_table from (raw_byte s at) m n p)
cut_cells from s Fill at m n p = rw (fill_cells s at n, fill_cells s at (min m n)) (cut_table from (fill_byte s at) m n p)
cut_cells from s DontCare at m n p = rw (cells_kept s DontCare at n refl, cells_kept s DontCare at 0 refl) (cut_kept from m n p)
cut_cells from s Unknown at m n p = rw (cells_kept s Unknown at n refl, cells_kept s Unknown at 0 refl) (cut_kept from m n p)

-- so many blocks of a chunk are stored, where so many are still to be
abbrev pub takes : ℕ → Chunk → ℕ
takes left k = min left (cond (writes k.kind) k.blocks 0)

takes_scaled : (left b : ℕ) (k : Chunk) → cond (writes k.kind) (min (left * b) (k.blocks * b)) 0 ≡ takes left k * b
takes_scaled left b k = go (writes k.kind)
  where
    go : (x : Bool) → cond x (min (left * b) (k.blocks * b)) 0 ≡ min left (cond x k.blocks 0) * b
    go true = min_scaled left k.blocks b
    go false = rw (min-zero left, zero-mul b)

sub_scaled : (a c b : ℕ) → a * b - c * b ≡ (a - c) * b
sub_scaled a c b = rw (mul_comm a b, mul_comm c b, mul_comm (a - c) b) (sym (mul-sub b a c))

-- what is left after a chunk's blocks
left_scaled : (left b : ℕ) (s : List ℕ) (k : Chunk) → left * b - count (cells_of s b k) ≡ (left - takes left k) * b
left_scaled left b s k =
    let w : ℕ = cond (writes k.kind) k.blocks 0 in
    let e : left - w ≡ left - min left w = omega arith in
    rw (count_cells_of s b k, sub_scaled left w b, e)

-- a chunk's stretch stored, and the rest laid over after it, is all of it laid over
pub laid_on : (s : List ℕ) (b left from : ℕ) (k : Chunk) (ks : List Chunk) (p : List ℕ)
    → laid from (torn (left * b) [] (cells s b (k ∷ ks))) p
    ≡ laid (from + k.blocks * b) (torn ((left - takes left k) * b) [] (cells s b ks))
    (laid from (cells_by s k.kind k.body (takes left k * b)) p)
laid_on s b left from k ks p =
    let here : List (Option ℕ) = torn (left * b) [] (cells_of s b k) in
    let rest : List (Option ℕ) = torn (left * b - count (cells_of s b k)) [] (cells s b ks) in
    let size : length here ≡ k.blocks * b = length-torn (left * b) (cells_of s b k) ∙ length-cells_of s b k in
    let stored : laid from here p ≡ laid from (cells_by s k.kind k.body (takes left k * b)) p =
    ap (λ (cs : List (Option ℕ)). laid from (torn (left * b) [] cs) p) (chunk_cells s b k)
    ∙ cut_cells from s k.kind k.body (left * b) (k.blocks * b) p ∙ rw (takes_scaled left b k) in
    let all : torn (left * b) [] (cells s b (k ∷ ks)) ≡ here ++ rest = rw cells_cons (torn-append (left * b) (cells_of s b k) (cells s b ks)) in
    ap (λ (cs : List (Option ℕ)). laid from cs p) all ∙ sym (laid_then from here rest p) ∙ rw (size, stored, left_scaled left b s k)
