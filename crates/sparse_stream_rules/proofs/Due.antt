-- Laws of the cells that are due.
-- Assumes nothing.
use mathlib.Core.Path.{◌≡◌, refl, sym, ap, ap₂, ◌∙◌}
use mathlib.Core.Option.{Option, some}
use mathlib.Core.List.{List, [], ◌∷◌, ◌++◌, map, append_assoc, append-nil}
use Prim.Native.Nat.{ℕ, ◌+◌, ◌-◌, ◌*◌, ◌%◌, min, ◌≤◌, ◌<◌}
use native.Mathlib.Nat.{zero-add}
use native.Mathlib.Omega.{arith}
use lib.ListN.{length, get_or, length-append, get_or-append}
use lib.Seq.{get_or-append_seam}
use borrow.Author.Tests.{le-leb, lt-leb}
use Rattle.sparse_rules.specs.declared.Kind.{Kind}
use Rattle.sparse_rules.specs.declared.Kind.TheVariants.{Raw, Fill, DontCare, Unknown}
use Rattle.sparse_rules.specs.declared.Chunk.{Chunk}
use Rattle.sparse_rules.specs.Cells.{raw_byte, fill_byte, cells_by, cells_of, cells}
use Rattle.sparse_rules.specs.Facts.{data_bytes, Complete}
use Rattle.sparse_rules.proofs.Cells.{tab_same}
use Rattle.sparse_stream_rules.specs.Known.{due_by, due_from}
use Rattle.sparse_rules.proofs.Longer.{raw_append, cells_same}
use Rattle.sparse_rules.proofs.Facts.{data_one}

-- so many cells as so many others
cells_many : (s : List ℕ) (at : ℕ) {m n : ℕ} → m ≡ n → cells_by s Raw at m ≡ cells_by s Raw at n
cells_many s at e = ap (cells_by s Raw at) e

-- and none
cells_none : (s : List ℕ) (at : ℕ) → cells_by s Raw at 0 ≡ []
unfolding cells_by
cells_none s at = refl

-- nothing is due of raw data and of a fill chunk before theirs
pub raw_early : (s : List ℕ) (at n : ℕ) → length s ≤ at → due_by s Raw at n ≡ []
unfolding due_by
raw_early s at n h = let e : due_by s Raw at n ≡ cells_by s Raw at 0 = cells_many s at (omega arith) in e ∙ cells_none s at

-- nor is any of a fill chunk before its word is whole
pub fill_early : (s : List ℕ) (at n : ℕ) → length s < at + 4 → due_by s Fill at n ≡ []
unfolding due_by
fill_early s at n h = rw (lt-leb (at + 4) (length s) h)

-- all is due once the data have come
pub due_all : (s : List ℕ) (k : Kind) (at n : ℕ) → at + data_bytes k 1 n ≤ length s → due_by s k at n ≡ cells_by s k at n
unfolding due_by
due_all s Raw at n h = cells_many s at (omega arith)
due_all s Fill at n h = rw (le-leb (at + 4) (length s) h)
due_all s DontCare at n h = refl
due_all s Unknown at n h = refl

-- and stays
pub due_stays : (s t : List ℕ) (k : Kind) (at n : ℕ) → at + data_bytes k 1 n ≤ length s → due_by (s ++ t) k at n ≡ due_by s k at n
due_stays s t k at n h =
    due_all (s ++ t) k at n (simp length-append (omega arith))
    ∙ cells_same (s ++ t) s k at n (λ i l. get_or-append s t 0 (at + i) (omega arith))
    ∙ sym (due_all s k at n h)

-- a byte of raw data
pub raw_grows : (s : List ℕ) (b at n : ℕ) → at ≤ length s → length s < at + n
    → due_by (s ++ (b ∷ [])) Raw at n ≡ due_by s Raw at n ++ (some b ∷ [])
unfolding due_by
raw_grows s b at n p q =
    let m : ℕ = length s - at in
    let e : min n (length (s ++ (b ∷ [])) - at) ≡ m + 1 = simp length-append (omega arith) in
    let o : min n (length s - at) ≡ m = omega arith in
    let old : cells_by (s ++ (b ∷ [])) Raw at m ≡ cells_by s Raw at m =
    cells_same (s ++ (b ∷ [])) s Raw at m (λ i l. get_or-append s (b ∷ []) 0 (at + i) (omega arith)) in
    let w : at + m ≡ length s = omega arith in
    let new : raw_byte (s ++ (b ∷ [])) at m ≡ b = rw w (get_or-append_seam s b [] 0) in
    rw (e, o)
    (raw_append (s ++ (b ∷ [])) at m 1 ∙ ap₂ (λ (x y : List (Option ℕ)). x ++ y) old (ap (λ (v : ℕ). some v ∷ []) new))

-- the last byte of a fill word
pub fill_whole : (s w : List ℕ) (at n : ℕ) → at + 4 ≤ length s → ((i : ℕ) → i < 4 → get_or w i 0 ≡ get_or s (at + i) 0)
    → due_by s Fill at n ≡ cells_by w Fill 0 n
unfolding cells_by
fill_whole s w at n h g =
    due_all s Fill at n h
    ∙ ap (map some) (tab_same (fill_byte s at) (fill_byte w 0) 0 0 n (λ j p. sym (rw zero-add (g ((0 + j) % 4) (omega arith)))))

-- ---- chunks

-- of chunks in two parts
pub due_append : (s : List ℕ) (b : ℕ) (ks ls : List Chunk) → due_from s b (ks ++ ls) ≡ due_from s b ks ++ due_from s b ls
unfolding due_from
due_append s b [] ls = refl
due_append s b (k ∷ ks) ls =
    rw (due_append s b ks ls) (sym (append_assoc (due_by s k.kind k.body (k.blocks * b)) (due_from s b ks) (due_from s b ls)))

-- and of one chunk more
pub due_one : (s : List ℕ) (b : ℕ) (ks : List Chunk) (k : Chunk)
    → due_from s b (ks ++ (k ∷ [])) ≡ due_from s b ks ++ due_by s k.kind k.body (k.blocks * b)
unfolding due_from
due_one s b ks k =
    due_append s b ks (k ∷ [])
    ∙ ap (λ (r : List (Option ℕ)). due_from s b ks ++ r) (append-nil (due_by s k.kind k.body (k.blocks * b)))

-- data that have come stay, whatever comes after
pub complete_stays : (s t : List ℕ) (b : ℕ) (ks : List Chunk) → Complete s b ks → Complete (s ++ t) b ks
complete_stays s t b [] c = tt
complete_stays s t b (k ∷ ks) c = (simp length-append (omega (arith, c.0)), complete_stays s t b ks c.1)

-- one chunk more
pub complete_one : (s : List ℕ) (b : ℕ) (ks : List Chunk) (k : Chunk) → Complete s b ks
    → k.body + data_bytes k.kind 1 (k.blocks * b) ≤ length s → Complete s b (ks ++ (k ∷ []))
complete_one s b [] k c h = (omega (arith, h, data_one k.kind k.blocks b), tt)
complete_one s b (j ∷ ks) k c h = (c.0, complete_one s b ks k c.1 h)

-- so what is due of them stays
pub dues_stay : (s t : List ℕ) (b : ℕ) (ks : List Chunk) → Complete s b ks → due_from (s ++ t) b ks ≡ due_from s b ks
unfolding due_from
dues_stay s t b [] c = refl
dues_stay s t b (k ∷ ks) c =
    ap₂ (λ (x y : List (Option ℕ)). x ++ y)
    (due_stays s t k.kind k.body (k.blocks * b) (omega (arith, c.0, data_one k.kind k.blocks b))) (dues_stay s t b ks c.1)

-- and is all that they give
pub dues_all : (s : List ℕ) (b : ℕ) (ks : List Chunk) → Complete s b ks → due_from s b ks ≡ cells s b ks
unfolding due_from cells cells_of
dues_all s b [] c = refl
dues_all s b (k ∷ ks) c =
    ap₂ (λ (x y : List (Option ℕ)). x ++ y)
    (due_all s k.kind k.body (k.blocks * b) (omega (arith, c.0, data_one k.kind k.blocks b))) (dues_all s b ks c.1)
