-- The parts of an image, put one after the other.
-- Assumes nothing.
use mathlib.Core.Path.{◌≡◌, refl, sym, ap, ap₂, ◌∙◌}
use mathlib.Core.List.{List, [], ◌∷◌, ◌++◌, append_assoc, append-nil}
use Prim.Native.Nat.{ℕ, ◌+◌, ◌-◌, ◌%◌, ◌≤◌, ◌<◌}
use native.Mathlib.Omega.{arith}
use lib.ListN.{length, take, drop, length-append}
use lib.Seq.{sets, length-sets}
use Rattle.fields_rules.specs.Number.{bytes, packed, placed}
use Rattle.fields_rules.proofs.Laws.{bytes_low, placed_whole, placed_none}
use Rattle.fields_rules.proofs.Packed.{field_put}
use Rattle.fields_rules.proofs.Sets.{sets-append, sets_at}
use Rattle.crc32_rules.specs.Crc.{crc_from}
use Rattle.sparse_write_rules.specs.Kinds.{BlockKind, kept, raw, fill}
use Rattle.sparse_write_rules.specs.Encode.{chunk_size, chunk_header, chunk, version, header}
use Rattle.sparse_write_rules.specs.Parts.{chunk_top, chunk_rest}
use Rattle.sparse_write_rules.proofs.Chunks.{chunk_parts, rest_none, length_raw}

-- a chunk header that fits
pub head_put : (t k z : ℕ) (l : List ℕ) (i : ℕ) {l1 l2 l3 l4 : List ℕ} → i + 12 ≤ length l
    → l1 ≡ placed l i (bytes 2 t) → l2 ≡ placed l1 (i + 2) (bytes 2 0) → l3 ≡ placed l2 (i + 4) (bytes 4 k) → l4 ≡ placed l3 (i + 8) (bytes 4 z)
    → l4 ≡ placed l i (chunk_header t k z)
unfolding chunk_header packed
head_put t k z l i h e1 e2 e3 e4 =
    let p2 : i + 2 + 2 ≡ i + 4 = omega arith in
    let p3 : i + 4 + 4 ≡ i + 8 = omega arith in
    let f1 = field_put 2 t ((2, 0) ∷ (4, k) ∷ (4, z) ∷ []) l i e1 (omega arith) in
    let f2 = field_put 2 0 ((4, k) ∷ (4, z) ∷ []) _ (i + 2) e2 (omega arith) in
    let f3 = field_put 4 k ((4, z) ∷ []) _ (i + 4) e3 (omega arith) in
    let f4 = field_put 4 z [] _ (i + 8) e4 (omega arith) in
    sym (placed_whole l i (chunk_header t k z) h ∙ f1.0 ∙ f2.0 ∙ rw p2 (f3.0 ∙ rw p3 f4.0))

-- the beginning of the file header
pub version_put : (l : List ℕ) {l1 l2 l3 l4 l5 : List ℕ} → 12 ≤ length l
    → l1 ≡ placed l 0 (bytes 4 0xED26FF3A) → l2 ≡ placed l1 4 (bytes 2 1) → l3 ≡ placed l2 6 (bytes 2 0) → l4 ≡ placed l3 8 (bytes 2 28) → l5 ≡ placed l4 10 (bytes 2 12)
    → l5 ≡ sets l 0 version
unfolding version packed
version_put l h e1 e2 e3 e4 e5 =
    let f1 = field_put 4 0xED26FF3A ((2, 1) ∷ (2, 0) ∷ (2, 28) ∷ (2, 12) ∷ []) l 0 e1 (omega arith) in
    let f2 = field_put 2 1 ((2, 0) ∷ (2, 28) ∷ (2, 12) ∷ []) _ 4 e2 (omega arith) in
    let f3 = field_put 2 0 ((2, 28) ∷ (2, 12) ∷ []) _ 6 e3 (omega arith) in
    let f4 = field_put 2 28 ((2, 12) ∷ []) _ 8 e4 (omega arith) in
    let f5 = field_put 2 12 [] _ 10 e5 (omega arith) in
    sym (f1.0 ∙ f2.0 ∙ f3.0 ∙ f4.0 ∙ f5.0)

-- the file header, where it fits
pub header_put : (b n k c : ℕ) (l : List ℕ) {l0 l1 l2 l3 l4 : List ℕ} → 28 ≤ length l
    → l0 ≡ sets l 0 version → l1 ≡ placed l0 12 (bytes 4 b) → l2 ≡ placed l1 16 (bytes 4 n) → l3 ≡ placed l2 20 (bytes 4 k) → l4 ≡ placed l3 24 (bytes 4 c)
    → l4 ≡ placed l 0 (header b n k c)
unfolding header version packed
header_put b n k c l h e0 e1 e2 e3 e4 =
    let long = ap length e0 ∙ length-sets l 0 version in
    let f1 = field_put 4 b ((4, n) ∷ (4, k) ∷ (4, c) ∷ []) _ 12 e1 (omega arith) in
    let f2 = field_put 4 n ((4, k) ∷ (4, c) ∷ []) _ 16 e2 (omega arith) in
    let f3 = field_put 4 k ((4, c) ∷ []) _ 20 e3 (omega arith) in
    let f4 = field_put 4 c [] _ 24 e4 (omega arith) in
    sym (placed_whole l 0 (header b n k c) h ∙ sets-append version (packed ((4, b) ∷ (4, n) ∷ (4, k) ∷ (4, c) ∷ [])) l 0 ∙ rw (← e0) (f1.0 ∙ f2.0 ∙ f3.0 ∙ f4.0))

-- one that does not fit changes nothing
pub header_none : (b n k c : ℕ) (l : List ℕ) → length l < 28 → placed l 0 (header b n k c) ≡ l
unfolding header version packed
header_none b n k c l h = placed_none l 0 (header b n k c) h

-- a chunk header that does not fit
pub head_none : (t k z : ℕ) (l : List ℕ) (i : ℕ) → length l < i + 12 → placed l i (chunk_header t k z) ≡ l
unfolding chunk_header packed
head_none t k z l i h = placed_none l i (chunk_header t k z) h

-- ---- chunks

-- a chunk that is not fill begins with its header alone
pub top_kept : (k z : ℕ) → chunk_top kept k z ≡ chunk_header 0xCAC3 k z
unfolding chunk_top chunk_header packed
top_kept k z = refl

pub top_raw : (k z : ℕ) → chunk_top raw k z ≡ chunk_header 0xCAC1 k z
unfolding chunk_top chunk_header packed
top_raw k z = refl

-- a fill chunk with its word, of which 4 bytes count
pub top_fill : (w k z : ℕ) → chunk_top (fill (w % 4294967296)) k z ≡ chunk_top (fill w) k z
unfolding chunk_top
top_fill w k z = ap (λ (r : List ℕ). chunk_header 0xCAC2 k z ++ r) (bytes_low 4 w 4294967296 refl (omega arith))

-- a header and the fill word after it
pub fill_put : (k w z : ℕ) (l : List ℕ) (i : ℕ) {l1 l2 : List ℕ} → i + 16 ≤ length l
    → l1 ≡ placed l i (chunk_header 0xCAC2 k z) → l2 ≡ placed l1 (i + 12) (bytes 4 w) → l2 ≡ placed l i (chunk_top (fill w) k z)
unfolding chunk_top chunk_header packed
fill_put k w z l i {l1} h e f =
    let g = e ∙ placed_whole l i (chunk_header 0xCAC2 k z) (omega arith) in
    let long = ap length g ∙ length-sets l i (chunk_header 0xCAC2 k z) in
    f ∙ placed_whole l1 (i + 12) (bytes 4 w) (omega arith) ∙ rw g (sym (sets-append (chunk_header 0xCAC2 k z) (bytes 4 w) l i))
    ∙ sym (placed_whole l i (chunk_top (fill w) k z) h)

-- where these do not fit, nothing changes
pub fill_none : (k w z : ℕ) (l : List ℕ) (i : ℕ) → length l < i + 16 → placed l i (chunk_top (fill w) k z) ≡ l
unfolding chunk_top chunk_header packed
fill_none k w z l i h = placed_none l i (chunk_top (fill w) k z) h

-- the beginning of a chunk fits where the chunk does
pub top_fits : (kind : BlockKind) (k n : ℕ) (l : List ℕ) (i : ℕ) → i + chunk_size kind n ≤ length l
    → placed l i (chunk_top kind k (chunk_size kind n)) ≡ sets l i (chunk_top kind k (chunk_size kind n))
unfolding chunk_top chunk_header packed
top_fits kept k n l i h = placed_whole l i (chunk_top kept k 12) (omega arith)
top_fits raw k n l i h = placed_whole l i (chunk_top raw k (12 + n)) (omega arith)
top_fits (fill w) k n l i h = placed_whole l i (chunk_top (fill w) k (12 + 4)) (omega arith)

-- raw data go after those that stand there
pub rest_put : (k : BlockKind) (j total : ℕ) (xs ys l : List ℕ) (i : ℕ)
    → sets (sets l i (chunk_top k j total ++ chunk_rest k xs)) (i + 12 + length xs) (chunk_rest k ys) ≡ sets l i (chunk_top k j total ++ chunk_rest k (xs ++ ys))
rest_put kept j total xs ys l i = refl
rest_put (fill w) j total xs ys l i = refl
rest_put raw j total xs ys l i =
    let z : i + 12 + length xs ≡ i + length (chunk_top raw j total ++ xs) = omega (arith, length-append (chunk_top raw j total) xs, length_raw j total) in
    ap (λ (n : ℕ). sets (sets l i (chunk_top raw j total ++ xs)) n ys) z
    ∙ sym (sets-append (chunk_top raw j total ++ xs) ys l i)
    ∙ ap (sets l i) (append_assoc (chunk_top raw j total) xs ys)

-- a chunk whose beginning is put, and its raw data after that
pub chunk_put : (kind : BlockKind) (k : ℕ) (xs l : List ℕ) (i : ℕ) {l1 : List ℕ} → i + chunk_size kind (length xs) ≤ length l
    → l1 ≡ placed l i (chunk_top kind k (chunk_size kind (length xs))) → sets l1 (i + 12) (chunk_rest kind xs) ≡ sets l i (chunk kind k xs)
chunk_put kind k xs l i h e =
    let z : i + 12 + 0 ≡ i + 12 = omega arith in
    let top : List ℕ = chunk_top kind k (chunk_size kind (length xs)) in
    ap₂ (λ (m : List ℕ) (n : ℕ). sets m n (chunk_rest kind xs)) (e ∙ top_fits kind k (length xs) l i h ∙ ap (sets l i) (sym (append-nil top) ∙ ap (λ (r : List ℕ). top ++ r) (sym (rest_none kind)))) (sym z)
    ∙ rest_put kind k (chunk_size kind (length xs)) [] xs l i
    ∙ ap (sets l i) (sym (chunk_parts kind k xs))

-- the checksum's state over data, read where they were put
pub data_summed : (xs l : List ℕ) (i state : ℕ) {r : ℕ} {l1 : List ℕ} → i + length xs ≤ length l → l1 ≡ sets l i xs
    → r ≡ crc_from state (take (i + length xs - i) (drop i l1)) → r ≡ crc_from state xs
data_summed xs l i state h e g =
    let n : i + length xs - i ≡ length xs = omega arith in
    g ∙ rw (n, e) (ap (crc_from state) (sets_at xs l i h))
