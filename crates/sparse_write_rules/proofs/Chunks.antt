-- Laws of the parts of an image: the chunks of runs one after the other, and how long the parts are.
-- Assumes nothing.
use mathlib.Core.Path.{◌≡◌, refl, sym, ap, ap₂, ◌∙◌}
use mathlib.Core.Bool.{Bool, true, false, cond}
use mathlib.Core.List.{List, [], ◌∷◌, ◌++◌, append_assoc}
use Prim.Native.Nat.{ℕ, zero, suc, ◌+◌, ◌*◌, ◌≤◌}
use native.Mathlib.Nat.{add-mul, suc-mul}
use native.Mathlib.Omega.{arith}
use lib.ListN.{length, replicate, length-append}
use Rattle.fields_rules.specs.Number.{packed}
use Rattle.sparse_rules.specs.Cells.{tab, raw_byte}
use Rattle.sparse_rules.proofs.Cells.{length-tab}
use Rattle.sparse_write_rules.specs.Kinds.{BlockKind, kept, raw, fill, same_kind}
use Rattle.sparse_write_rules.specs.Runs.{Run, in_front, runs}
use Rattle.sparse_write_rules.specs.Encode.{chunk_size, chunk_header, chunk, chunks, version, header}
use Rattle.sparse_write_rules.specs.Parts.{chunk_top, chunk_rest, sizes}
use Rattle.sparse_write_rules.proofs.Runs.{of, tells_kinds, front_same, begins, counted}

-- no runs have no chunks
pub chunks_nil : (b : ℕ) (d : List ℕ) (at : ℕ) → chunks b d at [] ≡ []
unfolding chunks
chunks_nil b d at = refl

-- the chunk of the first run, and those of the others
pub chunks_cons : (b : ℕ) (d : List ℕ) (at : ℕ) (r : Run BlockKind) (rs : List (Run BlockKind))
    → chunks b d at (r ∷ rs) ≡ chunk r.kind r.many (tab (raw_byte d at) 0 (r.many * b)) ++ chunks b d (at + r.many * b) rs
unfolding chunks
chunks_cons b d at r rs = refl

-- a chunk is as long as its total size says
pub length_chunk : (kind : BlockKind) (k : ℕ) (xs : List ℕ) → length (chunk kind k xs) ≡ chunk_size kind (length xs)
unfolding chunk chunk_header packed
length_chunk kept k xs = refl
length_chunk raw k xs = simp length-append (omega arith)
length_chunk (fill w) k xs = refl

-- it is its beginning, and the raw data after that
pub chunk_parts : (kind : BlockKind) (k : ℕ) (xs : List ℕ) → chunk kind k xs ≡ chunk_top kind k (chunk_size kind (length xs)) ++ chunk_rest kind xs
unfolding chunk chunk_top chunk_header packed
chunk_parts kept k xs = refl
chunk_parts raw k xs = refl
chunk_parts (fill w) k xs = refl

-- no bytes, no raw data
pub rest_none : (kind : BlockKind) → chunk_rest kind [] ≡ []
rest_none kept = refl
rest_none raw = refl
rest_none (fill w) = refl

-- the beginnings of two chunks of a kind are as long
pub length_top : (kind : BlockKind) (j k m n : ℕ) → length (chunk_top kind j m) ≡ length (chunk_top kind k n)
unfolding chunk_top chunk_header packed
length_top kept j k m n = refl
length_top raw j k m n = refl
length_top (fill w) j k m n = refl

-- a raw chunk begins with its header alone
pub length_raw : (k n : ℕ) → length (chunk_top raw k n) ≡ 12
unfolding chunk_top chunk_header packed
length_raw k n = refl

-- the chunks of runs are as long as their sizes together
pub length-chunks : (b : ℕ) (d : List ℕ) (at : ℕ) (rs : List (Run BlockKind)) → length (chunks b d at rs) ≡ sizes b rs
length-chunks b d at [] = ap length (chunks_nil b d at)
length-chunks b d at (r ∷ rs) =
    ap length (chunks_cons b d at r rs) ∙ length-append (chunk r.kind r.many (tab (raw_byte d at) 0 (r.many * b))) (chunks b d (at + r.many * b) rs)
    ∙ ap₂ (λ (x y : ℕ). x + y) (length_chunk r.kind r.many (tab (raw_byte d at) 0 (r.many * b)) ∙ ap (chunk_size r.kind) (length-tab (raw_byte d at) 0 (r.many * b)))
    (length-chunks b d (at + r.many * b) rs)

-- those of some runs stand before those of the others
pub chunks-append : (b : ℕ) (d : List ℕ) (at : ℕ) (rs qs : List (Run BlockKind)) → chunks b d at (rs ++ qs) ≡ chunks b d at rs ++ chunks b d (at + counted rs * b) qs
chunks-append b d at [] qs =
    let z : at + 0 * b ≡ at = omega arith in
    ap (λ (i : ℕ). chunks b d i qs) (sym z) ∙ ap (λ (l : List ℕ). l ++ chunks b d (at + 0 * b) qs) (sym (chunks_nil b d at))
chunks-append b d at (r ∷ rs) qs =
    let here : List ℕ = chunk r.kind r.many (tab (raw_byte d at) 0 (r.many * b)) in
    let z : at + r.many * b + counted rs * b ≡ at + (r.many + counted rs) * b = omega (arith, add-mul r.many (counted rs) b) in
    chunks_cons b d at r (rs ++ qs) ∙ ap (λ (l : List ℕ). here ++ l) (chunks-append b d (at + r.many * b) rs qs ∙ ap (λ (i : ℕ). chunks b d (at + r.many * b) rs ++ chunks b d i qs) z)
    ∙ sym (append_assoc here (chunks b d (at + r.many * b) rs) (chunks b d (at + (r.many + counted rs) * b) qs))
    ∙ ap (λ (l : List ℕ). l ++ chunks b d (at + (r.many + counted rs) * b) qs) (sym (chunks_cons b d at r rs))

-- as are their sizes
pub sizes_append : (b : ℕ) (rs qs : List (Run BlockKind)) → sizes b (rs ++ qs) ≡ sizes b rs + sizes b qs
sizes_append b [] qs = omega arith
sizes_append b (r ∷ rs) qs = omega (arith, sizes_append b rs qs)

-- a chunk is little longer than its blocks
pub size_most : (kind : BlockKind) (n : ℕ) → chunk_size kind n ≤ 16 + n
size_most kept n = omega arith
size_most raw n = omega arith
size_most (fill w) n = omega arith

-- and so are chunks
pub sizes_most : (b : ℕ) (rs : List (Run BlockKind)) → sizes b rs ≤ 16 * length rs + counted rs * b
sizes_most b [] = omega arith
sizes_most b (r ∷ rs) = omega (arith, size_most r.kind (r.many * b), sizes_most b rs, add-mul r.many (counted rs) b)

-- a chunk over more bytes is no shorter
pub size_grows : (kind : BlockKind) (m n : ℕ) → m ≤ n → chunk_size kind m ≤ chunk_size kind n
size_grows kept m n h = omega arith
size_grows raw m n h = omega arith
size_grows (fill w) m n h = omega arith

-- two chunks of a kind are no shorter than one over the bytes of both
size_both : (kind : BlockKind) (m n : ℕ) → chunk_size kind (m + n) ≤ chunk_size kind m + chunk_size kind n
size_both kept m n = omega arith
size_both raw m n = omega arith
size_both (fill w) m n = omega arith

-- one more block in front of runs makes them longer by a chunk of its own at most
pub sizes_front : (b : ℕ) (k : BlockKind) (rs : List (Run BlockKind)) → sizes b (in_front same_kind k rs) ≤ chunk_size k b + sizes b rs
sizes_front b k [] = let z : 1 * b ≡ b = omega arith in rw z (omega arith)
sizes_front b k (r ∷ rs) = go (same_kind k r.kind) refl
  where
    go : (x : Bool) → same_kind k r.kind ≡ x → sizes b (cond x (of k (suc r.many) ∷ rs) (of k 1 ∷ r ∷ rs)) ≤ chunk_size k b + sizes b (r ∷ rs)
    go true e = let z : suc r.many * b ≡ r.many * b + b = suc-mul r.many b in rw (z, ← (tells_kinds.sound k r.kind e)) (omega (arith, size_both k (r.many * b) b))
    go false e = let z : 1 * b ≡ b = omega arith in rw z (omega arith)

-- some more of one kind, whose chunks all have one size: by one such chunk at most
pub sizes_alike : (b : ℕ) (k : BlockKind) → ((m n : ℕ) → chunk_size k m ≡ chunk_size k n) → (n : ℕ) (ks : List BlockKind)
    → sizes b (runs same_kind (replicate n k ++ ks)) ≤ chunk_size k 0 + sizes b (runs same_kind ks)
unfolding runs
sizes_alike b k one zero ks = omega arith
sizes_alike b k one (suc zero) ks = omega (arith, sizes_front b k (runs same_kind ks), one b 0)
sizes_alike b k one (suc (suc n)) ks =
    let f = begins same_kind tells_kinds k n ks in
    let e : runs same_kind (replicate (suc (suc n)) k ++ ks) ≡ of k (suc f.many) ∷ f.rest = ap (in_front same_kind k) f.is ∙ front_same same_kind tells_kinds k f.many f.rest in
    omega (arith, ap (sizes b) e, ap (sizes b) f.is, one (suc f.many * b) (f.many * b), sizes_alike b k one (suc n) ks)

-- the file header is 28 bytes
pub length_header : (b total count sum : ℕ) → length (header b total count sum) ≡ 28
unfolding header version packed
length_header b total count sum = refl
