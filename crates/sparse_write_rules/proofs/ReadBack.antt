-- The chunks of an encoded image, read back: the walk finds them, and they have the cells of their runs.
-- Assumes nothing.
use mathlib.Core.Path.{◌≡◌, refl, sym, ap, ap₂, ◌∙◌}
use mathlib.Core.Bool.{true, cond}
use mathlib.Core.Option.{Option, some}
use mathlib.Core.List.{List, [], ◌∷◌, ◌++◌, map, append_assoc}
use Prim.Native.Nat.{ℕ, zero, suc, ◌+◌, ◌-◌, ◌*◌, ◌%◌, ◌≤◌, ◌<◌}
use native.Mathlib.Nat.{not-suc-le-zero, mul-le-mul_right, mul-suc, suc-mul, zero-add, mod-lt, zero-lt-suc}
use native.Mathlib.Numerals.{sub-one}
use native.Mathlib.Omega.{arith}
use lib.ListN.{length, get_or, drop, replicate, length-append, length-drop, get_or-append}
use lib.Seq.{get_or-drop, drop_at, drop-drop, get_or-append-add}
use borrow.Author.Tests.{eq-eqb}
use Rattle.fields_rules.specs.Number.{number_at, bytes, packed}
use Rattle.fields_rules.proofs.Laws.{number_drop, number_bytes}
use Rattle.sparse_rules.specs.declared.Header.{Header}
use Rattle.sparse_rules.specs.declared.Cursor.{Cursor}
use Rattle.sparse_rules.specs.declared.Kind.{Kind}
use Rattle.sparse_rules.specs.declared.Kind.TheVariants.{Raw, Fill, DontCare}
use Rattle.sparse_rules.specs.declared.Chunk.{Chunk}
use Rattle.sparse_rules.specs.Chunks as sparse
use Rattle.sparse_rules.specs.Chunks.{type_at, blocks_at, size_at, size_right, reading}
use Rattle.sparse_rules.specs.Walk.{walk}
use Rattle.rules.specs.Answer.{accepted}
use Rattle.sparse_rules.specs.Cells.{tab, raw_byte, fill_byte, cells_of, cells}
use Rattle.sparse_rules.specs.Counts.{is_unknown, unknown}
use Rattle.sparse_rules.proofs.Counting.{where_nil, where_cons}
use Rattle.sparse_rules.proofs.Walk.{walk_read, walk_over}
use Rattle.sparse_rules.proofs.Facts.{read_whole}
use Rattle.sparse_rules.proofs.Cells.{length-tab, get_or-tab, tab_same, cells_nil, cells_cons, cells_kept}
use Rattle.sparse_rules.proofs.Refusals.{chunk_is}
use Rattle.sparse_rules.proofs.Image.{chunk_cells, raw_cells, fill_cells}
use Rattle.sparse_write_rules.specs.Runs.{Run, spread}
use Rattle.sparse_write_rules.specs.Kinds.{BlockKind, kept, raw, fill}
use Rattle.sparse_write_rules.specs.Encode.{chunk_type, chunk_size, chunk_data, chunk_header, chunk, chunks}
use Rattle.sparse_write_rules.proofs.Runs.{counted}
use Rattle.sparse_write_rules.proofs.Chunks.{length_chunk}
use Rattle.sparse_write_rules.proofs.KindCells.{cells_for, cells_split, cells_none}

-- ---- what a chunk of a kind is read as

-- the kind of chunk
abbrev pub kind_for : BlockKind → Kind
kind_for kept = DontCare
kind_for raw = Raw
kind_for (fill w) = Fill

-- its type says so
kind_type : (kind : BlockKind) → sparse.kind_of (chunk_type kind) ≡ kind_for kind
unfolding sparse.kind_of
kind_type kept = refl
kind_type raw = refl
kind_type (fill w) = refl

type_lt : (kind : BlockKind) → chunk_type kind < 65536
type_lt kept = omega arith
type_lt raw = omega arith
type_lt (fill w) = omega arith

-- its total size is right
size_is : (h : Header) (kind : BlockKind) (k : ℕ) → h.head ≡ 12 → size_right h (kind_for kind) k (chunk_size kind (k * h.block)) ≡ true
unfolding size_right
size_is h kept k e = eq-eqb 12 h.head (sym e)
size_is h raw k e = eq-eqb (12 + k * h.block) (h.head + k * h.block) (rw e)
size_is h (fill w) k e = eq-eqb 16 (h.head + 4) (rw e)

size_lt : (kind : BlockKind) (n : ℕ) → n ≤ 2147483648 → chunk_size kind n < 4294967296
size_lt kept n h = omega arith
size_lt raw n h = omega arith
size_lt (fill w) n h = omega arith

size_least : (kind : BlockKind) (n : ℕ) → 12 ≤ chunk_size kind n
size_least kept n = omega arith
size_least raw n = omega arith
size_least (fill w) n = omega arith

-- the chunk that is read at a place
abbrev pub chunk_for : BlockKind → ℕ → ℕ → Chunk
chunk_for kind k pos = record { kind = kind_for kind; blocks = k; body = pos + 12 }

-- ---- a chunk that stands at a place of an image

module _ (s : List ℕ) (pos : ℕ) (kind : BlockKind) (k : ℕ) (xs tail : List ℕ) (e : drop pos s ≡ chunk kind k xs ++ tail) where
  parts : drop pos s ≡ chunk_header (chunk_type kind) k (chunk_size kind (length xs)) ++ (chunk_data kind xs ++ tail)
  unfolding chunk
  parts = e ∙ append_assoc (chunk_header (chunk_type kind) k (chunk_size kind (length xs))) (chunk_data kind xs) tail

  read_type : type_at s pos ≡ chunk_type kind
  unfolding chunk_header packed number_at
  read_type =
      let z : pos + 0 ≡ pos = omega arith in
      ap (λ (x : ℕ). number_at s x 2) (sym z) ∙ number_drop s pos 0 2 ∙ ap (λ (l : List ℕ). number_at l 0 2) parts ∙ number_bytes 2 (chunk_type kind) [] (type_lt kind)

  read_blocks : k < 4294967296 → blocks_at s pos ≡ k
  unfolding chunk_header packed number_at
  read_blocks h = number_drop s pos 4 4 ∙ ap (λ (l : List ℕ). number_at l 4 4) parts ∙ number_bytes 4 k [] h

  read_size : length xs ≤ 2147483648 → size_at s pos ≡ chunk_size kind (length xs)
  unfolding chunk_header packed number_at
  read_size h = number_drop s pos 8 4 ∙ ap (λ (l : List ℕ). number_at l 8 4) parts ∙ number_bytes 4 (chunk_size kind (length xs)) [] (size_lt kind (length xs) h)

  -- what follows it
  pub read_tail : drop (pos + chunk_size kind (length xs)) s ≡ tail
  read_tail =
      sym (drop-drop (chunk_size kind (length xs)) pos s) ∙ ap (drop (chunk_size kind (length xs))) e
      ∙ drop_at (chunk kind k xs) tail (chunk_size kind (length xs)) (length_chunk kind k xs)

  read_room : pos + chunk_size kind (length xs) ≤ length s
  read_room =
      let l : length s - pos ≡ chunk_size kind (length xs) + length tail =
      sym (length-drop pos s) ∙ ap length e ∙ length-append (chunk kind k xs) tail ∙ ap (λ (n : ℕ). n + length tail) (length_chunk kind k xs) in
      omega (arith, size_least kind (length xs))

  read_data : (i : ℕ) → get_or s (pos + 12 + i) 0 ≡ get_or (chunk_data kind xs ++ tail) i 0
  unfolding chunk_header packed
  read_data i =
      let q : pos + 12 + i ≡ pos + (12 + i) = omega arith in
      ap (λ (x : ℕ). get_or s x 0) q ∙ sym (get_or-drop pos s (12 + i) 0) ∙ ap (λ (l : List ℕ). get_or l (12 + i) 0) parts
      ∙ get_or-append-add (chunk_header (chunk_type kind) k (chunk_size kind (length xs))) (chunk_data kind xs ++ tail) i 0

  -- the chunk reader reads it, and goes on after it
  read_chunk : (h : Header) (used : ℕ) → h.head ≡ 12 → length xs ≡ k * h.block → length xs ≤ 2147483648 → k < 4294967296 → used + k ≤ h.total
      → reading s (length s) h (record { at = pos; first = used })
      ≡ sparse.chunk (chunk_for kind k pos) (record { at = pos + chunk_size kind (length xs); first = used + k })
  read_chunk h used head long small few fits =
      let c : Cursor = record { at = pos; first = used } in
      let t = read_type in
      let b = read_blocks few in
      let z = read_size small in
      let right : size_right h (sparse.kind_of (type_at s pos)) (blocks_at s pos) (size_at s pos) ≡ true = rw (t, b, z, kind_type kind, long) (size_is h kind k head) in
      read_whole s (length s) h c (rw head (omega (arith, read_room, size_least kind (length xs)))) right (rw z read_room) (rw b fits)
      ∙ sym (ap (λ (n : ℕ). sparse.chunk (record { kind = kind_for kind; blocks = k; body = pos + n }) (record { at = pos + chunk_size kind (length xs); first = used + k })) (sym head)
      ∙ chunk_is s h c (sym (kind_type kind)) (sym t) (sym b) (sym z))

-- a fill chunk's word, read where it stands
pub read_word : (s : List ℕ) (pos w k : ℕ) (xs tail : List ℕ) → drop pos s ≡ chunk (fill w) k xs ++ tail → w < 4294967296 → number_at s (pos + 12) 4 ≡ w
unfolding chunk_header packed number_at
read_word s pos w k xs tail e h = number_drop s pos 12 4 ∙ ap (λ (l : List ℕ). number_at l 12 4) (parts s pos (fill w) k xs tail e) ∙ number_bytes 4 w [] h

-- ---- the walk

-- the chunks that runs are read as, from a place on
abbrev pub read_as : ℕ → ℕ → List (Run BlockKind) → List Chunk
read_as b pos [] = []
read_as b pos (r ∷ rs) = chunk_for r.kind r.many pos ∷ read_as b (pos + chunk_size r.kind (r.many * b)) rs

-- none of them is of an unknown type
pub known_back : (b pos : ℕ) (rs : List (Run BlockKind)) → unknown (read_as b pos rs) ≡ 0
known_back b pos [] = where_nil _
known_back b pos (r ∷ rs) =
    let on : ℕ = pos + chunk_size r.kind (r.many * b) in
    where_cons _ (chunk_for r.kind r.many pos) (read_as b on rs) ∙ none_here r.kind ∙ known_back b on rs
  where
    none_here : (kind : BlockKind) {n : ℕ} → cond (is_unknown (kind_for kind)) r.many 0 + n ≡ n
    none_here kept = omega arith
    none_here raw = omega arith
    none_here (fill w) = omega arith

-- blocks that are not too long are not too many
pub few_blocks : (k b : ℕ) → 0 < b → k * b ≤ 2147483648 → k < 4294967296
few_blocks k zero p h = absurd (not-suc-le-zero p)
few_blocks k (suc b) p h = let m = mul-suc k b in omega arith

-- the walk over the chunks of runs accepts them
pub walk_back : (s : List ℕ) (h : Header) (d : List ℕ) → h.head ≡ 12 → 0 < h.block → h.total * h.block ≤ 2147483648 → (rs : List (Run BlockKind)) (pos at used : ℕ)
    → drop pos s ≡ chunks h.block d at rs → used + counted rs ≡ h.total
    → walk s (length s) h (length rs) (record { at = pos; first = used }) ≡ accepted (read_as h.block pos rs)
unfolding chunks
walk_back s h d head p small [] pos at used e t =
    let l : length s - pos ≡ 0 = sym (length-drop pos s) ∙ ap length e in
    walk_over s (length s) h 0 (record { at = pos; first = used }) refl (omega arith) (omega arith)
walk_back s h d head p small (r ∷ rs) pos at used e t =
    let b : ℕ = h.block in
    let kind : BlockKind = r.kind in
    let k : ℕ = r.many in
    let xs : List ℕ = tab (raw_byte d at) 0 (k * b) in
    let tail : List ℕ = chunks b d (at + k * b) rs in
    let long : length xs ≡ k * b = length-tab (raw_byte d at) 0 (k * b) in
    let kt : k ≤ h.total = omega arith in
    let kb : k * b ≤ 2147483648 = omega (arith, mul-le-mul_right b kt) in
    let read = read_chunk s pos kind k xs tail e h used head long (rw long kb) (few_blocks k b p kb) (omega arith) in
    let on = walk_back s h d head p small rs (pos + chunk_size kind (k * b)) (at + k * b) (used + k) (rw long at (read_tail s pos kind k xs tail e)) (omega arith) in
    let next : Cursor = record { at = pos + chunk_size kind (k * b); first = used + k } in
    walk_read s (length s) h (suc (length rs)) (record { at = pos; first = used }) (chunk_for kind k pos) next (omega arith) (rw long at read)
    ∙ rw (sub-one, on)

-- ---- the cells

cells_chunk : (s d : List ℕ) (b pos at : ℕ) (kind : BlockKind) (k : ℕ) (tail : List ℕ) → drop pos s ≡ chunk kind k (tab (raw_byte d at) 0 (k * b)) ++ tail
    → cells_of s b (chunk_for kind k pos) ≡ cells_for d at kind (k * b)
cells_chunk s d b pos at kept k tail e = chunk_cells s b (chunk_for kept k pos) ∙ cells_kept s DontCare (pos + 12) (k * b) refl
cells_chunk s d b pos at raw k tail e =
    chunk_cells s b (chunk_for raw k pos) ∙ raw_cells s (pos + 12) (k * b)
    ∙ ap (map some)
    (tab_same (raw_byte s (pos + 12)) (raw_byte d at) 0 0 (k * b)
    (λ j h.
    rw zero-add
    (read_data s pos raw k (tab (raw_byte d at) 0 (k * b)) tail e j
    ∙ get_or-append (tab (raw_byte d at) 0 (k * b)) tail 0 j (rw length-tab h) ∙ get_or-tab (raw_byte d at) 0 (k * b) j h ∙ rw zero-add)))
cells_chunk s d b pos at (fill w) k tail e =
    chunk_cells s b (chunk_for (fill w) k pos) ∙ fill_cells s (pos + 12) (k * b)
    ∙ ap (map some)
    (tab_same (fill_byte s (pos + 12)) (fill_byte (bytes 4 w) 0) 0 0 (k * b)
    (λ j h.
    rw (zero-add j, zero-add (j % 4))
    (read_data s pos (fill w) k (tab (raw_byte d at) 0 (k * b)) tail e (j % 4) ∙ get_or-append (bytes 4 w) tail 0 (j % 4) (mod-lt j (zero-lt-suc 3)))))

-- the cells of runs
abbrev pub cells_runs : ℕ → List ℕ → ℕ → List (Run BlockKind) → List (Option ℕ)
cells_runs b d at [] = []
cells_runs b d at (r ∷ rs) = cells_for d at r.kind (r.many * b) ++ cells_runs b d (at + r.many * b) rs

-- the chunks of runs, read back, have the cells of the runs
pub cells_back : (s : List ℕ) (b : ℕ) (d : List ℕ) (rs : List (Run BlockKind)) (pos at : ℕ) → drop pos s ≡ chunks b d at rs
    → cells s b (read_as b pos rs) ≡ cells_runs b d at rs
unfolding chunks
cells_back s b d [] pos at e = cells_nil s b
cells_back s b d (r ∷ rs) pos at e =
    let xs : List ℕ = tab (raw_byte d at) 0 (r.many * b) in
    let tail : List ℕ = chunks b d (at + r.many * b) rs in
    let on = rw length-tab at (read_tail s pos r.kind r.many xs tail e) in
    cells_cons s b (chunk_for r.kind r.many pos) (read_as b (pos + chunk_size r.kind (r.many * b)) rs)
    ∙ ap₂ (λ (x y : List (Option ℕ)). x ++ y) (cells_chunk s d b pos at r.kind r.many tail e)
    (cells_back s b d rs (pos + chunk_size r.kind (r.many * b)) (at + r.many * b) on)

-- the cells of blocks by their kinds, one block after the other
abbrev pub cells_kinds : ℕ → List ℕ → ℕ → List BlockKind → List (Option ℕ)
cells_kinds b d at [] = []
cells_kinds b d at (k ∷ ks) = cells_for d at k b ++ cells_kinds b d (at + b) ks

cells_many : (b : ℕ) (d : List ℕ) → b % 4 ≡ 0 → (m : ℕ) (kind : BlockKind) (at : ℕ) (ks : List BlockKind)
    → cells_kinds b d at (replicate m kind ++ ks) ≡ cells_for d at kind (m * b) ++ cells_kinds b d (at + m * b) ks
cells_many b d f zero kind at ks =
    let e : 0 * b ≡ 0 = omega arith in
    let g : at + 0 ≡ at = omega arith in
    rw (e, g, cells_none d at kind)
cells_many b d f (suc m) kind at ks =
    let e : suc m * b ≡ b + m * b = omega (arith, suc-mul m b) in
    let g : at + b + m * b ≡ at + (b + m * b) = omega arith in
    ap (λ (r : List (Option ℕ)). cells_for d at kind b ++ r) (cells_many b d f m kind (at + b) ks)
    ∙ sym (append_assoc (cells_for d at kind b) (cells_for d (at + b) kind (m * b)) (cells_kinds b d (at + b + m * b) ks))
    ∙ rw (e, g, ← cells_split d at kind b (m * b) f)

-- runs have the cells of the blocks that they stand for
pub cells_spread : (b : ℕ) (d : List ℕ) → b % 4 ≡ 0 → (rs : List (Run BlockKind)) (at : ℕ) → cells_kinds b d at (spread rs) ≡ cells_runs b d at rs
unfolding spread
cells_spread b d f [] at = refl
cells_spread b d f (r ∷ rs) at =
    cells_many b d f r.many r.kind at (spread rs)
    ∙ ap (λ (x : List (Option ℕ)). cells_for d at r.kind (r.many * b) ++ x) (cells_spread b d f rs (at + r.many * b))
