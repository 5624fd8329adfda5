-- How long a joined image can be, by the bytes of the two: what each of their chunks, and each of their raw blocks, adds at most.
-- Assumes nothing.
use mathlib.Core.Path.{◌≡◌, refl, sym, ap, ap₂, ◌∙◌}
use mathlib.Core.Bool.{Bool, true, false}
use mathlib.Core.List.{List, [], ◌∷◌, ◌++◌, map, append_assoc, map-append}
use Prim.Native.Nat.{ℕ, zero, suc, ◌+◌, ◌-◌, ◌*◌, ◌≤◌}
use native.Mathlib.Nat.{suc-mul}
use native.Mathlib.Omega.{arith}
use borrow.Author.Tests.{leb-true, leb-false}
use lib.Dec.{leb}
use lib.ListN.{length, replicate, take-append-drop}
use Rattle.fields_rules.specs.Number.{number_at}
use Rattle.sparse_rules.specs.declared.Kind.{Kind}
use Rattle.sparse_rules.specs.declared.Kind.TheVariants.{Raw, Fill, DontCare, Unknown}
use Rattle.sparse_rules.specs.declared.Chunk.{Chunk}
use Rattle.sparse_rules.specs.Header.{block_size}
use Rattle.sparse_rules.specs.Counts.{writes}
use Rattle.sparse_rules.specs.Facts.{data_bytes}
use Rattle.sparse_rules.proofs.Image.{taken, taken_least}
use Rattle.sparse_write_rules.specs.Blocks.{Block}
use Rattle.sparse_write_rules.specs.Kinds.{BlockKind, kept, raw, fill, same_kind, block_kind}
use Rattle.sparse_write_rules.specs.Runs.{runs}
use Rattle.sparse_write_rules.specs.Encode.{chunk_size}
use Rattle.sparse_write_rules.specs.Parts.{sizes}
use Rattle.sparse_write_rules.proofs.Runs.{split_blocks}
use Rattle.sparse_write_rules.proofs.Chunks.{size_most, sizes_front, sizes_alike}
use Rattle.sparse_write_rules.proofs.FlatImage.{block_good}
use Rattle.sparse_blocks_rules.specs.Blocks.{pace, stretch, blocks_of, needed}
use Rattle.sparse_blocks_rules.specs.Pairs.{each, Matched}
use Rattle.sparse_blocks_rules.proofs.Stretches.{length_stretch, stretch_drop, stretch_take, stretch_none, blocks_cons, blocks_nil}
use Rattle.sparse_blocks_rules.proofs.Giving.{judges, blocks_are, right_size}
use Rattle.sparse_blocks_rules.proofs.SideBySide.{no_pairs, none_beside, each_append}
use Rattle.sparse_join_rules.specs.Join.{onto, joined_blocks, join}
use Rattle.sparse_join_rules.proofs.Fronts.{fill_kinds, kept_kinds, onto_second, onto_first}
use Rattle.sparse_join_rules.proofs.Joining.{join_sizes}

-- the chunks of blocks, how long they are together
abbrev long : ℕ → List Block → ℕ
long b xs = sizes b (runs same_kind (map (block_kind b) xs))

-- of so many blocks of a chunk, those that may each become a chunk of its own
abbrev apart : Kind → ℕ → ℕ
apart Raw n = n
apart Fill n = 0
apart DontCare n = 0
apart Unknown n = 0

-- what a chunk adds at most: one of 16 bytes, and for each raw block its bytes and a header
abbrev worth : ℕ → Chunk → ℕ
worth b k = 16 + apart k.kind k.blocks * (12 + b)

-- and all of them
abbrev worths : ℕ → List Chunk → ℕ
worths b [] = 0
worths b (k ∷ ks) = worth b k + worths b ks

-- a chunk past its first n blocks
abbrev after : ℕ → Chunk → ℕ → Chunk
after b k n = record { kind = k.kind; blocks = k.blocks - n; body = k.body + n * pace b k.kind }

-- ---- blocks in front of others

module _ (b : ℕ) (least : 4 ≤ b) where
  own : (k : BlockKind) → chunk_size k b ≤ 12 + b
  own kept = omega arith
  own raw = omega arith
  own (fill w) = omega arith

  -- any blocks: a chunk each
  each_more : (ps xs : List Block) → long b (ps ++ xs) ≤ length ps * (12 + b) + long b xs
  unfolding runs
  each_more [] xs = omega arith
  each_more (p ∷ ps) xs =
      omega (arith, sizes_front b (block_kind b p) (runs same_kind (map (block_kind b) (ps ++ xs))), own (block_kind b p), each_more ps xs, suc-mul (length ps) (12 + b))

  -- blocks of one kind, not raw: a chunk
  alike_more : (k : BlockKind) → ((m n : ℕ) → chunk_size k m ≡ chunk_size k n) → (ps : List Block) (n : ℕ) → map (block_kind b) ps ≡ replicate n k → (xs : List Block)
      → long b (ps ++ xs) ≤ 16 + long b xs
  alike_more k one ps n e xs =
      let kinds = map-append (block_kind b) ps xs ∙ ap (λ (r : List BlockKind). r ++ map (block_kind b) xs) e in
      omega (arith, ap (λ (ks : List BlockKind). sizes b (runs same_kind ks)) kinds, sizes_alike b k one n (map (block_kind b) xs), size_most k 0)

  -- blocks of a chunk
  stretch_more : (s : List ℕ) (k : Kind) (n at : ℕ) (xs : List Block) → long b (stretch s b k n at ++ xs) ≤ 16 + apart k n * (12 + b) + long b xs
  stretch_more s Raw n at xs = omega (arith, each_more (stretch s b Raw n at) xs, ap (λ (m : ℕ). m * (12 + b)) (length_stretch s b Raw n at))
  stretch_more s Fill n at xs = omega (arith, alike_more (fill (number_at s at 4)) (λ i j. refl) (stretch s b Fill n at) n (fill_kinds s b least n at) xs)
  stretch_more s DontCare n at xs = omega (arith, alike_more kept (λ i j. refl) (stretch s b DontCare n at) n (kept_kinds s b DontCare n at refl) xs)
  stretch_more s Unknown n at xs = omega (arith, alike_more kept (λ i j. refl) (stretch s b Unknown n at) n (kept_kinds s b Unknown n at refl) xs)

  -- blocks of two chunks, joined
  joint_more : (s t : List ℕ) (k l : Kind) (n at to : ℕ) (xs : List Block)
      → long b (each onto (stretch s b k n at) (stretch t b l n to) ++ xs) ≤ 16 + apart k n * (12 + b) + apart l n * (12 + b) + long b xs
  joint_more s t k l n at to xs = go (writes l) refl
    where
      go : (x : Bool) → writes l ≡ x → long b (each onto (stretch s b k n at) (stretch t b l n to) ++ xs) ≤ 16 + apart k n * (12 + b) + apart l n * (12 + b) + long b xs
      go true e = rw (onto_second s t b b k l n at to e) (omega (arith, stretch_more t l n to xs))
      go false e = rw (onto_first s t b b k l n at to e) (omega (arith, stretch_more s k n at xs))

-- ---- chunks cut after their first blocks

module _ (s : List ℕ) (b : ℕ) (k : Chunk) (ks : List Chunk) (n : ℕ) where
  -- the first blocks, and those after them
  cut_blocks : n ≤ k.blocks → blocks_of s b (k ∷ ks) ≡ stretch s b k.kind n k.body ++ blocks_of s b (after b k n ∷ ks)
  cut_blocks h =
      let xs : List Block = stretch s b k.kind k.blocks k.body in
      let here : List Block = stretch s b k.kind n k.body in
      let there : List Block = stretch s b k.kind (k.blocks - n) (k.body + n * pace b k.kind) in
      blocks_cons s b k ks
      ∙ ap (λ (l : List Block). l ++ blocks_of s b ks)
      (sym (take-append-drop n xs) ∙ ap₂ (λ (l r : List Block). l ++ r) (stretch_take s b k.kind n k.blocks k.body h) (stretch_drop s b k.kind n k.blocks k.body))
      ∙ append_assoc here there (blocks_of s b ks) ∙ ap (λ (l : List Block). here ++ l) (sym (blocks_cons s b (after b k n) ks))

  -- none are left of it
  none_after : k.blocks ≤ n → blocks_of s b (after b k n ∷ ks) ≡ blocks_of s b ks
  none_after h =
      blocks_cons s b (after b k n) ks
      ∙ ap (λ (l : List Block). l ++ blocks_of s b ks) (stretch_none s b k.kind (k.blocks - n) (k.body + n * pace b k.kind) (omega arith))

-- what a chunk is worth, its first blocks and the others
cut_apart : (k : Kind) (m n c : ℕ) → n ≤ m → apart k m * c ≡ apart k n * c + apart k (m - n) * c
cut_apart Raw m n c h = sym (split_blocks m n c h)
cut_apart Fill m n c h = omega arith
cut_apart DontCare m n c h = omega arith
cut_apart Unknown m n c h = omega arith

-- ---- two lists of chunks

module _ (s t : List ℕ) (b : ℕ) (least : 4 ≤ b) where
  abbrev joint : List Chunk → List Chunk → ℕ
  joint ks ls = long b (each onto (blocks_of s b ks) (blocks_of t b ls))

  -- the first blocks that two chunks have in common
  joint_cut : (k l : Chunk) (ks ls : List Chunk) (n : ℕ) → n ≤ k.blocks → n ≤ l.blocks
      → joint (k ∷ ks) (l ∷ ls) ≤ 16 + apart k.kind n * (12 + b) + apart l.kind n * (12 + b) + joint (after b k n ∷ ks) (after b l n ∷ ls)
  joint_cut k l ks ls n g h =
      let xs : List Block = stretch s b k.kind n k.body in
      let ys : List Block = stretch t b l.kind n l.body in
      let e = ap₂ (each onto) (cut_blocks s b k ks n g) (cut_blocks t b l ls n h)
      ∙ each_append onto xs ys (blocks_of s b (after b k n ∷ ks)) (blocks_of t b (after b l n ∷ ls))
      (length_stretch t b l.kind n l.body ∙ sym (length_stretch s b k.kind n k.body)) in
      omega (arith, ap (long b) e, joint_more b least s t k.kind l.kind n k.body l.body (each onto (blocks_of s b (after b k n ∷ ks)) (blocks_of t b (after b l n ∷ ls))))

  -- no chunks make none
  joint_none : (ls : List Chunk) → joint [] ls ≤ worths b [] + worths b ls
  unfolding runs
  joint_none ls = rw (blocks_nil s b, no_pairs onto (blocks_of t b ls)) (omega arith)

  -- what they make is no longer than they are worth: each step is paid by the chunk that ends with it, or by raw blocks
  joint_worth : (m : ℕ) (ks ls : List Chunk) → length ks + length ls ≤ m → joint ks ls ≤ worths b ks + worths b ls
  unfolding runs
  joint_worth zero [] ls h = joint_none ls
  joint_worth zero (k ∷ ks) ls h = absurd (omega arith)
  joint_worth (suc m) [] ls h = joint_none ls
  joint_worth (suc m) (k ∷ ks) [] h = rw (blocks_nil t b, none_beside onto (blocks_of s b (k ∷ ks))) (omega arith)
  joint_worth (suc m) (k ∷ ks) (l ∷ ls) h = go (leb k.blocks l.blocks) refl (λ is js f. joint_worth m is js f)
    where
      go : (x : Bool) → leb k.blocks l.blocks ≡ x → ((is js : List Chunk) → length is + length js ≤ m → joint is js ≤ worths b is + worths b js)
          → joint (k ∷ ks) (l ∷ ls) ≤ worths b (k ∷ ks) + worths b (l ∷ ls)
      go true e on =
          let g : k.blocks ≤ l.blocks = leb-true k.blocks l.blocks e in
          let rest = ap (λ (xs : List Block). long b (each onto xs (blocks_of t b (after b l k.blocks ∷ ls)))) (none_after s b k ks k.blocks (omega arith)) in
          omega (arith, joint_cut k l ks ls k.blocks (omega arith) g, rest, on ks (after b l k.blocks ∷ ls) (omega arith), cut_apart l.kind l.blocks k.blocks (12 + b) g)
      go false e on =
          let g : l.blocks ≤ k.blocks = omega (arith, leb-false k.blocks l.blocks e) in
          let rest = ap (λ (ys : List Block). long b (each onto (blocks_of s b (after b k l.blocks ∷ ks)) ys)) (none_after t b l ls l.blocks (omega arith)) in
          omega (arith, joint_cut k l ks ls l.blocks g (omega arith), rest, on (after b k l.blocks ∷ ks) ls (omega arith), cut_apart k.kind k.blocks l.blocks (12 + b) g)

-- ---- bytes

module _ (b : ℕ) (least : 4 ≤ b) where
  raw_bytes : (n : ℕ) → n * (12 + b) ≤ 4 * (n * b)
  raw_bytes zero = omega arith
  raw_bytes (suc n) = omega (arith, raw_bytes n, suc-mul n (12 + b), suc-mul n b)

  worth_bytes : (k : Kind) (n : ℕ) → 16 + apart k n * (12 + b) ≤ 4 * (12 + data_bytes k n b)
  worth_bytes Raw n = omega (arith, raw_bytes n)
  worth_bytes Fill n = omega arith
  worth_bytes DontCare n = omega arith
  worth_bytes Unknown n = omega arith

  -- chunks are worth no more than four times what they take of their image
  worths_bytes : (ks : List Chunk) → worths b ks ≤ 4 * taken b ks
  worths_bytes [] = omega arith
  worths_bytes (k ∷ ks) = omega (arith, worth_bytes k.kind k.blocks, worths_bytes ks)

-- a joined image has no more than four times the bytes of the two
pub join_bytes_most : {s t : List ℕ} → Matched s t → length (join s t) ≤ 4 * (length s + length t)
unfolding joined_blocks
join_bytes_most {s} {t} m =
    let b : ℕ = block_size s in
    let ks = m.first.ks in
    let ls = m.second.ks in
    let least : 4 ≤ b = (block_good b (right_size m.first)).0 in
    let are : long b (joined_blocks s t) ≡ long b (each onto (blocks_of s b ks) (blocks_of t b ls)) =
    ap₂ (λ (xs ys : List Block). long b (each onto xs ys)) (blocks_are m.first) (blocks_are m.second ∙ ap (λ (x : ℕ). blocks_of t x ls) (sym m.block)) in
    omega (
      arith,
      join_sizes m,
      are,
      joint_worth s t b least (length ks + length ls) ks ls (omega arith),
      worths_bytes b least ks,
      worths_bytes b least ls,
      taken_least s (needed s) ks (judges m.first),
      taken_least t (needed t) ls (judges m.second),
      ap (λ (x : ℕ). taken x ls) m.block,
    )
