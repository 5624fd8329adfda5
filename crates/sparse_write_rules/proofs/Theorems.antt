-- No two lists of blocks have one image; how long an image can be; the round trip of flat data, and the checksum that their image
-- states; and that no refusal has the number 0.
-- Assumes nothing.
use mathlib.Core.Path.{◌≡◌, refl, sym, ap, ap₂, ◌∙◌}
use mathlib.Core.Bool.{true, false}
use mathlib.Core.Option.{Option, none, some}
use mathlib.Core.List.{List, [], ◌∷◌, map}
use Prim.Native.Nat.{ℕ, zero, suc, ◌+◌, ◌*◌, ◌/◌, ◌≤◌, ◌<◌}
use native.Mathlib.Nat.{not-suc-le-zero, add-mul}
use native.Mathlib.Omega.{arith}
use borrow.Author.Tests.{le-ltb, not-false}
use lib.Dec.{ltb}
use lib.ListN.{length, take, drop, replicate, length-append}
use lib.Seq.{take_at, drop_at}
use Rattle.fields_rules.specs.Number.{Bytes}
use Rattle.rules.specs.First.{first}
use Rattle.rules.specs.Answer.{accepted}
use Rattle.rules.proofs.Answer.{unless_accepted, accepted_same, unless_number}
use Rattle.rules.proofs.Tests.{all_fail}
use Rattle.sparse_rules.specs.declared.Kind.{Kind}
use Rattle.sparse_rules.specs.declared.Kind.TheVariants.{Raw, Fill, DontCare, Unknown}
use Rattle.sparse_rules.specs.declared.Chunk.{Chunk}
use Rattle.crc32_rules.specs.Crc.{crc32}
use Rattle.sparse_rules.specs.Header.{block_size_right, block_size, stated_checksum}
use Rattle.sparse_rules.specs.Cells.{tab, raw_byte, zeroed}
use Rattle.sparse_rules.specs.Counts.{written, dont_care_of, unknown}
use Rattle.sparse_rules.specs.Judge.{effect}
use Rattle.sparse_rules.proofs.Cells.{length-tab, zeroed_some}
use Rattle.sparse_rules.proofs.Counting.{where_nil, where_cons, counts_same}
use Rattle.sparse_rules.proofs.Image.{answer_counts}
use Rattle.sparse_store_rules.proofs.Over.{over_front}
use Rattle.sparse_store_rules.proofs.Cut.{store_cells}
use Rattle.sparse_write_rules.specs.Blocks.{Block, cells_of_block, block_cells, blocks_from, flat_blocks, Fits, AllFit, Whole}
use Rattle.sparse_write_rules.specs.Kinds.{BlockKind, kept, raw, fill, same_kind, block_kind}
use Rattle.sparse_write_rules.specs.Runs.{Run, runs, Longest, nothing, single, next}
use Rattle.sparse_write_rules.specs.Encode.{chunk_size, chunks, image, encode}
use Rattle.sparse_write_rules.specs.Write.{flat_image, length_wrong, write_tests, answer, output, bound}
use Rattle.sparse_write_rules.specs.Theorems.{chunk_kind, run_of, Unique, Bounded, GivesBack, TrueChecksum, RoundTrip, RefusalNumbers}
use Rattle.sparse_write_rules.proofs.Runs.{tells_kinds, longest, counted, All, AllRuns, all_runs, at_least}
use Rattle.sparse_write_rules.proofs.KindCells.{Stores, stored_stores}
use Rattle.sparse_write_rules.proofs.Chunks.{chunks_nil, chunks_cons, length_chunk, length_header}
use Rattle.sparse_write_rules.proofs.FlatImage.{length-blocks, cells_flat, block_good, length_good}
use Rattle.sparse_write_rules.proofs.ImageBytes.{bytes_tab}
use Rattle.sparse_write_rules.proofs.Encoded.{length_block, all_blocks, size_read, sum_read, reads}

-- ---- no two lists of blocks have one image

some_injective : (xs ys : List ℕ) → map some xs ≡ map some ys → xs ≡ ys
some_injective xs ys e = sym (zeroed_some xs) ∙ ap zeroed e ∙ zeroed_some ys

kept_differs : (b : ℕ) (ys : List ℕ) → 0 < b → length ys ≡ b → replicate b none ≡ map some ys → ⊥
kept_differs zero ys p l e = not-suc-le-zero p
kept_differs (suc b) [] p l e = omega arith
kept_differs (suc b) (y ∷ ys) p l e = let z : ◌≡◌ {A = ℕ} 0 1 = cc in omega arith

block_injective : (b : ℕ) → 0 < b → (x y : Block) → Fits b x → Fits b y → cells_of_block b x ≡ cells_of_block b y → x ≡ y
block_injective b p none none f g e = refl
block_injective b p none (some ys) f g e = absurd (kept_differs b ys p g.0 e)
block_injective b p (some xs) none f g e = absurd (kept_differs b xs p f.0 (sym e))
block_injective b p (some xs) (some ys) f g e = ap some (some_injective xs ys e)

-- blocks with the same cells are the same
pub blocks_injective : (b : ℕ) → 0 < b → (xs ys : List Block) → AllFit b xs → AllFit b ys → block_cells b xs ≡ block_cells b ys → xs ≡ ys
unfolding block_cells
blocks_injective b p [] [] f g e = refl
blocks_injective b p [] (y ∷ ys) f g e =
    let l = ap length e ∙ length-append (cells_of_block b y) (block_cells b ys) in
    absurd (omega (arith, length_block b y g.0))
blocks_injective b p (x ∷ xs) [] f g e =
    let l = sym (ap length e) ∙ length-append (cells_of_block b x) (block_cells b xs) in
    absurd (omega (arith, length_block b x f.0))
blocks_injective b p (x ∷ xs) (y ∷ ys) f g e =
    let lx = length_block b x f.0 in
    let ly = length_block b y g.0 in
    let here : cells_of_block b x ≡ cells_of_block b y = sym (take_at (cells_of_block b x) (block_cells b xs) b lx) ∙ ap (take b) e ∙ take_at (cells_of_block b y) (block_cells b ys) b ly in
    let rest : block_cells b xs ≡ block_cells b ys = sym (drop_at (cells_of_block b x) (block_cells b xs) b lx) ∙ ap (drop b) e ∙ drop_at (cells_of_block b y) (block_cells b ys) b ly in
    ap₂ (λ (z : Block) (r : List Block). z ∷ r) (block_injective b p x y f.0 g.0 here) (blocks_injective b p xs ys f.1 g.1 rest)

some_block : (b : ℕ) → block_size_right b ≡ true → 0 < b
some_block b e = let g = block_good b e in omega arith

-- images of blocks with the same effect are the same, and so are the blocks
same_effect : (b : ℕ) (xs ys : List Block) → Whole b xs → Whole b ys → (room : ℕ) → length xs * b ≤ room → length ys * b ≤ room
    → effect (encode b xs) room ≡ effect (encode b ys) room → xs ≡ ys
same_effect b xs ys v w room h g e =
    blocks_injective b (some_block b v.right) xs ys v.fit w.fit (sym (reads b xs v room h).gives ∙ e ∙ (reads b ys w room g).gives)

-- different blocks, or blocks of different sizes, have different images
different : (b c : ℕ) (xs ys : List Block) → Whole b xs → Whole c ys → encode b xs ≡ encode c ys → (b ≡ c) × (xs ≡ ys)
different b c xs ys v w e =
    let q : b ≡ c = sym (size_read b xs v) ∙ ap block_size e ∙ size_read c ys w in
    let w1 : Whole b ys = rw q w in
    let e1 : encode b xs ≡ encode b ys = e ∙ rw q in
    (q, same_effect b xs ys v w1 (length xs * b + length ys * b) (omega arith) (omega arith) (ap (λ (s : List ℕ). effect s (length xs * b + length ys * b)) e1))

-- no two lists of blocks have one image
pub unique : Unique
unique = record { images = different; effects = λ b xs ys room v w h g e. same_effect b xs ys v w room h g e }

-- ---- how long an image can be

size_bound : (kind : BlockKind) (k b : ℕ) → 4 ≤ b → 0 < k → chunk_size kind (k * b) ≤ k * b + 12 * k
size_bound kept k b h p = omega arith
size_bound raw k b h p = omega arith
size_bound (fill w) k b h p = omega (arith, at_least k b p)

first_many : (r : Run BlockKind) (rs : List (Run BlockKind)) → Longest (r ∷ rs) → (0 < r.many) × Longest rs
first_many r [] (single h) = (h, nothing)
first_many r (s ∷ rs) (next h d l) = (h, l)

chunks_bound : (b : ℕ) (d : List ℕ) → 4 ≤ b → (rs : List (Run BlockKind)) (at : ℕ) → Longest rs → length (chunks b d at rs) ≤ counted rs * b + 12 * counted rs
chunks_bound b d h [] at l = rw chunks_nil (omega arith)
chunks_bound b d h (r ∷ rs) at l =
    let f = first_many r rs l in
    let on = chunks_bound b d h rs (at + r.many * b) f.1 in
    let s = size_bound r.kind r.many b h f.0 in
    let m = add-mul r.many (counted rs) b in
    rw chunks_cons (simp (length-append, length_chunk, length-tab) (omega arith))

-- the image of n blocks of b bytes is no longer than its header, their bytes, and 12 for each
encode_bound : (b : ℕ) (xs : List Block) → Whole b xs → length (encode b xs) ≤ 28 + length xs * b + 12 * length xs
unfolding encode image
encode_bound b xs w =
    let c = chunks_bound b (zeroed (block_cells b xs)) (block_good b w.right).0 (runs same_kind (map (block_kind b) xs)) 0 (longest same_kind tells_kinds (map (block_kind b) xs)) in
    let n = all_blocks b xs w in
    simp (length-append, length_header) (omega (arith, ap (λ (x : ℕ). x * b) n))

-- ---- flat data

blocks_fit : (d : List ℕ) → Bytes d → (b n at : ℕ) → AllFit b (blocks_from d b n at)
unfolding blocks_from
blocks_fit d small b zero at = tt
blocks_fit d small b (suc n) at = ((length-tab (raw_byte d at) 0 b, bytes_tab (raw_byte d at) (λ i. small (at + i)) 0 b), blocks_fit d small b n (at + b))

blocks_stored : (d : List ℕ) (b n at : ℕ) → All Stores (map (block_kind b) (blocks_from d b n at))
unfolding blocks_from
blocks_stored d b zero at = tt
blocks_stored d b (suc n) at = (stored_stores (tab (raw_byte d at) 0 b) b 0, blocks_stored d b n (at + b))

-- chunks of stored blocks only: all blocks are written, none is don't care or unknown
all_written : (s : List ℕ) (ks : List Chunk) → AllRuns Stores (map (run_of s) ks)
    → (written ks ≡ counted (map (run_of s) ks)) × (dont_care_of ks ≡ 0) × (unknown ks ≡ 0)
all_written s [] a = (where_nil _, where_nil _, where_nil _)
all_written s (k ∷ ks) a = let on = all_written s ks a.1 in go k.kind refl a.0 on
  where
    go : (x : Kind) → k.kind ≡ x → Stores (chunk_kind s k.kind k.body)
        → (written ks ≡ counted (map (run_of s) ks)) × (dont_care_of ks ≡ 0) × (unknown ks ≡ 0)
        → (written (k ∷ ks) ≡ k.blocks + counted (map (run_of s) ks)) × (dont_care_of (k ∷ ks) ≡ 0) × (unknown (k ∷ ks) ≡ 0)
    go Raw e h on = (where_cons _ k ks ∙ rw (e, on.0), where_cons _ k ks ∙ rw (e, on.1), where_cons _ k ks ∙ rw (e, on.2))
    go Fill e h on = (where_cons _ k ks ∙ rw (e, on.0), where_cons _ k ks ∙ rw (e, on.1), where_cons _ k ks ∙ rw (e, on.2))
    go DontCare e h on = absurd (rw e at h)
    go Unknown e h on = absurd (rw e at h)

module _ (d : List ℕ) (b : ℕ) (small : Bytes d) (right : block_size_right b ≡ true) (fits : length_wrong (length d) b ≡ false) where
  -- the blocks of flat data that the writer accepts can be encoded
  pub flat_whole : Whole b (flat_blocks d b)
  unfolding flat_blocks
  flat_whole =
      let g = length_good (length d) b fits in
      record {
        right = right;
        fit = blocks_fit d small b (length d / b) 0;
        small = rw length-blocks (omega (arith, g.0, g.1));
      }

  blocks_all : length (flat_blocks d b) ≡ length d / b
  unfolding flat_blocks
  blocks_all = length-blocks d b (length d / b) 0

  -- their image is not too long
  flat_bound : length (flat_image d b) ≤ bound (length d) b
  unfolding flat_image
  flat_bound =
      let g = length_good (length d) b fits in
      let n = blocks_all in
      omega (arith, encode_bound b (flat_blocks d b) flat_whole, g.1, ap (λ (x : ℕ). x * b) n)

  stored_all : All Stores (map (block_kind b) (flat_blocks d b))
  unfolding flat_blocks
  stored_all = blocks_stored d b (length d / b) 0

  -- it states their checksum
  flat_sum : stated_checksum (flat_image d b) ≡ crc32 d
  unfolding flat_image
  flat_sum =
      let g = length_good (length d) b fits in
      sum_read b (flat_blocks d b) flat_whole ∙ ap (λ (cs : List (Option ℕ)). crc32 (zeroed cs)) (cells_flat d b g.1) ∙ ap crc32 (zeroed_some d)

  -- read back, it gives the flat data
  flat_trip : (p : List ℕ) → length d ≤ length p → GivesBack d b (flat_image d b) p
  unfolding flat_image
  flat_trip p h =
      let g = length_good (length d) b fits in
      let room : length (flat_blocks d b) * b ≤ length p = rw blocks_all (omega (arith, g.1)) in
      let e = reads b (flat_blocks d b) flat_whole (length p) room in
      let a = rw (← e.chunks_are) at (all_runs same_kind Stores (map (block_kind b) (flat_blocks d b)) stored_all) in
      let c = all_written (encode b (flat_blocks d b)) e.ks a in
      let n : counted (map (run_of (encode b (flat_blocks d b))) e.ks) ≡ length d / b =
      ap counted e.chunks_are ∙ all_blocks b (flat_blocks d b) flat_whole ∙ blocks_all in
      record {
        answers = answer_counts _ _ (length p) e.ks e.found ∙ ap accepted (counts_same (c.0 ∙ n) c.1 c.2);
        leaves = store_cells _ p (map some d) (e.gives ∙ cells_flat d b g.1) ∙ over_front d p h;
      }

-- ---- the writer

-- what is accepted has passed every test
accepted_tests : (d : List ℕ) (b room n : ℕ) → answer d b room ≡ accepted n
    → (block_size_right b ≡ true) × (length_wrong (length d) b ≡ false) × (ltb room (length (flat_image d b)) ≡ false) × (length (flat_image d b) ≡ n)
unfolding answer write_tests
accepted_tests d b room n e =
    let q = unless_accepted (first (write_tests d b room)) 0 (accepted (length (flat_image d b))) n e in
    let f = all_fail (write_tests d b room) (tt, (tt, (tt, tt))) q.0 in
    (not-false (block_size_right b) f.0, f.1.0, f.1.1.0, accepted_same q.1)

-- and what passes them is accepted
tests_accepted : (d : List ℕ) (b room : ℕ) → block_size_right b ≡ true → length_wrong (length d) b ≡ false → length (flat_image d b) ≤ room
    → answer d b room ≡ accepted (length (flat_image d b))
unfolding answer write_tests
tests_accepted d b room right fits h = rw (right, fits, le-ltb room (length (flat_image d b)) h)

-- how long an image can be
pub bounded : Bounded
bounded =
    record {
      encoded = encode_bound;
      written = λ d b room n small e. let q = accepted_tests d b room n e in omega (arith, flat_bound d b small q.0 q.1, q.3);
      enough = λ d b room small right fits h. tests_accepted d b room right fits (omega (arith, flat_bound d b small right fits));
    }

-- what the writer left in n bytes of its output gives the flat data back and nothing else
gives_back : (d : List ℕ) (b : ℕ) (out : List ℕ) (n : ℕ) (p : List ℕ) → Bytes d → answer d b (length out) ≡ accepted n → length d ≤ length p
    → GivesBack d b (take n (output d b out)) p
unfolding output
gives_back d b out n p small e h =
    let q = accepted_tests d b (length out) n e in
    rw (e, take_at (flat_image d b) (drop n out) n q.3) (flat_trip d b small q.0 q.1 p h)

-- what the writer left states the checksum of the flat data
pub true_checksum : TrueChecksum
unfolding output
true_checksum d b out n small e =
    let q = accepted_tests d b (length out) n e in
    rw (e, take_at (flat_image d b) (drop n out) n q.3) (flat_sum d b small q.0 q.1)

-- flat data that are written come back
pub round_trip : RoundTrip
round_trip = record { writes = tests_accepted; returns = gives_back }

-- no refusal of the writer has the number 0
pub refusal_numbers : RefusalNumbers
unfolding answer
refusal_numbers d b room = unless_number (first (write_tests d b room)) 0 (accepted (length (flat_image d b))) tt
