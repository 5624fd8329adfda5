-- What a header that passes, a chunk that is read, and an image that is accepted are known by; and the judge's cases.
-- Assumes nothing.
use mathlib.Core.Path.{◌≡◌, refl, sym, ap, subst, ◌∙◌}
use mathlib.Core.Bool.{Bool, true, false, not, cond, ◌&&◌}
use mathlib.Core.List.{List}
use Prim.Native.Nat.{ℕ, ◌+◌, ◌*◌, ◌%◌, ◌≤◌, ◌<◌}
use native.Mathlib.Omega.{arith}
use lib.Dec.{leb, eqb}
use borrow.Author.Tests.{ltb-false, leb-true, eqb-true, not-false, lt-ltb, le-ltb, eq-eqb, ne_eqb}
use Rattle.rules.specs.First.{first}
use Rattle.sparse_rules.specs.declared.Header.{Header}
use Rattle.sparse_rules.specs.declared.Cursor.{Cursor}
use Rattle.sparse_rules.specs.declared.Kind.{Kind}
use Rattle.sparse_rules.specs.declared.Kind.TheVariants.{Raw, Fill, DontCare, Unknown}
use Rattle.sparse_rules.specs.declared.Chunk.{Chunk}
use Rattle.sparse_rules.specs.Header.{header_of, header_tests, header_size_right, file_header_size, chunk_header_size, block_size, total_blocks, stated_checksum}
use Rattle.sparse_rules.specs.Chunks.{type_at, blocks_at, size_at, kind_of, size_right, chunk_tests, chunk, chunk_at, next_cursor, reading}
use Rattle.rules.specs.Answer.{refused, accepted, unless}
use Rattle.sparse_rules.specs.Walk.{Finding}
use Rattle.sparse_rules.specs.Cells.{checksum_of}
use Rattle.sparse_rules.specs.Counts.{writes}
use Rattle.sparse_rules.specs.Judge.{sum_stated, sum_differs, sum_tests, summed, structure, judged}
use Rattle.sparse_rules.specs.Facts.{HeaderFacts, data_bytes, ChunkFacts, AcceptedFacts}
use Rattle.rules.proofs.Tests.{all_fail, both, and_rest}
use Rattle.rules.proofs.Answer.{unless_accepted, unless_passed, unless_refused, accepted_same}

-- ---- the header

-- a header size that keeps its rule
size_kept : (least n : ℕ) → header_size_right least n ≡ true → (least ≤ n) × (n % 4 ≡ 0)
size_kept least n e = let p = both (leb least n) (eqb (n % 4) 0) e in (leb-true _ _ p.0, eqb-true _ _ p.1)

-- a header that passes its tests keeps their rules
pub header_facts : (s : List ℕ) (len room : ℕ) → first (header_tests s len room) ≡ 0 → HeaderFacts (header_of s) len room
unfolding header_tests
header_facts s len room e =
    let t = all_fail (header_tests s len room) (tt, (tt, (tt, (tt, (tt, (tt, tt)))))) e in
    let f = both (header_size_right 28 (file_header_size s) && header_size_right 12 (chunk_header_size s)) (leb (file_header_size s) len) (not-false _ t.1.1.1.0) in
    let g = both (header_size_right 28 (file_header_size s)) (header_size_right 12 (chunk_header_size s)) f.0 in
    let b = both (leb 4 (block_size s) && leb (block_size s) 65536) (eqb (block_size s % 4) 0) (not-false _ t.1.1.1.1.0) in
    let d = both (leb 4 (block_size s)) (leb (block_size s) 65536) b.0 in
    let start = size_kept 28 (file_header_size s) g.0 in
    let head = size_kept 12 (chunk_header_size s) g.1 in
    record {
      known = ltb-false len 28 t.0;
      start_least = start.0;
      start_fours = start.1;
      start_inside = leb-true (file_header_size s) len f.1;
      head_least = head.0;
      head_fours = head.1;
      block_least = leb-true 4 (block_size s) d.0;
      block_most = leb-true (block_size s) 65536 d.1;
      block_fours = eqb-true (block_size s % 4) 0 b.1;
      fits = ltb-false room (total_blocks s * block_size s) t.1.1.1.1.1.0;
    }

-- ---- a chunk

-- a total size that is right for the kind holds the header and the data
pub size_holds : (h : Header) (k : Kind) (blocks size : ℕ) → size_right h k blocks size ≡ true → h.head + data_bytes k blocks h.block ≤ size
unfolding size_right
size_holds h Raw blocks size e = omega (arith, eqb-true size (h.head + blocks * h.block) e)
size_holds h Fill blocks size e = omega (arith, eqb-true size (h.head + 4) e)
size_holds h DontCare blocks size e = omega (arith, eqb-true size h.head e)
size_holds h Unknown blocks size e = omega (arith, leb-true h.head size (both (leb h.head size) (eqb (size % 4) 0) e).0)

-- the data of a chunk's blocks are those of one block of all their bytes
pub data_one : (k : Kind) (n b : ℕ) → data_bytes k n b ≡ data_bytes k 1 (n * b)
data_one Raw n b = omega arith
data_one Fill n b = refl
data_one DontCare n b = refl
data_one Unknown n b = refl

-- a chunk that is written holds its header and its data, and nothing else
pub size_exact : (h : Header) (k : Kind) (blocks size : ℕ) → size_right h k blocks size ≡ true → writes k ≡ true → h.head + data_bytes k blocks h.block ≡ size
unfolding size_right
size_exact h Raw blocks size e w = omega (arith, eqb-true size (h.head + blocks * h.block) e)
size_exact h Fill blocks size e w = omega (arith, eqb-true size (h.head + 4) e)
size_exact h DontCare blocks size e w = cc
size_exact h Unknown blocks size e w = cc

-- a chunk that passes its tests keeps their rules
module _ (s : List ℕ) (len : ℕ) (h : Header) (c : Cursor) where
  passed_facts : first (chunk_tests s len h c) ≡ 0 → ChunkFacts s len h c (chunk_at s h c) (next_cursor s c)
  unfolding chunk_tests chunk_at
  passed_facts e =
      let t = all_fail (chunk_tests s len h c) (tt, (tt, (tt, (tt, tt)))) e in
      let size = size_holds h (kind_of (type_at s c.at)) (blocks_at s c.at) (size_at s c.at) (not-false _ t.1.0) in
      record {
        is = refl;
        then = refl;
        body = refl;
        header_inside = omega arith;
        data_inside = omega arith;
        inside = ltb-false len (c.at + size_at s c.at) t.1.1.0;
        blocks = refl;
        within = ltb-false h.total (c.first + blocks_at s c.at) t.1.1.1.0;
      }

  -- a chunk that is read keeps the rules of a chunk
  pub chunk_facts : (k : Chunk) (next : Cursor) → reading s len h c ≡ chunk k next → ChunkFacts s len h c k next
  unfolding reading
  chunk_facts k next e =
      let r = unless_accepted (first (chunk_tests s len h c)) c.at (chunk (chunk_at s h c) (next_cursor s c)) (k, next) e in
      let same : ◌≡◌ {A = Chunk × Cursor} (chunk_at s h c, next_cursor s c) (k, next) = accepted_same r.1 in
      subst (λ (x : Chunk × Cursor). ChunkFacts s len h c x.0 x.1) same (passed_facts r.0)

-- the cases of reading a chunk, one test after the other
module _ (s : List ℕ) (len : ℕ) (h : Header) (c : Cursor) where
  -- where no test applies, the chunk is read
  pub read_passed : first (chunk_tests s len h c) ≡ 0 → reading s len h c ≡ chunk (chunk_at s h c) (next_cursor s c)
  unfolding reading
  read_passed e = unless_passed _ c.at (chunk (chunk_at s h c) (next_cursor s c)) e

  -- where one does, its number is the refusal's
  pub read_refused : 0 < first (chunk_tests s len h c) → reading s len h c ≡ refused (first (chunk_tests s len h c)) c.at
  unfolding reading
  read_refused p = unless_refused _ c.at (chunk (chunk_at s h c) (next_cursor s c)) p

  -- 7: fewer bytes left than a chunk header
  pub read_short : len < c.at + h.head → reading s len h c ≡ refused 7 c.at
  unfolding reading chunk_tests
  read_short p = rw (lt-ltb len (c.at + h.head) p)

  module _ (whole : c.at + h.head ≤ len) where
    -- 8: total size wrong for the type
    pub read_wrong : size_right h (kind_of (type_at s c.at)) (blocks_at s c.at) (size_at s c.at) ≡ false → reading s len h c ≡ refused 8 c.at
    unfolding reading chunk_tests
    read_wrong e = rw (le-ltb len (c.at + h.head) whole, e)

    module _ (right : size_right h (kind_of (type_at s c.at)) (blocks_at s c.at) (size_at s c.at) ≡ true) where
      -- 7: fewer bytes left than the chunk's total size
      pub read_cut : len < c.at + size_at s c.at → reading s len h c ≡ refused 7 c.at
      unfolding reading chunk_tests
      read_cut p = rw (le-ltb len (c.at + h.head) whole, right, lt-ltb len (c.at + size_at s c.at) p)

      module _ (inside : c.at + size_at s c.at ≤ len) where
        -- 9: the chunk passes the total blocks
        pub read_past : h.total < c.first + blocks_at s c.at → reading s len h c ≡ refused 9 c.at
        unfolding reading chunk_tests
        read_past p =
            rw (le-ltb len (c.at + h.head) whole, right, le-ltb len (c.at + size_at s c.at) inside, lt-ltb h.total (c.first + blocks_at s c.at) p)

        -- no test applies: the chunk
        pub read_whole : c.first + blocks_at s c.at ≤ h.total → reading s len h c ≡ chunk (chunk_at s h c) (next_cursor s c)
        unfolding reading chunk_tests
        read_whole p =
            rw (le-ltb len (c.at + h.head) whole, right, le-ltb len (c.at + size_at s c.at) inside, le-ltb h.total (c.first + blocks_at s c.at) p)

-- ---- the checksum's test

module _ (sum stated : ℕ) where
  -- none is stated, so none differs
  pub differs_none : stated ≡ 0 → sum_differs sum stated ≡ false
  differs_none e = rw (eq-eqb stated 0 e)

  -- one that is stated, and another than the true one
  pub differs_other : (stated ≡ 0 → ⊥) → (sum ≡ stated → ⊥) → sum_differs sum stated ≡ true
  differs_other n d = rw (ne_eqb stated 0 n, ne_eqb sum stated d)

  -- the true one
  pub differs_same : sum ≡ stated → sum_differs sum stated ≡ false
  differs_same e = rw (eq-eqb sum stated e) (never (sum_stated stated))
    where
      never : (t : Bool) → (t && false) ≡ false
      never true = refl
      never false = refl

  -- one that does not differ is 0 or the true one
  same_stated : sum_differs sum stated ≡ false → (stated ≡ 0 → ⊥) → sum ≡ stated
  same_stated e n = eqb-true sum stated (not-false _ (and_rest (sum_stated stated) (not (eqb sum stated)) e (rw (ne_eqb stated 0 n))))

module _ (s : List ℕ) (ks : List Chunk) where
  -- 11 where it differs
  pub sum_number : first (sum_tests s ks) ≡ cond (sum_differs (checksum_of s (block_size s) ks) (stated_checksum s)) 11 0
  unfolding sum_tests
  sum_number = refl

  -- no checksum is stated
  pub sum_none : stated_checksum s ≡ 0 → first (sum_tests s ks) ≡ 0
  sum_none e = sum_number ∙ rw (differs_none (checksum_of s (block_size s) ks) (stated_checksum s) e)

  -- 11: another than the true one is stated
  pub sum_refused : (stated_checksum s ≡ 0 → ⊥) → (checksum_of s (block_size s) ks ≡ stated_checksum s → ⊥) → first (sum_tests s ks) ≡ 11
  sum_refused n d = sum_number ∙ rw (differs_other (checksum_of s (block_size s) ks) (stated_checksum s) n d)

  -- the true one passes, also where it is 0
  pub sum_passed : checksum_of s (block_size s) ks ≡ stated_checksum s → first (sum_tests s ks) ≡ 0
  sum_passed d = sum_number ∙ rw (differs_same (checksum_of s (block_size s) ks) (stated_checksum s) d)

  -- and what passes is 0 or the true one
  sum-stated : first (sum_tests s ks) ≡ 0 → (stated_checksum s ≡ 0 → ⊥) → checksum_of s (block_size s) ks ≡ stated_checksum s
  unfolding sum_tests
  sum-stated e = same_stated (checksum_of s (block_size s) ks) (stated_checksum s) (all_fail (sum_tests s ks) (tt, tt) e).0

-- ---- the judge

module _ (s : List ℕ) (len : ℕ) where
  -- a header that is refused refuses the image, at place 0
  pub judged_header : (room : ℕ) → 0 < first (header_tests s len room) → judged s len room ≡ refused (first (header_tests s len room)) 0
  unfolding judged
  judged_header room p = unless_refused _ 0 (summed s (structure s len)) p

  module _ (room : ℕ) (passed : first (header_tests s len room) ≡ 0) where
    -- a structure that is refused refuses the image, at the same place
    pub judged_structure : (n place : ℕ) → structure s len ≡ refused n place → judged s len room ≡ refused n place
    unfolding judged summed
    judged_structure n place e = unless_passed _ 0 (summed s (structure s len)) passed ∙ rw e

    -- where the structure holds, the checksum's test decides, at 24
    pub judged_sum : (ks : List Chunk) → structure s len ≡ accepted ks → judged s len room ≡ unless (first (sum_tests s ks)) 24 (accepted ks)
    unfolding judged summed
    judged_sum ks e = unless_passed _ 0 (summed s (structure s len)) passed ∙ rw e

    -- and the image is accepted where it passes
    pub judged_accepted : (ks : List Chunk) → structure s len ≡ accepted ks → first (sum_tests s ks) ≡ 0 → judged s len room ≡ accepted ks
    judged_accepted ks e d = judged_sum ks e ∙ unless_passed _ 24 (accepted ks) d

  -- an accepted image passed every test of its header
  pub header_passed : (room : ℕ) (ks : List Chunk) → judged s len room ≡ accepted ks → first (header_tests s len room) ≡ 0
  unfolding judged
  header_passed room ks e = (unless_accepted (first (header_tests s len room)) 0 (summed s (structure s len)) ks e).0

  summed_accepted : (f : Finding) (ks : List Chunk) → summed s f ≡ accepted ks → (f ≡ accepted ks) × (first (sum_tests s ks) ≡ 0)
  unfolding summed
  summed_accepted (refused n place) ks e = (e, cc)
  summed_accepted (accepted ls) ks e =
      let u = unless_accepted (first (sum_tests s ls)) 24 (accepted ls) ks e in
      (u.1, ap (λ (l : List Chunk). first (sum_tests s l)) (sym (accepted_same u.1)) ∙ u.0)

  -- what an accepted image is known by
  pub accepted_facts : (room : ℕ) (ks : List Chunk) → judged s len room ≡ accepted ks → AcceptedFacts s len room ks
  unfolding judged
  accepted_facts room ks e =
      let f = summed_accepted (structure s len) ks (unless_accepted (first (header_tests s len room)) 0 (summed s (structure s len)) ks e).1 in
      record { header = header_facts s len room (header_passed room ks e); chunks = f.0; tested = f.1; checksum = sum-stated s ks f.1 }
