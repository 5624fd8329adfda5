-- What an accepted image adds up to, that a longer partition changes nothing of it, what the checksum decides, what a chunk says of
-- its type, and refusal numbers.
-- Assumes nothing.
use mathlib.Core.Path.{◌≡◌, refl, sym, ap, ◌∙◌}
use mathlib.Core.Bool.{Bool, true, false, ◌||◌, cond}
use mathlib.Core.List.{List, [], ◌∷◌}
use Prim.Native.Nat.{ℕ, zero, suc, ◌+◌, ◌*◌, ◌≤◌, zero-le}
use native.Mathlib.Nat.{le_trans, zero-add, zero-lt-suc}
use native.Mathlib.Numerals.{sub-one}
use native.Mathlib.Omega.{arith}
use lib.Dec.{eqb}
use lib.ListN.{length}
use borrow.Author.Tests.{ltb-false, le-ltb}
use Rattle.rules.specs.First.{first}
use Rattle.sparse_rules.specs.declared.Header.{Header}
use Rattle.sparse_rules.specs.declared.Cursor.{Cursor}
use Rattle.sparse_rules.specs.declared.Kind.TheVariants.{Raw, Fill, DontCare, Unknown}
use Rattle.sparse_rules.specs.declared.Chunk.{Chunk}
use Rattle.sparse_rules.specs.Header.{header_of, header_tests, block_size, total_blocks, total_chunks, stated_checksum}
use Rattle.rules.specs.Answer.{accepted, unless, number_of, HasNumber}
use Rattle.rules.proofs.Answer.{unless_number, onward_number, unless_most, onward_most}
use Rattle.sparse_rules.specs.Walk.{more, end_tests, walk, origin}
use Rattle.sparse_rules.specs.Chunks.{type_at, kind_of, is_known, chunk_tests, chunk, chunk_at, next_cursor, reading}
use Rattle.sparse_rules.specs.Counts.{counts_of}
use Rattle.sparse_rules.specs.Judge.{sum_tests, summed, structure, judged, effect, effect_of}
use Rattle.sparse_rules.specs.Answers.{answer, answer_for}
use Rattle.sparse_rules.specs.Theorems.{Sums, Unmoved, Checksums, NoneStated, TypesTold, RefusalNumbers, LastNumber}
use Rattle.rules.proofs.Tests.{all_fail, first_most}
use Rattle.sparse_rules.proofs.Walk.{stepped, ended}
use Rattle.sparse_rules.proofs.Facts.{chunk_facts, sum_none, sum_refused, sum_passed, header_passed, judged_sum, judged_accepted, accepted_facts}
use Rattle.sparse_rules.proofs.Counting.{blocks_in, three_parts}
use Rattle.sparse_rules.proofs.Cells.{length-cells, count_cells}
use Rattle.sparse_rules.proofs.Image.{answer_counts}

-- the chunks of an accepted walk span the blocks from the cursor's to the total
pub walk_total : (s : List ℕ) (len : ℕ) (h : Header) (n : ℕ) (c : Cursor) (ks : List Chunk) → c.first ≤ h.total → walk s len h n c ≡ accepted ks
    → c.first + blocks_in ks ≡ h.total
walk_total s len h zero c ks p e =
    let d = ended s len h zero c ks e refl in
    rw d.none (omega (arith, d.filled))
walk_total s len h (suc n) c ks p e =
    let d = stepped s len h (suc n) c ks e (zero-lt-suc n) in
    let f = chunk_facts s len h c d.here d.next d.read in
    let r = walk_total s len h n d.next d.rest f.within (rw sub-one at d.walked) in
    rw d.found (omega (arith, r, f.blocks))

-- an accepted image adds up to its header's total, and has room
pub sums : Sums
unfolding structure
sums s len room ks e =
    let a = accepted_facts s len room ks e in
    let t : blocks_in ks ≡ total_blocks s =
    sym (zero-add _) ∙ walk_total s len (header_of s) (total_chunks s) (origin (header_of s)) ks zero-le a.chunks in
    record {
      counts = answer_counts s len room ks e;
      total = three_parts ks ∙ t;
      bytes = length-cells s (block_size s) ks ∙ ap (λ (n : ℕ). n * block_size s) t;
      fits = a.header.fits;
      stored = count_cells s (block_size s) ks;
    }

module _ (s : List ℕ) (len : ℕ) (ks : List Chunk) where
  -- tests that pass with some room pass with more
  passed_more : (room more : ℕ) → room ≤ more → first (header_tests s len room) ≡ 0 → first (header_tests s len more) ≡ 0
  unfolding header_tests
  passed_more room more h e =
      let t = all_fail (header_tests s len room) (tt, (tt, (tt, (tt, (tt, (tt, tt)))))) e in
      let fits : total_blocks s * block_size s ≤ more = le_trans (ltb-false room (total_blocks s * block_size s) t.1.1.1.1.1.0) h in
      rw (t.0, t.1.0, t.1.1.0, t.1.1.1.0, t.1.1.1.1.0, le-ltb more (total_blocks s * block_size s) fits)

  -- an image that is accepted for a partition is accepted for a longer one
  pub judged_more : (room more : ℕ) → room ≤ more → judged s len room ≡ accepted ks → judged s len more ≡ accepted ks
  judged_more room more h e =
      let a = accepted_facts s len room ks e in
      judged_accepted s len more (passed_more room more h (header_passed s len room ks e)) ks a.chunks a.tested

-- an accepted image has the same chunks, counts and effect for every partition with more room
pub unmoved : Unmoved
unfolding answer effect
unmoved s room more ks h e =
    let same : judged s (length s) more ≡ judged s (length s) room = judged_more s (length s) ks room more h e ∙ sym e in
    record { finding = same; counted = ap answer_for same; given = ap (effect_of s) same }

-- ---- the checksum

-- what the checksum decides
pub checksums : Checksums
checksums s len room ks passed e =
    record {
      none = λ z. judged_accepted s len room passed ks e (sum_none s ks z);
      differs = λ n d. judged_sum s len room passed ks e ∙ rw (sum_refused s ks n d);
      agrees = λ d. judged_accepted s len room passed ks e (sum_passed s ks d);
    }

-- a chunk is refused by a number up to 10
reading_most : (s : List ℕ) (len : ℕ) (h : Header) (c : Cursor) → number_of (reading s len h c) ≤ 10
unfolding reading chunk_tests
reading_most s len h c =
    unless_most (first (chunk_tests s len h c)) c.at 10 (chunk (chunk_at s h c) (next_cursor s c))
    (first_most 10 (chunk_tests s len h c) (tt, (tt, (tt, (tt, tt))))) zero-le

-- and so is a structure
walk_most : (s : List ℕ) (len : ℕ) (h : Header) (n : ℕ) (c : Cursor) → number_of (walk s len h n c) ≤ 10
unfolding walk end_tests
walk_most s len h zero c =
    unless_most (first (end_tests len h c)) c.at 10 (accepted []) (first_most 10 (end_tests len h c) (tt, (tt, tt))) zero-le
walk_most s len h (suc n) c =
    onward_most 10 (reading s len h c) (λ r. more r.0 (walk s len h n r.1)) (reading_most s len h c)
    (λ r. onward_most 10 (walk s len h n r.1) (λ ks. accepted (r.0 ∷ ks)) (walk_most s len h n r.1) (λ ks. zero-le))

-- and an image by one that no test of its checksum passes
judged_most : (m : ℕ) → 10 ≤ m → (s : List ℕ) → ((ks : List Chunk) → first (sum_tests s ks) ≤ m) → (len room : ℕ) → number_of (judged s len room) ≤ m
unfolding judged summed structure header_tests
judged_most m low s h len room =
    unless_most (first (header_tests s len room)) 0 m (summed s (structure s len))
    (le_trans (first_most 10 (header_tests s len room) (tt, (tt, (tt, (tt, (tt, (tt, tt))))))) low)
    (onward_most m (structure s len) (λ ks. unless (first (sum_tests s ks)) 24 (accepted ks))
    (le_trans (walk_most s len (header_of s) (total_chunks s) (origin (header_of s))) low)
    (λ ks. unless_most (first (sum_tests s ks)) 24 m (accepted ks) (h ks) zero-le))

-- up to 10 where none is stated
stated_most : (s : List ℕ) (len room : ℕ) → stated_checksum s ≡ 0 → number_of (judged s len room) ≤ 10
stated_most s len room z = judged_most 10 (omega arith) s (λ ks. rw (sum_none s ks z) zero-le) len room

-- so 11 cannot come
pub none_stated : NoneStated
none_stated s len room place z e = let m : 11 ≤ 10 = rw e at (stated_most s len room z) in omega arith

-- ---- the types of chunks

-- a chunk's kind says whether its type is known
pub types_told : TypesTold
unfolding chunk_at kind_of
types_told s len h c k next e = rw (chunk_facts s len h c k next e).is (go (type_at s c.at))
  where
    go : (t : ℕ) → is_known (kind_of t) ≡ (eqb t 0xCAC1 || eqb t 0xCAC2 || eqb t 0xCAC3)
    go t = each (eqb t 0xCAC1) (eqb t 0xCAC2) (eqb t 0xCAC3)
      where
        each : (x y z : Bool) → is_known (cond x Raw (cond y Fill (cond z DontCare Unknown))) ≡ (x || y || z)
        each true y z = refl
        each false true z = refl
        each false false true = refl
        each false false false = refl

-- ---- refusal numbers

reading_number : (s : List ℕ) (len : ℕ) (h : Header) (c : Cursor) → HasNumber (reading s len h c)
unfolding reading
reading_number s len h c = unless_number (first (chunk_tests s len h c)) c.at (chunk (chunk_at s h c) (next_cursor s c)) tt

walk_number : (s : List ℕ) (len : ℕ) (h : Header) (n : ℕ) (c : Cursor) → HasNumber (walk s len h n c)
unfolding walk
walk_number s len h zero c = unless_number (first (end_tests len h c)) c.at (accepted []) tt
walk_number s len h (suc n) c =
    onward_number (reading s len h c) (λ r. more r.0 (walk s len h n r.1)) (reading_number s len h c)
    (λ r. onward_number (walk s len h n r.1) (λ ks. accepted (r.0 ∷ ks)) (walk_number s len h n r.1) (λ ks. tt))

judged_number : (s : List ℕ) (len room : ℕ) → HasNumber (judged s len room)
unfolding judged summed structure
judged_number s len room =
    unless_number (first (header_tests s len room)) 0 (summed s (structure s len))
    (onward_number (structure s len) (λ ks. unless (first (sum_tests s ks)) 24 (accepted ks))
    (walk_number s len (header_of s) (total_chunks s) (origin (header_of s)))
    (λ ks. unless_number (first (sum_tests s ks)) 24 (accepted ks) tt))

-- no refusal has the number 0
pub refusal_numbers : RefusalNumbers
unfolding answer answer_for
refusal_numbers =
    record {
      chunks = reading_number;
      images = judged_number;
      answers = λ s len room. onward_number (judged s len room) (λ ks. accepted (counts_of ks)) (judged_number s len room) (λ ks. tt);
    }

-- and none has one past 11
pub last_number : LastNumber
unfolding answer answer_for sum_tests
last_number s len room =
    onward_most 11 (judged s len room) (λ ks. accepted (counts_of ks))
    (judged_most 11 (omega arith) s (λ ks. first_most 11 (sum_tests s ks) (tt, tt)) len room) (λ ks. zero-le)
