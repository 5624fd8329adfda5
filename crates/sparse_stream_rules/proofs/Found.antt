-- Once all has come, what is known is what the judge finds.
-- Assumes nothing.
use mathlib.Core.Path.{◌≡◌, refl, ap, ◌∙◌}
use mathlib.Core.Bool.{Bool, true, false}
use mathlib.Core.List.{List, []}
use Prim.Native.Nat.{ℕ, zero, suc, ◌+◌, ◌≤◌, ◌<◌}
use native.Mathlib.Omega.{arith}
use lib.Dec.{ltb}
use lib.ListN.{length}
use borrow.Author.Tests.{ltb-true, ltb-false, lt-ltb, le-ltb}
use Rattle.rules.specs.First.{first}
use Rattle.sparse_rules.specs.declared.Header.{Header}
use Rattle.sparse_rules.specs.declared.Cursor.{Cursor}
use Rattle.sparse_rules.specs.declared.Chunk.{Chunk}
use Rattle.sparse_rules.specs.Header.{header_of, header_tests, total_chunks}
use Rattle.sparse_rules.specs.Chunks.{chunk_tests, chunk_at, next_cursor, reading, chunk}
use Rattle.sparse_rules.specs.Walk.{end_tests, Finding, more, walk, origin}
use Rattle.rules.specs.Answer.{refused, accepted, unless, onward}
use Rattle.sparse_rules.specs.Judge.{sum_tests, summed, structure, judged}
use Rattle.sparse_rules.proofs.Facts.{header_facts, chunk_facts, read_short, read_passed, read_refused}
use Rattle.sparse_stream_rules.specs.Known.{tested, header_ends, Known, stopped, waiting, whole, when_tested, more_known, known_from, sum_known, known_sum, known}
use Rattle.sparse_stream_rules.proofs.Testing.{as_tested, from_short, from_chunk, from_end}
use Rattle.sparse_stream_rules.proofs.EveryByte.{tests_run}

-- what is known, as a finding; one that waits is none
abbrev pub finding_of : Known → Finding
finding_of (stopped ks n place) = refused n place
finding_of (waiting ks) = refused 0 0
finding_of (whole ks) = accepted ks

-- a chunk more
finding_with : (k : Chunk) (v : Known) → finding_of (more_known k v) ≡ more k (finding_of v)
finding_with k (stopped ks n place) = refl
finding_with k (waiting ks) = refl
finding_with k (whole ks) = refl

-- the checksum
finding_sum : (s : List ℕ) (v : Known) → finding_of (known_sum s v) ≡ summed s (finding_of v)
unfolding known_sum summed
finding_sum s (stopped ks n place) = refl
finding_sum s (waiting ks) = refl
finding_sum s (whole ks) = go (first (sum_tests s ks))
  where
    go : (n : ℕ) → finding_of (sum_known n ks) ≡ unless n 24 (accepted ks)
    go zero = refl
    go (suc n) = refl

-- tests that have all run
finding_tested : (n place : ℕ) (v : Known) (g : Finding) → (n ≡ 0 → finding_of v ≡ g)
    → finding_of (when_tested (as_tested n) place v) ≡ unless n place g
finding_tested zero place v g e = e refl
finding_tested (suc n) place v g e = refl

module _ (s : List ℕ) (h : Header) (least : 12 ≤ h.head) where
  pub once : (n : ℕ) (c : Cursor) → c.at ≤ length s → finding_of (known_from s (length s) h n c) ≡ walk s (length s) h n c
  unfolding walk
  once zero c l =
      ap finding_of (from_end s (length s) h c l)
      ∙ finding_tested (first (end_tests (length s) h c)) c.at (whole []) (accepted []) (λ e. refl)
  once (suc n) c l = go (ltb (length s) (c.at + h.head)) refl (first (chunk_tests s (length s) h c)) refl (once n (next_cursor s c))
    where
      go : (y : Bool) → ltb (length s) (c.at + h.head) ≡ y → (m : ℕ) → first (chunk_tests s (length s) h c) ≡ m
          → ((next_cursor s c).at ≤ length s → finding_of (known_from s (length s) h n (next_cursor s c)) ≡ walk s (length s) h n (next_cursor s c))
          → finding_of (known_from s (length s) h (suc n) c) ≡ onward (reading s (length s) h c) (λ r. more r.0 (walk s (length s) h n r.1))
      go true e m f i =
          let o : length s < c.at + h.head = ltb-true _ _ e in
          rw (from_short s (length s) h (suc n) c (omega arith) l o, read_short s (length s) h c o)
      go false e zero f i =
          let o : c.at + h.head ≤ length s = ltb-false _ _ e in
          let r : reading s (length s) h c ≡ chunk (chunk_at s h c) (next_cursor s c) = read_passed s (length s) h c f in
          let g = chunk_facts s (length s) h c (chunk_at s h c) (next_cursor s c) r in
          rw (from_chunk s (length s) h n c (omega arith), f, r)
          (finding_with (chunk_at s h c) (known_from s (length s) h n (next_cursor s c)) ∙ ap (more (chunk_at s h c)) (i g.inside))
      go false e (suc m) f i =
          let o : c.at + h.head ≤ length s = ltb-false _ _ e in
          rw (from_chunk s (length s) h n c (omega arith), f, read_refused s (length s) h c (rw f (omega arith)), f)

-- a short image is refused by the first test
tests_short : (s : List ℕ) (room : ℕ) → length s < 28
    → tested (length s) header_ends (header_tests s (length s) room) ≡ as_tested (first (header_tests s (length s) room))
unfolding header_tests
tests_short s room l = rw (le-ltb (length s) 0 (omega arith), lt-ltb (length s) 28 l)

-- the header's tests of a whole image
tests_whole : (s : List ℕ) (room : ℕ)
    → tested (length s) header_ends (header_tests s (length s) room) ≡ as_tested (first (header_tests s (length s) room))
tests_whole s room = go (ltb (length s) 28) refl
  where
    go : (y : Bool) → ltb (length s) 28 ≡ y
        → tested (length s) header_ends (header_tests s (length s) room) ≡ as_tested (first (header_tests s (length s) room))
    go true e = tests_short s room (ltb-true _ _ e)
    go false e = tests_run s (length s) (length s) room (omega (arith, ltb-false (length s) 28 e))

-- once all has come, what is known is what the judge finds
pub judged_known : (s : List ℕ) (room : ℕ) → finding_of (known s (length s) room) ≡ judged s (length s) room
unfolding known judged structure
judged_known s room =
    rw (tests_whole s room)
    (finding_tested (first (header_tests s (length s) room)) 0 (known_sum s (known_from s (length s) (header_of s) (total_chunks s) (origin (header_of s))))
    (summed s (walk s (length s) (header_of s) (total_chunks s) (origin (header_of s))))
    (λ e. let f = header_facts s (length s) room e in
    finding_sum s (known_from s (length s) (header_of s) (total_chunks s) (origin (header_of s)))
    ∙ ap (summed s) (once s (header_of s) f.head_least (total_chunks s) (origin (header_of s)) f.start_inside)))
