-- What a state that stands for bytes says of them: the refusal, the counts, and what is stored.
-- Assumes nothing.
use mathlib.Core.Path.{◌≡◌, refl, sym, ap, ◌∙◌}
use mathlib.Core.Bool.{Bool, true, false}
use mathlib.Core.Option.{Option}
use mathlib.Core.List.{List, [], ◌++◌, append-nil}
use Prim.Native.Nat.{ℕ, ◌+◌, ◌≤◌, ◌<◌}
use native.Mathlib.Omega.{arith}
use lib.Dec.{ltb}
use lib.ListN.{length, replicate}
use borrow.Author.Tests.{ltb-true, ltb-false, lt-ltb, le-ltb}
use Rattle.rules.specs.First.{first}
use Rattle.sparse_rules.specs.declared.Header.{Header}
use Rattle.sparse_rules.specs.declared.Chunk.{Chunk}
use Rattle.sparse_rules.specs.Header.{header_of, header_tests, total_chunks}
use Rattle.sparse_rules.specs.Walk.{end_tests, origin}
use Rattle.sparse_rules.specs.Counts.{counts_of}
use Rattle.sparse_rules.specs.Judge.{sum_tests, judged}
use Rattle.sparse_rules.specs.Answers.{answer_for, answer}
use Rattle.sparse_rules.proofs.Facts.{header_facts}
use Rattle.sparse_stream_rules.specs.declared.Pass.{Pass}
use Rattle.sparse_stream_rules.specs.Known.{passes, waits, refuses, tested, header_ends, stopped, waiting, whole, known_from, known_sum, known, passed, due_from, due, tested_number}
use Rattle.sparse_stream_rules.specs.Steps.{header_number, opened}
use Rattle.sparse_stream_rules.specs.State.{stop_or}
use Rattle.sparse_stream_rules.specs.States.{begun, answer_now}
use Rattle.sparse_stream_rules.proofs.Testing.{as_tested, AllCome, Decided, must_wait, have_run, decided, from_early, from_header, from_end}
use Rattle.sparse_stream_rules.proofs.Standing.{more_all, more_waiting, more_whole, cursor, chunks_known, Base, AtEnd, Place, in_file, at_header, in_chunk, at_end, After, goes, stops, number_is}
use Rattle.sparse_stream_rules.proofs.EveryByte.{Opening, Total, opening, shut, chunked, known_chunks, tests_run, tested-number}
use Rattle.sparse_stream_rules.proofs.Found.{finding_of, judged_known}

-- ---- the beginning

-- fewer than 28 bytes are announced
pub short_tests : (s : List ℕ) (came len room : ℕ) → len < 28 → tested came header_ends (header_tests s len room) ≡ refuses 1
unfolding header_tests
short_tests s came len room l = rw (le-ltb came 0 (omega arith), lt-ltb len 28 l)

-- no test of the header has run
pub long_tests : (s : List ℕ) (len room : ℕ) → 28 ≤ len → tested 0 header_ends (header_tests s len room) ≡ waits
unfolding header_tests
long_tests s len room l = rw (le-ltb len 28 l)

-- the first call refuses such an image
opened_short : (len room : ℕ) → len < 28 → opened (begun len room) ≡ stop_or 1 0 (begun len room) (begun len room)
unfolding opened header_number begun
opened_short len room l = rw (short_tests (replicate 28 0) 0 len room l)

-- and leaves a state of any other
opened_long : (len room : ℕ) → 28 ≤ len → opened (begun len room) ≡ begun len room
unfolding opened header_number begun
opened_long len room l = rw (long_tests (replicate 28 0) len room l)

-- the same of what is known
pub known_short : (s : List ℕ) (len room : ℕ) → len < 28 → known s len room ≡ stopped [] 1 0
unfolding known
known_short s len room l = rw (short_tests s (length s) len room l)

-- the first call's test
pub starts : (len room : ℕ) (lay : List (Option ℕ) → List ℕ) (n₀ : ℕ) → n₀ ≤ 0 → Total len room lay n₀ (opened (begun len room)) [] (lay [])
unfolding begun
starts len room lay n₀ z = go (ltb len 28) refl
  where
    go : (y : Bool) → ltb len 28 ≡ y → Total len room lay n₀ (opened (begun len room)) [] (lay [])
    go true e =
        let l = ltb-true len 28 e in
        rw (opened_short len room l) (shut (record { number = omega arith; known = λ t. known_short ([] ++ t) len room l; part = refl }))
    go false e =
        let l = ltb-false len 28 e in
        rw (opened_long len room l)
        (opening
        (record {
          told = refl;
          roomy = refl;
          came = refl;
          number = refl;
          short = omega arith;
          bytes = λ i m. absurd (omega arith);
          width = refl;
          first = refl;
          counts = refl;
          sum = refl;
          chunk = refl;
          word = refl;
          part = refl;
          late = z;
          tests = ap tested_number (long_tests [] len room l);
        }))

-- waiting goes on past the checksum
summed_waiting : (s : List ℕ) (ks : List Chunk) → known_sum s (waiting ks) ≡ waiting ks
unfolding known_sum
summed_waiting s ks = refl

-- before the known fields have come, all waits
header_decided : (s : List ℕ) (len room : ℕ) → tested_number (tested (length s) header_ends (header_tests s len room)) ≡ 0
    → Decided (length s) header_ends (header_tests s len room)
unfolding header_tests
header_decided s len room e = decided (length s) header_ends (header_tests s len room) tt (tt, (tt, (tt, (tt, (tt, (tt, tt)))))) e

-- the header has come, and its tests have passed
header_come : (s : List ℕ) (len room : ℕ) → AllCome (length s) header_ends (header_tests s len room) → 20 ≤ length s
unfolding header_tests
header_come s len room a = a.1.1.1.1.1.0

-- what is known before the header has come
pub opening_known : (s : List ℕ) (len room : ℕ) → length s < 28 → tested_number (tested (length s) header_ends (header_tests s len room)) ≡ 0
    → known s len room ≡ waiting []
unfolding known
opening_known s len room l e = go (header_decided s len room e)
  where
    go : Decided (length s) header_ends (header_tests s len room) → known s len room ≡ waiting []
    go (must_wait v) = rw v
    go (have_run v a) =
        let r : as_tested (first (header_tests s len room)) ≡ passes = sym (tests_run s (length s) len room (header_come s len room a)) ∙ v in
        let z : first (header_tests s len room) ≡ 0 = sym (tested-number (first (header_tests s len room))) ∙ ap tested_number r in
        let f = header_facts s len room z in
        rw v
        (ap (known_sum s) (from_early s len (header_of s) (total_chunks s) (origin (header_of s)) (omega (arith, f.start_least))) ∙ summed_waiting s [])

-- ---- what a state says

-- of the bytes that have come: refused so, or not refused with these chunks passed; and so much is due
pub data Says (len room : ℕ) (s : List ℕ) (x : Pass) : Type 0 where
  refusal : (ks : List Chunk) → 0 < x.refusal.number → known s len room ≡ stopped ks x.refusal.number x.refusal.place
      → Says len room s x
  more : (ks : List Chunk) → x.refusal.number ≡ 0 → length s < len → known s len room ≡ waiting ks → Says len room s x
  done : (ks : List Chunk) → x.refusal.number ≡ 0 → length s ≡ len → known s len room ≡ whole ks → counts_of ks ≡ x.walk.counts
      → Says len room s x

-- a whole image, by the number of the checksum's test
summed_whole : (s : List ℕ) (ks : List Chunk) → first (sum_tests s ks) ≡ 0 → known_sum s (whole ks) ≡ whole ks
unfolding known_sum
summed_whole s ks e = rw e

module _ (len room : ℕ) (lay : List (Option ℕ) → List ℕ) (n₀ : ℕ) (x : Pass) (s q : List ℕ) (least : length s ≤ len) where
  module _ (h : Header) (long : 28 ≤ length s) (same : header_of s ≡ h) (tests : first (header_tests s len room) ≡ 0) (twelve : 12 ≤ h.head) where
    all : known s len room ≡ known_sum s (chunks_known len room lay n₀ h s)
    all = known_chunks s len room lay n₀ h long tests same

    here : (ks : List Chunk) → Base len room lay n₀ h x s q ks
        → chunks_known len room lay n₀ h s ≡ more_all ks (known_from s len h x.walk.left (cursor x))
    here ks b = rw (append-nil s) at (b.rest [])

    waits_so : (ks : List Chunk) → Base len room lay n₀ h x s q ks → known_from s len h x.walk.left (cursor x) ≡ waiting []
        → known s len room ≡ waiting ks
    waits_so ks b e = all ∙ ap (known_sum s) (here ks b ∙ ap (more_all ks) e ∙ more_waiting ks) ∙ summed_waiting s ks

    end_whole : (ks : List Chunk) → Base len room lay n₀ h x s q ks → AtEnd len room lay n₀ h x s ks → known s len room ≡ whole ks
    unfolding end_tests
    end_whole ks b i =
        let w : known_from s len h x.walk.left (cursor x) ≡ whole [] =
        rw i.left
        (from_end s len h (cursor x) (omega (arith, i.here)) ∙ rw (le-ltb x.walk.next.first h.total i.full, le-ltb x.walk.next.at len (omega (arith, i.here, i.end))))
        in
        let c : first (sum_tests s ks) ≡ 0 = number_is len room lay n₀ h x s q ks b i.here i.complete ∙ rw i.checks in
        all ∙ ap (known_sum s) (here ks b ∙ ap (more_all ks) w ∙ more_whole ks) ∙ summed_whole s ks c

    says_after : After len room lay n₀ h x s q → Says len room s x
    says_after (stops ks t) = refusal ks t.number (all ∙ (rw (append-nil s) at (t.known [] (omega arith))))
    says_after (goes ks b (in_file i)) =
        more ks b.number (omega (arith, i.before, b.inside))
        (waits_so ks b (from_early s len h x.walk.left (cursor x) i.before))
    says_after (goes ks b (at_header i)) =
        more ks b.number (omega (arith, i.near, i.fits))
        (waits_so ks b (from_header s len h x.walk.left (cursor x) i.left i.here i.near i.fits))
    says_after (goes ks b (in_chunk i)) =
        more ks b.number (omega (arith, i.before, b.inside))
        (waits_so ks b (from_early s len h x.walk.left (cursor x) i.before))
    says_after (goes ks b (at_end i)) = done ks b.number i.end (end_whole ks b i) b.counts

    due_is : (ks : List Chunk) → passed (known s len room) ≡ ks → due s len room ≡ due_from s h.block ks
    unfolding due
    due_is ks e = rw e (ap (λ (o : Header). due_from s o.block ks) same)

    passed_is : (ks : List Chunk) → Base len room lay n₀ h x s q ks → Place len room lay n₀ h x s ks → passed (known s len room) ≡ ks
    passed_is ks b (in_file i) = ap passed (waits_so ks b (from_early s len h x.walk.left (cursor x) i.before))
    passed_is ks b (at_header i) =
        ap passed (waits_so ks b (from_header s len h x.walk.left (cursor x) i.left i.here i.near i.fits))
    passed_is ks b (in_chunk i) = ap passed (waits_so ks b (from_early s len h x.walk.left (cursor x) i.before))
    passed_is ks b (at_end i) = ap passed (end_whole ks b i)

    -- what is due of the bytes that have come
    pub due_goes : (ks : List Chunk) → Base len room lay n₀ h x s q ks → Place len room lay n₀ h x s ks
        → due s len room ≡ due_from s h.block ks
    due_goes ks b i = due_is ks (passed_is ks b i)

    stored_after : After len room lay n₀ h x s q → q ≡ lay (due s len room)
    stored_after (stops ks t) =
        let e : known s len room ≡ stopped ks x.refusal.number x.refusal.place = all
        ∙ (rw (append-nil s) at (t.known [] (omega arith))) in
        t.part ∙ ap lay (sym (due_is ks (ap passed e)))
    stored_after (goes ks b i) = b.part ∙ ap lay (sym (due_goes ks b i))

  -- before the known fields have come
  pub opening_waits : Opening len room lay n₀ x s q → known s len room ≡ waiting []
  opening_waits o = opening_known s len room o.short o.tests

  opening_less : Opening len room lay n₀ x s q → length s < len
  opening_less o = go (ltb len 28) refl
    where
      go : (y : Bool) → ltb len 28 ≡ y → length s < len
      go true e =
          let z : tested_number (refuses 1) ≡ 0 = sym (ap tested_number (short_tests s (length s) len room (ltb-true len 28 e)))
          ∙ o.tests in absurd (omega arith)
      go false e = omega (arith, ltb-false len 28 e, o.short)

  -- nothing is due before a chunk is known
  pub due_none : passed (known s len room) ≡ [] → due s len room ≡ []
  unfolding due due_from
  due_none e = rw e

  -- what a state says of the bytes that it stands for
  pub says : Total len room lay n₀ x s q → Says len room s x
  says (opening o) = more [] o.number (opening_less o) (opening_waits o)
  says (shut t) = refusal [] t.number (rw (append-nil s) at (t.known []))
  says (chunked c) = says_after c.h c.long c.same c.tests c.facts.head_least c.after

  -- and what is stored
  pub stored : Total len room lay n₀ x s q → q ≡ lay (due s len room)
  stored (opening o) = o.part ∙ ap lay (sym (due_none (ap passed (opening_waits o))))
  stored (shut t) = t.part ∙ ap lay (sym (due_none (ap passed (rw (append-nil s) at (t.known [])))))
  stored (chunked c) = stored_after c.h c.long c.same c.tests c.facts.head_least c.after

-- ---- the answer of a state that has known all

-- a state without a refusal stands for bytes that are not refused
number_not : (len room : ℕ) (s : List ℕ) (x : Pass) → Says len room s x → length s ≡ len → answer_now x ≡ answer s len room
unfolding answer_now answer answer_for
number_not len room s x (refusal ks n e) l =
    let j : finding_of (known s len room) ≡ judged s len room = rw l at (judged_known s room) in
    rw (lt-ltb 0 x.refusal.number n, ← j, e)
number_not len room s x (more ks n m e) l = absurd (omega arith)
number_not len room s x (done ks n m e c) l =
    let j : finding_of (known s len room) ≡ judged s len room = rw l at (judged_known s room) in
    rw (n, ← j, e, c)

-- the judge's
pub answered : (len room : ℕ) (lay : List (Option ℕ) → List ℕ) (n₀ : ℕ) (x : Pass) (s q : List ℕ) → length s ≡ len
    → Total len room lay n₀ x s q → answer_now x ≡ answer s len room
answered len room lay n₀ x s q l t = number_not len room s x (says len room lay n₀ x s q (omega arith) t) l
