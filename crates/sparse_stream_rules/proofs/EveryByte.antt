-- The machine agrees with what is known, byte after byte.
-- Assumes nothing.
use mathlib.Core.Path.{◌≡◌, refl, sym, ap, ap₂, ◌∙◌}
use mathlib.Core.Bool.{Bool, true, false}
use mathlib.Core.Option.{Option, none}
use mathlib.Core.List.{List, [], ◌∷◌, ◌++◌, append-nil, append_assoc}
use Prim.Native.Nat.{ℕ, zero, suc, ◌+◌, ◌^◌, ◌≤◌, ◌<◌}
use native.Mathlib.Omega.{arith}
use lib.Dec.{ltb, eqb}
use lib.ListN.{length, get_or, set, replicate, length-append, length-set, get_or-append, get_or-eq_default}
use borrow.Author.Tests.{ltb-true, ltb-false, eqb-true, eqb-false, lt-ltb, le-ltb, lt-leb}
use Rattle.rules.specs.First.{first}
use Rattle.fields_rules.specs.Number.{number_at}
use Rattle.fields_rules.proofs.Laws.{number_bound}
use Rattle.crc32_rules.specs.Crc.{all_ones}
use Rattle.sparse_rules.specs.declared.Header.{Header}
use Rattle.sparse_rules.specs.declared.Kind.TheVariants.{Unknown}
use Rattle.sparse_rules.specs.declared.Chunk.{Chunk}
use Rattle.sparse_rules.specs.Header.{header_of, header_tests}
use Rattle.sparse_rules.specs.Chunks.{kind_of}
use Rattle.sparse_rules.specs.Walk.{origin}
use Rattle.sparse_rules.specs.Cells.{zeroed}
use Rattle.sparse_rules.specs.Counts.{no_counts}
use Rattle.sparse_rules.specs.Facts.{HeaderFacts}
use Rattle.sparse_rules.proofs.Facts.{header_facts}
use Rattle.sparse_rules.proofs.Counting.{counts_none}
use Rattle.sparse_stream_rules.specs.declared.Pass.{Pass}
use Rattle.sparse_stream_rules.specs.Known.{Tested, passes, waits, refuses, tested, header_ends, stopped, known_from, known_sum, known, due_from, due, tested_number}
use Rattle.sparse_stream_rules.specs.State.{head_of, kind_now, stuck, stop_or}
use Rattle.sparse_stream_rules.specs.Steps.{header_number, head_kept, ready, ready_if, headed, settled, stepped, fed}
use Rattle.sparse_stream_rules.specs.Laid.{laid_by, stores}
use Rattle.sparse_stream_rules.proofs.Stretches.{step_stuck, step_head, lays_stuck, data_not_yet, lays_none}
use Rattle.sparse_stream_rules.proofs.Testing.{as_tested, tested_agree, tested_all, tested_stays, header_agree}
use Rattle.sparse_rules.proofs.Longer.{header_same, tests_stay}
use Rattle.sparse_stream_rules.proofs.Sums.{sum_on_nil}
use Rattle.sparse_stream_rules.proofs.Standing.{Laying, chunks_known, Base, in_file, at_header, in_chunk, at_end, Stop, After, goes, stops, settles}
use Rattle.sparse_stream_rules.proofs.OneByte.{headers, kept_is, file_step, chunk_step}
use Rattle.sparse_stream_rules.proofs.ChunkHeader.{header_step}

-- ---- the header's tests

-- once 20 bytes have come, all tests of the header run
pub tests_run : (s : List ℕ) (came len room : ℕ) → 20 ≤ came
    → tested came header_ends (header_tests s len room) ≡ as_tested (first (header_tests s len room))
unfolding header_tests
tests_run s came len room l =
    tested_all came header_ends (header_tests s len room)
    (omega arith, (omega arith, (omega arith, (omega arith, (omega arith, (omega arith, tt)))))) (tt, (tt, (tt, (tt, (tt, (tt, tt))))))

-- what is known where the header passes
pub known_chunks : (s : List ℕ) (len room : ℕ) (lay : List (Option ℕ) → List ℕ) (n₀ : ℕ) (h : Header) → 28 ≤ length s
    → first (header_tests s len room) ≡ 0 → header_of s ≡ h
    → known s len room ≡ known_sum s (chunks_known len room lay n₀ h s)
unfolding known
known_chunks s len room lay n₀ h l e g =
    rw (tests_run s (length s) len room (omega arith), e) (ap (λ (o : Header). known_sum s (known_from s len o o.chunks (origin o))) g)

-- the number of a test that has run
pub tested-number : (m : ℕ) → tested_number (as_tested m) ≡ m
tested-number zero = refl
tested-number (suc m) = refl

-- a number that is not 0 refuses
number_refuses : (y : Tested) (n : ℕ) → tested_number y ≡ suc n → y ≡ refuses (suc n)
number_refuses passes n e = let z : ◌≡◌ {A = ℕ} 0 1 = absurd (omega arith) in absurd (omega arith)
number_refuses waits n e = absurd (omega arith)
number_refuses (refuses m) n e = rw e

-- the bytes of a list's beginning are small where all are
pub small_front : (u t : List ℕ) → ((i : ℕ) → get_or (u ++ t) i 0 < 256) → (i : ℕ) → get_or u i 0 < 256
small_front u t g i = go (ltb i (length u)) refl
  where
    go : (z : Bool) → ltb i (length u) ≡ z → get_or u i 0 < 256
    go true e = rw (← (get_or-append u t 0 i (ltb-true i (length u) e))) (g i)
    go false e = let v : length u ≤ i = ltb-false i (length u) e in rw (get_or-eq_default u 0 v) (omega arith)

module _ (len room : ℕ) (lay : List (Option ℕ) → List ℕ) (n₀ : ℕ) where
  -- a state that stands for less than the known fields of the file header
  pub record Opening (x : Pass) (s q : List ℕ) : Type 0 where
    pub told : x.told.length ≡ len
    pub roomy : x.told.room ≡ room
    pub came : x.come.bytes ≡ length s
    pub number : x.refusal.number ≡ 0
    pub short : length s < 28
    pub bytes : (i : ℕ) → i < length s → get_or x.kept.file i 0 ≡ get_or s i 0
    pub width : length x.kept.file ≡ 28
    pub first : x.walk.next.first ≡ 0
    pub counts : x.walk.counts ≡ no_counts
    pub sum : x.come.sum ≡ all_ones
    pub chunk : x.kept.chunk ≡ replicate 12 0
    pub word : x.kept.word ≡ replicate 4 0
    pub part : q ≡ lay []
    pub late : n₀ ≤ 0
    pub tests : tested_number (tested (length s) header_ends (header_tests s len room)) ≡ 0

  -- one that was refused by the header's tests
  pub record Shut (x : Pass) (s q : List ℕ) : Type 0 where
    pub number : 0 < x.refusal.number
    pub known : (t : List ℕ) → known (s ++ t) len room ≡ stopped [] x.refusal.number x.refusal.place
    pub part : q ≡ lay []

  -- one whose header passed
  pub record Chunked (x : Pass) (s q : List ℕ) : Type 0 where
    pub h : Header
    pub facts : HeaderFacts h len room
    pub most : h.total < 2 ^ 32
    pub long : 28 ≤ length s
    pub same : header_of s ≡ h
    pub tests : first (header_tests s len room) ≡ 0
    pub after : After len room lay n₀ h x s q

  pub data Total (x : Pass) (s q : List ℕ) : Type 0 where
    opening : Opening x s q → Total x s q
    shut : Shut x s q → Total x s q
    chunked : Chunked x s q → Total x s q

  -- ---- a byte of the known fields

  module _ (law : Laying room lay n₀) where
    module _ (x : Pass) (s q : List ℕ) (o : Opening x s q) (b : ℕ) where
      longer : length (s ++ (b ∷ [])) ≡ length s + 1
      longer = length-append s (b ∷ [])

      bytes_are : (i : ℕ) → i < length (s ++ (b ∷ [])) → get_or (set x.kept.file x.come.bytes b) i 0 ≡ get_or (s ++ (b ∷ [])) i 0
      bytes_are i l =
          kept_is x.kept.file s b 0 i x.come.bytes (omega (arith, o.came)) (omega arith)
          (omega (arith, o.width, o.came, o.short)) (λ m. rw zero (o.bytes i (omega arith))) (omega (arith, longer))
          ∙ rw zero
        where
          zero : 0 + i ≡ i
          zero = omega arith

      number_is : header_number (set x.kept.file x.come.bytes b) (x.come.bytes + 1) x.told.length x.told.room ≡ tested_number (tested (length (s ++ (b ∷ []))) header_ends (header_tests (s ++ (b ∷ [])) len room))
      unfolding header_number
      number_is =
          let c : x.come.bytes + 1 ≡ length (s ++ (b ∷ [])) = omega (arith, longer, o.came) in
          rw (o.told, o.roomy, c)
          (ap tested_number (tested_agree (length (s ++ (b ∷ []))) header_ends (header_tests (set x.kept.file x.come.bytes b) len room) (header_tests (s ++ (b ∷ [])) len room) (header_agree (set x.kept.file x.come.bytes b) (s ++ (b ∷ [])) (length (s ++ (b ∷ []))) len room (λ i l m. bytes_are i l))))

      refused : (n : ℕ) → tested_number (tested (length (s ++ (b ∷ []))) header_ends (header_tests (s ++ (b ∷ [])) len room)) ≡ suc n
          → (t : List ℕ) → known ((s ++ (b ∷ [])) ++ t) len room ≡ stopped [] (suc n) 0
      unfolding known
      refused n e t =
          let r : tested (length (s ++ (b ∷ []))) header_ends (header_tests (s ++ (b ∷ [])) len room) ≡ refuses (suc n) =
          number_refuses _ n e in
          let g : tested (length (s ++ (b ∷ []))) header_ends (header_tests ((s ++ (b ∷ [])) ++ t) len room) ≡ refuses (suc n) =
          tested_agree (length (s ++ (b ∷ []))) header_ends (header_tests ((s ++ (b ∷ [])) ++ t) len room)
          (header_tests (s ++ (b ∷ [])) len room)
          (header_agree ((s ++ (b ∷ [])) ++ t) (s ++ (b ∷ [])) (length (s ++ (b ∷ []))) len room (λ i l m. get_or-append (s ++ (b ∷ [])) t 0 i l))
          ∙ r in
          let m : length (s ++ (b ∷ [])) ≤ length ((s ++ (b ∷ [])) ++ t) = rw (length-append (s ++ (b ∷ [])) t) (omega arith) in
          rw
          (tested_stays (length (s ++ (b ∷ []))) (length ((s ++ (b ∷ [])) ++ t)) m (suc n) header_ends (header_tests ((s ++ (b ∷ [])) ++ t) len room) g)

      -- the known fields have come
      module _ (none : tested_number (tested (length (s ++ (b ∷ []))) header_ends (header_tests (s ++ (b ∷ [])) len room)) ≡ 0) (all : length (s ++ (b ∷ [])) ≡ 28) (small : (i : ℕ) → get_or (s ++ (b ∷ [])) i 0 < 256) where
        passed_all : first (header_tests (s ++ (b ∷ [])) len room) ≡ 0
        passed_all =
            sym (tested-number _) ∙ sym (ap tested_number (tests_run (s ++ (b ∷ [])) (length (s ++ (b ∷ []))) len room (omega arith))) ∙ none

        abbrev h : Header
        h = header_of (s ++ (b ∷ []))

        facts : HeaderFacts h len room
        facts = header_facts (s ++ (b ∷ [])) len room passed_all

        head : head_of (ready (head_kept x b)) ≡ h
        head = header_same (set x.kept.file x.come.bytes b) (s ++ (b ∷ [])) (λ i l. bytes_are i (omega arith))

        start_is : (ready (head_kept x b)).walk.next.at ≡ h.start
        start_is = ap (λ (k : Header). k.start) head

        base : Base len room lay n₀ h (ready (head_kept x b)) (s ++ (b ∷ [])) q []
        unfolding due_from zeroed
        base =
            record {
              told = o.told;
              came = omega (arith, longer, o.came);
              number = o.number;
              long = omega arith;
              head = head;
              same = refl;
              rest =
                  λ t. ap₂
                  (λ (k : Header) (n : ℕ). known_from ((s ++ (b ∷ [])) ++ t) len h k.chunks (record { at = k.start; first = n }))
                  (sym head) (sym o.first);
              counts = counts_none ∙ sym o.counts;
              blocks = sym o.first;
              within = rw o.first (omega arith);
              inside = omega (arith, start_is, facts.start_inside);
              sum = o.sum ∙ sym (sum_on_nil h all_ones);
              part = o.part;
              late = o.late;
              wide = ap length o.chunk;
              four = ap length o.word;
            }

        unknown : kind_now (ready (head_kept x b)) ≡ Unknown
        unfolding kind_of number_at
        unknown = rw o.chunk

        begins : Total (settled (ready (head_kept x b))) (s ++ (b ∷ [])) q
        begins =
            chunked
            (record {
              h = h;
              facts = facts;
              most = number_bound (s ++ (b ∷ [])) small 16 4;
              long = omega arith;
              same = refl;
              tests = passed_all;
              after =
                  settles len room lay n₀ h (ready (head_kept x b)) (s ++ (b ∷ [])) q [] base (omega (arith, start_is, facts.start_least))
                  (λ e. tt) (λ l. in_file (record { before = l; none = refl; kind = unknown }));
            })

      opened_by : (n : ℕ) → tested_number (tested (length (s ++ (b ∷ []))) header_ends (header_tests (s ++ (b ∷ [])) len room)) ≡ n
          → ((i : ℕ) → get_or (s ++ (b ∷ [])) i 0 < 256)
          → (z : Bool) → eqb (x.come.bytes + 1) 28 ≡ z → Total (stop_or n 0 (head_kept x b) (ready_if z (head_kept x b))) (s ++ (b ∷ [])) q
      opened_by (suc n) e small z f = shut (record { number = omega arith; known = refused n e; part = o.part })
      opened_by zero e small true f = begins e (omega (arith, longer, o.came, eqb-true (x.come.bytes + 1) 28 f)) small
      opened_by zero e small false f =
          let g : x.come.bytes + 1 ≡ 28 → ⊥ = eqb-false (x.come.bytes + 1) 28 f in
          opening
          (record {
            told = o.told;
            roomy = o.roomy;
            came = omega (arith, longer, o.came);
            number = o.number;
            short = omega (arith, longer, o.came, o.short);
            bytes = bytes_are;
            width = length-set x.kept.file x.come.bytes b ∙ o.width;
            first = o.first;
            counts = o.counts;
            sum = o.sum;
            chunk = o.chunk;
            word = o.word;
            part = o.part;
            late = o.late;
            tests = e;
          })

      free : stuck x ≡ false
      unfolding stuck
      free = rw (le-ltb 0 x.refusal.number (omega (arith, o.number)), lt-leb 28 x.come.bytes (omega (arith, o.came, o.short)))

      opening_step : ((i : ℕ) → get_or (s ++ (b ∷ [])) i 0 < 256) → Total (stepped x b) (s ++ (b ∷ [])) (laid_by x b q)
      unfolding headed
      opening_step small =
          let l : x.come.bytes < 28 = omega (arith, o.came, o.short) in
          rw (step_head x b free l, lays_none x b q (data_not_yet x l), number_is)
          (opened_by (tested_number (tested (length (s ++ (b ∷ []))) header_ends (header_tests (s ++ (b ∷ [])) len room))) refl small (eqb (x.come.bytes + 1) 28) refl)

    -- ---- every byte

    stuck_by : (x : Pass) → 0 < x.refusal.number → stuck x ≡ true
    unfolding stuck
    stuck_by x h = rw (lt-ltb 0 x.refusal.number h)

    module _ (x : Pass) (s q : List ℕ) (b : ℕ) where
      stopped_step : (h : Header) (ks : List Chunk) → Stop len room lay n₀ h x s q ks
          → After len room lay n₀ h (stepped x b) (s ++ (b ∷ [])) (laid_by x b q)
      stopped_step h ks t =
          let e = stuck_by x t.number in
          rw (step_stuck x b e, lays_stuck x b q e)
          (stops ks
          (record {
            number = t.number;
            known = λ u l. rw (append_assoc s (b ∷ []) u) (t.known (b ∷ u) (omega (arith, l, length-append s (b ∷ []))));
            due = λ u. rw (append_assoc s (b ∷ []) u) (t.due (b ∷ u) ∙ sym (t.due (b ∷ [])));
            part = t.part ∙ ap lay (sym (t.due (b ∷ [])));
          }))

      after_step : (h : Header) → HeaderFacts h len room → h.total < 2 ^ 32 → After len room lay n₀ h x s q → length s < len
          → ((i : ℕ) → get_or (s ++ (b ∷ [])) i 0 < 256)
          → After len room lay n₀ h (stepped x b) (s ++ (b ∷ [])) (laid_by x b q)
      after_step h f m (stops ks t) l small = stopped_step h ks t
      after_step h f m (goes ks base (in_file i)) l small = file_step len room lay n₀ h f law m x s q ks base b i
      after_step h f m (goes ks base (at_header i)) l small = header_step len room lay n₀ h f law m x s q ks base i b
      after_step h f m (goes ks base (in_chunk i)) l small = chunk_step len room lay n₀ h f law m x s q ks base b i small
      after_step h f m (goes ks base (at_end i)) l small = absurd (omega (arith, i.end))

      pub total_step : Total x s q → length s < len → ((i : ℕ) → get_or (s ++ (b ∷ [])) i 0 < 256)
          → Total (stepped x b) (s ++ (b ∷ [])) (laid_by x b q)
      total_step (opening o) l small = opening_step x s q o b small
      total_step (shut t) l small =
          let e = stuck_by x t.number in
          rw (step_stuck x b e, lays_stuck x b q e)
          (shut (record { number = t.number; known = λ u. rw (append_assoc s (b ∷ []) u) (t.known (b ∷ u)); part = t.part }))
      total_step (chunked c) l small =
          chunked
          (record {
            h = c.h;
            facts = c.facts;
            most = c.most;
            long = rw (length-append s (b ∷ [])) (omega (arith, c.long));
            same = headers s (b ∷ []) c.long ∙ c.same;
            tests = ap first (tests_stay s (b ∷ []) len room c.long) ∙ c.tests;
            after = after_step c.h c.facts c.most c.after l small;
          })

    -- bytes, one after the other
    pub total : (ys : List ℕ) (x : Pass) (s q : List ℕ) → Total x s q → length s + length ys ≤ len → ((i : ℕ) → get_or (s ++ ys) i 0 < 256)
        → Total (fed x ys) (s ++ ys) (stores x ys q)
    unfolding fed stores
    total [] x s q t l small = rw (append-nil s) t
    total (b ∷ ys) x s q t l small =
        let e : (s ++ (b ∷ [])) ++ ys ≡ s ++ (b ∷ ys) = append_assoc s (b ∷ []) ys in
        let here : (i : ℕ) → get_or (s ++ (b ∷ [])) i 0 < 256 = small_front (s ++ (b ∷ [])) ys (rw e small) in
        rw (← e)
        (total ys (stepped x b) (s ++ (b ∷ [])) (laid_by x b q) (total_step x s q b t (omega arith) here) (rw (length-append s (b ∷ [])) (omega arith)) (rw e small))
