-- A byte of a chunk's header.
-- Assumes nothing.
use mathlib.Core.Path.{◌≡◌, refl, sym, ap, ap₂, ◌∙◌}
use mathlib.Core.Bool.{Bool, true, false, not}
use mathlib.Core.Option.{Option, none}
use mathlib.Core.List.{List, [], ◌∷◌, ◌++◌, append-nil, append_assoc}
use Prim.Native.Nat.{ℕ, zero, suc, ◌+◌, ◌-◌, ◌*◌, ◌^◌, ◌≤◌, ◌<◌}
use native.Mathlib.Omega.{arith}
use lib.Dec.{ltb, eqb}
use lib.ListN.{length, get_or, set, replicate, length-append, length-set, get_or-append}
use borrow.Author.Tests.{ltb-false, eqb-true, eqb-false, le-ltb, not-false}
use Rattle.rules.specs.First.{first}
use Rattle.rules.proofs.Tests.{all_fail}
use Rattle.fields_rules.specs.Number.{number_at}
use Rattle.crc32_rules.specs.Crc.{all_ones}
use Rattle.sparse_rules.specs.declared.Header.{Header}
use Rattle.sparse_rules.specs.declared.Cursor.{Cursor}
use Rattle.sparse_rules.specs.declared.Kind.{Kind}
use Rattle.sparse_rules.specs.declared.Kind.TheVariants.{Raw, Fill, DontCare, Unknown}
use Rattle.sparse_rules.specs.declared.Chunk.{Chunk}
use Rattle.sparse_rules.specs.declared.Counts.{Counts}
use Rattle.sparse_rules.specs.Chunks.{kind_of, size_right, chunk_tests, chunk_at, next_cursor}
use Rattle.sparse_rules.specs.Cells.{zeroed, cells_by}
use Rattle.sparse_rules.specs.Counts.{writes, counts_of, counted_on}
use Rattle.sparse_rules.specs.Facts.{HeaderFacts, data_bytes, Complete}
use Rattle.sparse_rules.proofs.Facts.{size_holds, data_one, size_exact}
use Rattle.sparse_rules.proofs.Cells.{zeroed_append, zeroed_none}
use Rattle.sparse_rules.proofs.Counting.{blocks_one, counted-on}
use Rattle.sparse_store_rules.proofs.Over.{laid_kept}
use Rattle.sparse_stream_rules.specs.declared.Pass.{Pass}
use Rattle.sparse_stream_rules.specs.Known.{when_tested, more_known, known_from, due_by, due_from}
use Rattle.sparse_stream_rules.specs.State.{head_of, kind_now, blocks_now, size_now, span_now, stuck, stop_or}
use Rattle.sparse_stream_rules.specs.Steps.{sum_on, settled, skip_sum, chunk_number, chunk_read, chunk_taken, chunk_kept, taken_if, gathered, stepped}
use Rattle.sparse_stream_rules.specs.Laid.{laid_by}
use Rattle.sparse_stream_rules.proofs.Stretches.{free_before, step_chunk, data_after, lays_none}
use Rattle.sparse_stream_rules.proofs.Testing.{as_tested, from_step}
use Rattle.fields_rules.proofs.Laws.{number_same}
use Rattle.sparse_stream_rules.proofs.Due.{raw_early, fill_early, due_one, complete_stays, complete_one, dues_stay}
use Rattle.sparse_stream_rules.proofs.Sums.{sum_on_nil, sum_on-append}
use Rattle.sparse_stream_rules.proofs.Standing.{Laying, more_all, more_one, cursor, chunks_known, Base, AtHeader, at_header, in_chunk, After, goes, stop_at, settles}
use Rattle.sparse_stream_rules.proofs.OneByte.{headers, kept_is}

-- the tests of a chunk by its fields
abbrev number_by : Header → ℕ → ℕ → ℕ → Kind → ℕ → ℕ → ℕ
number_by h len at used k n z = first ((not (size_right h k n z), 8) ∷ (ltb len (at + z), 7) ∷ (ltb h.total (used + n), 9) ∷ [])

-- a state's tests of a chunk header, by those numbers
number_is : (y : Pass)
    → chunk_number y ≡ number_by (head_of y) y.told.length y.walk.next.at y.walk.next.first (kind_now y) (blocks_now y) (size_now y)
unfolding chunk_number
number_is y = refl

-- the tests of a chunk in a list, where its header has room
tests_are : (u : List ℕ) (len : ℕ) (h : Header) (c : Cursor) → c.at + h.head ≤ len
    → first (chunk_tests u len h c) ≡ number_by h len c.at c.first (kind_of (number_at u c.at 2)) (number_at u (c.at + 4) 4) (number_at u (c.at + 8) 4)
unfolding chunk_tests
tests_are u len h c f = rw (le-ltb len (c.at + h.head) f)

-- what a chunk that passes is known by
record Passes (h : Header) (len at used : ℕ) (k : Kind) (n z : ℕ) : Type 0 where
  right : size_right h k n z ≡ true
  inside : at + z ≤ len
  within : used + n ≤ h.total

-- where none applies
passes_by : (h : Header) (len at used : ℕ) (k : Kind) (n z : ℕ) → number_by h len at used k n z ≡ 0 → Passes h len at used k n z
passes_by h len at used k n z e =
    let t = all_fail ((not (size_right h k n z), 8) ∷ (ltb len (at + z), 7) ∷ (ltb h.total (used + n), 9) ∷ []) (tt, (tt, (tt, tt))) e in
    record { right = not-false _ t.0; inside = ltb-false _ _ t.1.0; within = ltb-false _ _ t.1.1.0 }

-- what comes due by a chunk's header
head_sum : (h : Header) (s : List ℕ) (k : Kind) (at n sum : ℕ) → length s ≤ at → skip_sum (writes k) h n sum ≡ sum_on h sum (zeroed (due_by s k at n))
unfolding due_by cells_by zeroed
head_sum h s Raw at n sum l = rw (raw_early s at n l) (sym (sum_on_nil h sum))
head_sum h s Fill at n sum l = rw (fill_early s at n (omega arith)) (sym (sum_on_nil h sum))
head_sum h s DontCare at n sum l = ap (sum_on h sum) (sym (zeroed_none n))
head_sum h s Unknown at n sum l = ap (sum_on h sum) (sym (zeroed_none n))

-- nor is any of its cells, unless it is skipped
head_over : (room : ℕ) (lay : List (Option ℕ) → List ℕ) (n₀ : ℕ) → Laying room lay n₀
    → (s : List ℕ) (k : Kind) (at n : ℕ) (cs : List (Option ℕ)) → n₀ ≤ length cs → length s ≤ at → lay cs ≡ lay (cs ++ due_by s k at n)
unfolding due_by cells_by
head_over room lay n₀ law s Raw at n cs m l = rw (raw_early s at n l, append-nil cs)
head_over room lay n₀ law s Fill at n cs m l = rw (fill_early s at n (omega arith), append-nil cs)
head_over room lay n₀ law s DontCare at n cs m l = sym (law.then cs (replicate n none) m ∙ laid_kept (length cs) n (lay cs))
head_over room lay n₀ law s Unknown at n cs m l = sym (law.then cs (replicate n none) m ∙ laid_kept (length cs) n (lay cs))

module _ (len room : ℕ) (lay : List (Option ℕ) → List ℕ) (n₀ : ℕ) (h : Header) (f : HeaderFacts h len room) (law : Laying room lay n₀) (most : h.total < 2 ^ 32) where
  module _ (x : Pass) (s q : List ℕ) (ks : List Chunk) (base : Base len room lay n₀ h x s q ks) (a : AtHeader len room lay n₀ h x s ks) (b : ℕ) where
    longer : length (s ++ (b ∷ [])) ≡ length s + 1
    longer = length-append s (b ∷ [])

    complete : Complete (s ++ (b ∷ [])) h.block ks
    complete = complete_stays s (b ∷ []) h.block ks a.complete

    kept : Base len room lay n₀ h (chunk_kept x b) (s ++ (b ∷ [])) q ks
    kept =
        let d : due_from (s ++ (b ∷ [])) h.block ks ≡ due_from s h.block ks = dues_stay s (b ∷ []) h.block ks a.complete in
        record {
          told = base.told;
          came = rw longer (omega (arith, base.came));
          number = base.number;
          long = rw longer (omega (arith, base.long));
          head = base.head;
          same = headers s (b ∷ []) base.long ∙ base.same;
          rest = λ t. rw (append_assoc s (b ∷ []) t) (base.rest (b ∷ t));
          counts = base.counts;
          blocks = base.blocks;
          within = base.within;
          inside = base.inside;
          sum = base.sum ∙ ap (λ (r : List (Option ℕ)). sum_on h all_ones (zeroed r)) (sym d);
          part = base.part ∙ ap lay (sym d);
          late = rw d base.late;
          wide = length-set x.kept.chunk (x.come.bytes - x.walk.next.at) b ∙ base.wide;
          four = base.four;
        }

    bytes_are : (i : ℕ) → i < 12 → x.walk.next.at + i < length (s ++ (b ∷ []))
        → get_or (set x.kept.chunk (x.come.bytes - x.walk.next.at) b) i 0 ≡ get_or (s ++ (b ∷ [])) (x.walk.next.at + i) 0
    bytes_are i m n =
        kept_is x.kept.chunk s b x.walk.next.at i (x.come.bytes - x.walk.next.at) (omega (arith, base.came)) a.here
        (omega (arith, base.wide, base.came, a.near, a.here)) (a.bytes i m) (rw longer at n)

    -- the known fields have come
    module _ (last : length s + 1 ≡ x.walk.next.at + 12) where
      agree : (t : List ℕ) (i : ℕ) → i < 12
          → get_or (set x.kept.chunk (x.come.bytes - x.walk.next.at) b) i 0 ≡ get_or ((s ++ (b ∷ [])) ++ t) (x.walk.next.at + i) 0
      agree t i m =
          let n : x.walk.next.at + i < length (s ++ (b ∷ [])) = omega (arith, longer) in
          bytes_are i m n ∙ sym (get_or-append (s ++ (b ∷ [])) t 0 (x.walk.next.at + i) n)

      field : (t : List ℕ) (j w : ℕ) → j + w ≤ 12
          → number_at ((s ++ (b ∷ [])) ++ t) (x.walk.next.at + j) w ≡ number_at (set x.kept.chunk (x.come.bytes - x.walk.next.at) b) j w
      field t j w l =
          sym (number_same (set x.kept.chunk (x.come.bytes - x.walk.next.at) b) ((s ++ (b ∷ [])) ++ t) j (x.walk.next.at + j) w
          (λ i m. let e : x.walk.next.at + j + i ≡ x.walk.next.at + (j + i) = omega arith in rw e (agree t (j + i) (omega arith))))

      type_is : (t : List ℕ)
          → number_at ((s ++ (b ∷ [])) ++ t) x.walk.next.at 2 ≡ number_at (set x.kept.chunk (x.come.bytes - x.walk.next.at) b) 0 2
      type_is t = let e : x.walk.next.at + 0 ≡ x.walk.next.at = omega arith in rw e at (field t 0 2 (omega arith))

      number_kept : (t : List ℕ) → first (chunk_tests ((s ++ (b ∷ [])) ++ t) len h (cursor x)) ≡ chunk_number (chunk_kept x b)
      number_kept t =
          tests_are ((s ++ (b ∷ [])) ++ t) len h (cursor x) a.fits
          ∙ rw (type_is t, field t 4 4 (omega arith), field t 8 4 (omega arith))
          (sym (number_is (chunk_kept x b) ∙ ap₂ (λ (o : Header) (l : ℕ). number_by o l x.walk.next.at x.walk.next.first (kind_now (chunk_kept x b)) (blocks_now (chunk_kept x b)) (size_now (chunk_kept x b))) base.head base.told))

      there : (t : List ℕ) → x.walk.next.at + 12 ≤ length ((s ++ (b ∷ [])) ++ t)
      there t = simp length-append (omega arith)

      known_here : (t : List ℕ) → known_from ((s ++ (b ∷ [])) ++ t) len h x.walk.left (cursor x)
          ≡ when_tested (as_tested (chunk_number (chunk_kept x b))) x.walk.next.at
          (more_known (chunk_at ((s ++ (b ∷ [])) ++ t) h (cursor x)) (known_from ((s ++ (b ∷ [])) ++ t) len h (x.walk.left - 1) (next_cursor ((s ++ (b ∷ [])) ++ t) (cursor x))))
      known_here t = from_step ((s ++ (b ∷ [])) ++ t) len h x.walk.left (cursor x) a.left (there t) ∙ rw (number_kept t)

      refused : (n : ℕ) → chunk_number (chunk_kept x b) ≡ suc n
          → After len room lay n₀ h (stop_or (chunk_number (chunk_kept x b)) x.walk.next.at (chunk_kept x b) (settled (chunk_read (chunk_kept x b)))) (s ++ (b ∷ [])) q
      refused n e =
          stop_at len room lay n₀ h (chunk_kept x b) (s ++ (b ∷ [])) q ks n x.walk.next.at _ kept complete (λ t. known_here t ∙ rw e)
          (rw e) (rw e)

      -- the chunk
      abbrev k : Chunk
      k = record { kind = kind_now (chunk_kept x b); blocks = blocks_now (chunk_kept x b); body = x.walk.next.at + h.head }

      chunk_is : (t : List ℕ)
          → chunk_at ((s ++ (b ∷ [])) ++ t) h (cursor x) ≡ record { kind = kind_now (chunk_kept x b); blocks = blocks_now (chunk_kept x b); body = x.walk.next.at + h.head }
      unfolding chunk_at
      chunk_is t = rw (type_is t, field t 4 4 (omega arith))

      next_is : (t : List ℕ) → next_cursor ((s ++ (b ∷ [])) ++ t) (cursor x) ≡ cursor (chunk_read (chunk_kept x b))
      next_is t = rw (field t 4 4 (omega arith), field t 8 4 (omega arith))

      module _ (none : chunk_number (chunk_kept x b) ≡ 0) where
        passes : Passes h len x.walk.next.at x.walk.next.first k.kind k.blocks (size_now (chunk_kept x b))
        passes =
            passes_by h len x.walk.next.at x.walk.next.first k.kind k.blocks (size_now (chunk_kept x b))
            (sym (ap₂ (λ (o : Header) (l : ℕ). number_by o l x.walk.next.at x.walk.next.first (kind_now (chunk_kept x b)) (blocks_now (chunk_kept x b)) (size_now (chunk_kept x b))) base.head base.told) ∙ sym (number_is (chunk_kept x b)) ∙ none)

        span_is : span_now (chunk_kept x b) ≡ k.blocks * h.block
        span_is = ap (λ (o : Header). blocks_now (chunk_kept x b) * o.block) base.head

        body_late : length (s ++ (b ∷ [])) ≤ k.body
        body_late = rw longer (omega (arith, f.head_least))

        dues : due_from (s ++ (b ∷ [])) h.block (ks ++ (k ∷ [])) ≡ due_from (s ++ (b ∷ [])) h.block ks ++ due_by (s ++ (b ∷ [])) k.kind k.body (k.blocks * h.block)
        dues = due_one (s ++ (b ∷ [])) h.block ks k

        counted : counts_of (ks ++ (k ∷ [])) ≡ counted_on x.walk.counts k.kind k.blocks
        counted =
            counted-on ks k (omega (arith, base.blocks, passes.within))
            ∙ ap (λ (c : Counts). counted_on c k.kind k.blocks) base.counts

        sum_is : skip_sum (writes k.kind) (head_of x) (span_now (chunk_kept x b)) x.come.sum ≡ sum_on h all_ones (zeroed (due_from (s ++ (b ∷ [])) h.block (ks ++ (k ∷ []))))
        sum_is =
            ap₂ (λ (o : Header) (n : ℕ). skip_sum (writes k.kind) o n x.come.sum) base.head span_is
            ∙ head_sum h (s ++ (b ∷ [])) k.kind k.body (k.blocks * h.block) x.come.sum body_late
            ∙ ap (λ (n : ℕ). sum_on h n (zeroed (due_by (s ++ (b ∷ [])) k.kind k.body (k.blocks * h.block)))) kept.sum
            ∙ sym
            (sum_on-append h all_ones (zeroed (due_from (s ++ (b ∷ [])) h.block ks)) (zeroed (due_by (s ++ (b ∷ [])) k.kind k.body (k.blocks * h.block))))
            ∙ ap (sum_on h all_ones)
            (sym (zeroed_append (due_from (s ++ (b ∷ [])) h.block ks) (due_by (s ++ (b ∷ [])) k.kind k.body (k.blocks * h.block))))
            ∙ ap (λ (r : List (Option ℕ)). sum_on h all_ones (zeroed r)) (sym dues)

        part_is : q ≡ lay (due_from (s ++ (b ∷ [])) h.block (ks ++ (k ∷ [])))
        part_is =
            kept.part
            ∙ head_over room lay n₀ law (s ++ (b ∷ [])) k.kind k.body (k.blocks * h.block) (due_from (s ++ (b ∷ [])) h.block ks)
            kept.late body_late
            ∙ ap lay (sym dues)

        rest_is : (t : List ℕ)
            → chunks_known len room lay n₀ h ((s ++ (b ∷ [])) ++ t) ≡ more_all (ks ++ (k ∷ [])) (known_from ((s ++ (b ∷ [])) ++ t) len h (x.walk.left - 1) (cursor (chunk_read (chunk_kept x b))))
        rest_is t =
            kept.rest t
            ∙ ap (more_all ks) (known_here t ∙ rw (none, chunk_is t, next_is t))
            ∙ more_one ks k (known_from ((s ++ (b ∷ [])) ++ t) len h (x.walk.left - 1) (cursor (chunk_read (chunk_kept x b))))

        next : Base len room lay n₀ h (chunk_read (chunk_kept x b)) (s ++ (b ∷ [])) q (ks ++ (k ∷ []))
        next =
            record {
              told = base.told;
              came = kept.came;
              number = base.number;
              long = kept.long;
              head = base.head;
              same = kept.same;
              rest = rest_is;
              counts = counted;
              blocks = blocks_one ks k ∙ ap (λ (n : ℕ). n + k.blocks) base.blocks;
              within = passes.within;
              inside = passes.inside;
              sum = sum_is;
              part = part_is;
              late =
                  rw dues
                  (rw (length-append (due_from (s ++ (b ∷ [])) h.block ks) (due_by (s ++ (b ∷ [])) k.kind k.body (k.blocks * h.block))) (omega (arith, kept.late)));
              wide = kept.wide;
              four = base.four;
            }

        holds : k.body + data_bytes k.kind 1 (k.blocks * h.block) ≤ x.walk.next.at + size_now (chunk_kept x b)
        holds =
            omega
            (arith, size_holds h k.kind k.blocks (size_now (chunk_kept x b)) passes.right, data_one k.kind k.blocks h.block)

        taken : After len room lay n₀ h (settled (chunk_read (chunk_kept x b))) (s ++ (b ∷ [])) q
        taken =
            settles len room lay n₀ h (chunk_read (chunk_kept x b)) (s ++ (b ∷ [])) q (ks ++ (k ∷ [])) next (omega (arith, body_late, holds))
            (λ e. complete_one (s ++ (b ∷ [])) h.block ks k complete (omega (arith, holds, e)))
            (λ m. in_chunk (record {
              before = m;
              init = ks;
              last = k;
              is = refl;
              kind = refl;
              size = refl;
              complete = complete;
              holds = holds;
              exact =
                  λ w. omega
                  (arith, size_exact h k.kind k.blocks (size_now (chunk_kept x b)) passes.right w, data_one k.kind k.blocks h.block);
              word = λ o j l n. absurd (omega (arith, body_late, n));
            }))

      last_byte : After len room lay n₀ h (chunk_taken (chunk_kept x b)) (s ++ (b ∷ [])) q
      unfolding chunk_taken
      last_byte = go (chunk_number (chunk_kept x b)) refl
        where
          go : (n : ℕ) → chunk_number (chunk_kept x b) ≡ n
              → After len room lay n₀ h (stop_or (chunk_number (chunk_kept x b)) x.walk.next.at (chunk_kept x b) (settled (chunk_read (chunk_kept x b)))) (s ++ (b ∷ [])) q
          go zero e = rw e (taken e)
          go (suc n) e = refused n e

    pub header_step : After len room lay n₀ h (stepped x b) (s ++ (b ∷ [])) (laid_by x b q)
    unfolding gathered
    header_step =
        let free : stuck x ≡ false = free_before x base.number (omega (arith, base.came, a.near)) in
        let here : x.walk.next.at ≤ x.come.bytes = omega (arith, base.came, a.here) in
        rw (step_chunk x b free (omega (arith, base.came, base.long)) here, lays_none x b q (data_after x here))
        (go (eqb (x.come.bytes - x.walk.next.at) 11) refl)
      where
        go : (z : Bool) → eqb (x.come.bytes - x.walk.next.at) 11 ≡ z
            → After len room lay n₀ h (taken_if (eqb (x.come.bytes - x.walk.next.at) 11) (chunk_kept x b)) (s ++ (b ∷ [])) q
        go true e =
            let n : x.come.bytes - x.walk.next.at ≡ 11 = eqb-true _ _ e in
            rw e (last_byte (omega (arith, base.came, a.here)))
        go false e =
            let n : x.come.bytes - x.walk.next.at ≡ 11 → ⊥ = eqb-false _ _ e in
            rw e
            (goes ks kept
            (at_header
            (record {
              here = rw longer (omega (arith, a.here));
              near = rw longer (omega (arith, a.near, a.here, base.came));
              left = a.left;
              fits = a.fits;
              bytes = bytes_are;
              complete = complete;
            })))
