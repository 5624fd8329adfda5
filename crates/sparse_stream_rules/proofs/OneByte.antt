-- One byte more: a state that stands for the bytes that have come stands for one more, or is refused as the rules say.
-- Assumes nothing.
use mathlib.Core.Path.{◌≡◌, refl, sym, ap, ap₂, ◌∙◌}
use mathlib.Core.Bool.{Bool, true, false}
use mathlib.Core.Option.{Option, none, some}
use mathlib.Core.List.{List, [], ◌∷◌, ◌++◌, append-nil, append_assoc}
use Prim.Native.Nat.{ℕ, ◌+◌, ◌-◌, ◌*◌, ◌/◌, ◌^◌, min, ◌≤◌, ◌<◌}
use native.Mathlib.Nat.{add-mul, add-zero}
use native.Mathlib.Omega.{arith}
use lib.Dec.{ltb, eqb}
use lib.ListN.{length, get_or, set, length-append, length-set, get_or-append, get_or-eq_default}
use lib.Seq.{get_or-append_seam, get_or-set_same, get_or-set_other}
use borrow.Author.Tests.{ltb-true, ltb-false, eqb-true, eqb-false}
use Rattle.rules.specs.First.{first}
use Rattle.fields_rules.specs.Number.{number_at, bytes}
use Rattle.crc32_rules.specs.Crc.{all_ones}
use Rattle.crc32_rules.specs.Power.{repeated}
use Rattle.sparse_rules.specs.declared.Header.{Header}
use Rattle.sparse_rules.specs.declared.Kind.{Kind}
use Rattle.sparse_rules.specs.declared.Kind.TheVariants.{Raw, Fill, DontCare, Unknown}
use Rattle.sparse_rules.specs.declared.Chunk.{Chunk}
use Rattle.sparse_rules.specs.Header.{header_of}
use Rattle.sparse_rules.specs.Cells.{zeroed, cells_by}
use Rattle.sparse_rules.specs.Counts.{writes}
use Rattle.sparse_rules.specs.Facts.{HeaderFacts, data_bytes}
use Rattle.sparse_rules.proofs.Counting.{blocks_in, blocks_one}
use Rattle.sparse_rules.proofs.Cells.{length-cells, length-cells_by, zeroed_append, zeroed_fill}
use Rattle.sparse_rules.proofs.SumLaws.{words}
use Rattle.sparse_store_rules.specs.Store.{laid}
use Rattle.sparse_stream_rules.specs.declared.Pass.{Pass}
use Rattle.sparse_stream_rules.specs.Known.{due_by, due_from}
use Rattle.sparse_stream_rules.specs.State.{head_of, moved, keeping, kind_now, span_now, end_now, data_by, gap, stuck}
use Rattle.sparse_stream_rules.specs.Steps.{sum_on, settled, carried, worded, stepped}
use Rattle.sparse_stream_rules.specs.Laid.{laid_by, fill_laid}
use Rattle.sparse_stream_rules.proofs.Stretches.{free_before, step_data, carried_pass, carried_data, data_before, lays_none, lays_data}
use Rattle.sparse_rules.proofs.Longer.{header_same}
use Rattle.sparse_stream_rules.proofs.Due.{raw_early, fill_early, raw_grows, fill_whole, due_one, complete_stays, complete_one, dues_stay, dues_all}
use Rattle.sparse_stream_rules.proofs.Sums.{sum_on_nil, sum_on-append}
use Rattle.sparse_stream_rules.proofs.Standing.{Laying, Base, InFile, InChunk, in_file, in_chunk, After, settles}

-- the header of a list that goes on
pub headers : (s t : List ℕ) → 28 ≤ length s → header_of (s ++ t) ≡ header_of s
headers s t l = header_same (s ++ t) s (λ i k. get_or-append s t 0 i (omega arith))

-- a state after one byte, with other numbers for what the byte changes
abbrev grown : Pass → ℕ → List ℕ → Pass
grown x sum word = moved (keeping x (record { file = x.kept.file; chunk = x.kept.chunk; word = word })) 1 sum

-- nothing comes due of a chunk whose data have not begun
abbrev Early : Kind → ℕ → ℕ → Type 0
Early Raw n at = n < at
Early Fill n at = n + 1 < at + 4
Early DontCare n at = Unit {0}
Early Unknown n at = Unit {0}

-- so a byte more makes no cell due
due_quiet : (s : List ℕ) (b : ℕ) (k : Kind) (at n : ℕ) → Early k (length s) at → due_by (s ++ (b ∷ [])) k at n ≡ due_by s k at n
unfolding due_by cells_by
due_quiet s b Raw at n h = raw_early (s ++ (b ∷ [])) at n (simp length-append (omega arith)) ∙ sym (raw_early s at n (omega arith))
due_quiet s b Fill at n h = fill_early (s ++ (b ∷ [])) at n (simp length-append (omega arith)) ∙ sym (fill_early s at n (omega arith))
due_quiet s b DontCare at n h = refl
due_quiet s b Unknown at n h = refl

-- by what the state counts
early_by : (k : Kind) (n at body span g : ℕ) → (writes k ≡ true → body + data_bytes k 1 span ≡ at) → n < at → g ≡ at - n
    → data_bytes k 1 span < g → Early k n body
early_by Raw n at body span g e l q d = omega (arith, e refl)
early_by Fill n at body span g e l q d = omega (arith, e refl)
early_by DontCare n at body span g e l q d = tt
early_by Unknown n at body span g e l q d = tt

-- no byte of a fill word has come
not_begun : (k : Kind) (n at body span g m j : ℕ) → k ≡ Fill → (writes k ≡ true → body + data_bytes k 1 span ≡ at) → n < at → g ≡ at - n
    → data_bytes k 1 span < g → m ≡ n + 1 → body + j < m → ⊥
not_begun Raw n at body span g m j o e l q d w z = let v : ◌≡◌ {A = ℕ} 0 1 = cc in absurd (omega arith)
not_begun Fill n at body span g m j o e l q d w z = omega (arith, e refl)
not_begun DontCare n at body span g m j o e l q d w z = let v : ◌≡◌ {A = ℕ} 0 1 = cc in absurd (omega arith)
not_begun Unknown n at body span g m j o e l q d w z = let v : ◌≡◌ {A = ℕ} 0 1 = cc in absurd (omega arith)

-- raw data are due as far as they came
raw_length : (s : List ℕ) (at n : ℕ) → length s < at + n → length (due_by s Raw at n) ≡ length s - at
unfolding due_by
raw_length s at n h = length-cells_by s Raw at (min n (length s - at)) ∙ omega arith

-- a byte kept in its place
pub kept_is : (w s : List ℕ) (b body j m : ℕ) → m ≡ length s - body → body ≤ length s → m < length w
    → (body + j < length s → get_or w j 0 ≡ get_or s (body + j) 0) → body + j < length s + 1
    → get_or (set w m b) j 0 ≡ get_or (s ++ (b ∷ [])) (body + j) 0
kept_is w s b body j m e l n f h = go (eqb j m) refl
  where
    go : (z : Bool) → eqb j m ≡ z → get_or (set w m b) j 0 ≡ get_or (s ++ (b ∷ [])) (body + j) 0
    go true r =
        let o : j ≡ m = eqb-true j m r in
        let v : body + j ≡ length s = omega arith in
        rw (v, o) (get_or-set_same w m b 0 n ∙ sym (get_or-append_seam s b [] 0))
    go false r =
        let o : j ≡ m → ⊥ = eqb-false j m r in
        let v : body + j < length s = omega arith in
        get_or-set_other w m j b 0 o ∙ f v ∙ sym (get_or-append s (b ∷ []) 0 (body + j) v)

module _ (len room : ℕ) (lay : List (Option ℕ) → List ℕ) (n₀ : ℕ) (h : Header) (f : HeaderFacts h len room) (law : Laying room lay n₀) (most : h.total < 2 ^ 32) where
  module _ (x : Pass) (s q : List ℕ) (ks : List Chunk) (base : Base len room lay n₀ h x s q ks) (b : ℕ) where
    longer : length (s ++ (b ∷ [])) ≡ length s + 1
    longer = length-append s (b ∷ [])

    -- cells that a byte brings
    grown_base : (sum : ℕ) (word q' : List ℕ) (es : List (Option ℕ)) → length word ≡ 4
        → due_from (s ++ (b ∷ [])) h.block ks ≡ due_from s h.block ks ++ es
        → sum ≡ sum_on h x.come.sum (zeroed es)
        → q' ≡ lay (due_from s h.block ks ++ es)
        → Base len room lay n₀ h (grown x sum word) (s ++ (b ∷ [])) q' ks
    grown_base sum word q' es w d e o =
        record {
          told = base.told;
          came = rw longer (omega (arith, base.came));
          number = base.number;
          long = rw longer (omega (arith, base.long));
          head = base.head;
          same = headers s (b ∷ []) base.long ∙ base.same;
          rest = λ t. rw (append_assoc s (b ∷ []) t) (base.rest (b ∷ t));
          counts = base.counts;
          blocks = base.blocks;
          within = base.within;
          inside = base.inside;
          sum =
              e
              ∙ ap (λ (n : ℕ). sum_on h n (zeroed es)) base.sum
              ∙ sym (sum_on-append h all_ones (zeroed (due_from s h.block ks)) (zeroed es))
              ∙ ap (sum_on h all_ones) (sym (zeroed_append (due_from s h.block ks) es))
              ∙ ap (λ (r : List (Option ℕ)). sum_on h all_ones (zeroed r)) (sym d);
          part = o ∙ ap lay (sym d);
          late = rw d (rw (length-append (due_from s h.block ks) es) (omega (arith, base.late)));
          wide = base.wide;
          four = w;
        }

    -- a byte that brings none
    quiet_base : (word : List ℕ) → length word ≡ 4 → due_from (s ++ (b ∷ [])) h.block ks ≡ due_from s h.block ks
        → Base len room lay n₀ h (grown x x.come.sum word) (s ++ (b ∷ [])) q ks
    unfolding zeroed
    quiet_base word w d =
        grown_base x.come.sum word q [] w (d ∙ sym (append-nil (due_from s h.block ks))) (sym (sum_on_nil h x.come.sum))
        (base.part ∙ ap lay (sym (append-nil (due_from s h.block ks))))

    free : length s < x.walk.next.at → stuck x ≡ false
    free l = free_before x base.number (omega (arith, base.came))

    to : length s < x.walk.next.at → stepped x b ≡ carried x b
    to l = step_data x b (free l) (omega (arith, base.came, base.long)) (omega (arith, base.came))

    -- in the file header's further bytes
    pub file_step : InFile len room lay n₀ h x s ks → After len room lay n₀ h (stepped x b) (s ++ (b ∷ [])) (laid_by x b q)
    unfolding due_from
    file_step i =
        let l = i.before in
        let d : data_by (kind_now x) x < gap x = rw i.kind (omega (arith, base.came)) in
        let n : ks ≡ [] = i.none in
        rw (to l ∙ carried_pass x b d, lays_none x b q (data_before x d))
        (settles len room lay n₀ h (grown x x.come.sum x.kept.word) (s ++ (b ∷ [])) q ks (quiet_base x.kept.word base.four (rw n refl)) (rw longer (omega arith))
        (λ e. rw n tt)
        (λ m. in_file (record { before = m; none = n; kind = i.kind })))

    -- ---- in a chunk

    module _ (i : InChunk len room lay n₀ h x s ks) where
      abbrev from : ℕ
      from = blocks_in i.init * h.block

      abbrev span : ℕ
      span = i.last.blocks * h.block

      first_is : x.walk.next.first ≡ blocks_in i.init + i.last.blocks
      first_is = sym base.blocks ∙ ap blocks_in i.is ∙ blocks_one i.init i.last

      span_is : span_now x ≡ span
      span_is = ap₂ (λ (n : ℕ) (o : Header). n * o.block) (sym i.size) base.head

      end_is : end_now x ≡ from + span
      end_is =
          ap₂ (λ (n : ℕ) (o : Header). n * o.block) first_is base.head
          ∙ add-mul (blocks_in i.init) i.last.blocks h.block

      init_length : length (due_from s h.block i.init) ≡ from
      init_length = ap length (dues_all s h.block i.init i.complete) ∙ length-cells s h.block i.init

      -- the data of the chunk before its end
      data_is : data_by (kind_now x) x ≡ data_bytes i.last.kind 1 span
      data_is = rw (← i.kind) (go i.last.kind)
        where
          go : (o : Kind) → data_by o x ≡ data_bytes o 1 (i.last.blocks * h.block)
          go Raw = omega (arith, span_is, end_is)
          go Fill = refl
          go DontCare = refl
          go Unknown = refl

      dues : (u : List ℕ) → due_from u h.block ks ≡ due_from u h.block i.init ++ due_by u i.last.kind i.last.body span
      dues u = ap (due_from u h.block) i.is ∙ due_one u h.block i.init i.last

      -- what a byte brings is what it brings of this chunk
      dues_by : (es : List (Option ℕ))
          → due_by (s ++ (b ∷ [])) i.last.kind i.last.body span ≡ due_by s i.last.kind i.last.body span ++ es
          → due_from (s ++ (b ∷ [])) h.block ks ≡ due_from s h.block ks ++ es
      dues_by es e =
          dues (s ++ (b ∷ []))
          ∙ ap₂ (λ (l r : List (Option ℕ)). l ++ r) (dues_stay s (b ∷ []) h.block i.init i.complete) e
          ∙ sym (append_assoc (due_from s h.block i.init) (due_by s i.last.kind i.last.body span) es)
          ∙ ap (λ (l : List (Option ℕ)). l ++ es) (sym (dues s))

      -- the next place
      chunk_settles : (sum : ℕ) (word q' : List ℕ) → Base len room lay n₀ h (grown x sum word) (s ++ (b ∷ [])) q' ks
          → (i.last.kind ≡ Fill → (j : ℕ) → j < 4 → i.last.body + j < length (s ++ (b ∷ [])) → get_or word j 0 ≡ get_or (s ++ (b ∷ [])) (i.last.body + j) 0)
          → After len room lay n₀ h (settled (grown x sum word)) (s ++ (b ∷ [])) q'
      chunk_settles sum word q' o w =
          let l = i.before in
          settles len room lay n₀ h (grown x sum word) (s ++ (b ∷ [])) q' ks o (rw longer (omega arith))
          (λ e. rw i.is (complete_one (s ++ (b ∷ [])) h.block i.init i.last (complete_stays s (b ∷ []) h.block i.init i.complete) (omega (arith, i.holds, e))))
          (λ m. in_chunk (record {
            before = m;
            init = i.init;
            last = i.last;
            is = i.is;
            kind = i.kind;
            size = i.size;
            complete = complete_stays s (b ∷ []) h.block i.init i.complete;
            holds = i.holds;
            exact = i.exact;
            word = w;
          }))

      -- before its data
      early : data_bytes i.last.kind 1 span < gap x → Early i.last.kind (length s) i.last.body
      early d =
          early_by i.last.kind (length s) x.walk.next.at i.last.body span (gap x) i.exact i.before
          (omega (arith, base.came)) d

      pass_step : data_by (kind_now x) x < gap x → After len room lay n₀ h (stepped x b) (s ++ (b ∷ [])) (laid_by x b q)
      pass_step d =
          let l = i.before in
          let g : data_bytes i.last.kind 1 span < gap x = rw data_is at d in
          let e = early g in
          let o : due_from (s ++ (b ∷ [])) h.block ks ≡ due_from s h.block ks =
          dues_by []
          (due_quiet s b i.last.kind i.last.body span e ∙ sym (append-nil (due_by s i.last.kind i.last.body span)))
          ∙ append-nil (due_from s h.block ks) in
          rw (to l ∙ carried_pass x b d, lays_none x b q (data_before x d))
          (chunk_settles x.come.sum x.kept.word q (quiet_base x.kept.word base.four o)
          (λ k' j m n. absurd (not_begun i.last.kind (length s) x.walk.next.at i.last.body span (gap x) (length (s ++ (b ∷ []))) j k' i.exact i.before (omega (arith, base.came)) g longer n)))

      -- a byte of raw data
      raw_step : i.last.kind ≡ Raw → gap x ≤ data_by (kind_now x) x → After len room lay n₀ h (stepped x b) (s ++ (b ∷ [])) (laid_by x b q)
      unfolding zeroed
      raw_step e d =
          let l = i.before in
          let c = base.came in
          let now : kind_now x ≡ Raw = sym i.kind ∙ e in
          let g : gap x ≤ data_bytes Raw 1 span = rw (data_is, e) at d in
          let y : i.last.body + data_bytes Raw 1 span ≡ x.walk.next.at = rw e at (i.exact (ap writes e)) in
          let here : i.last.body ≤ length s = omega (arith, y) in
          let there : length s < i.last.body + span = omega (arith, y) in
          let o : due_from (s ++ (b ∷ [])) h.block ks ≡ due_from s h.block ks ++ (some b ∷ []) =
          dues_by (some b ∷ []) (rw e (raw_grows s b i.last.body span here there)) in
          let v : length (due_by s Raw i.last.body span) ≡ length s - i.last.body = raw_length s i.last.body span there in
          let n : length (due_from s h.block ks) ≡ end_now x - gap x =
          ap length (dues s) ∙ length-append (due_from s h.block i.init) (due_by s i.last.kind i.last.body span)
          ∙ ap₂ (λ (l r : ℕ). l + r) init_length (ap (λ (o : Kind). length (due_by s o i.last.body span)) e ∙ v)
          ∙ omega (arith, end_is, y) in
          let w : laid_by x b q ≡ lay (due_from s h.block ks ++ (some b ∷ [])) =
          lays_data x b q (free l) (omega (arith, base.long)) (omega arith) d ∙ rw now
          (ap₂ (λ (m : ℕ) (r : List ℕ). laid m (some b ∷ []) r) (sym n) base.part ∙ sym (law.then (due_from s h.block ks) (some b ∷ []) base.late))
          in
          let sum : ℕ = sum_on (head_of x) x.come.sum (b ∷ []) in
          let st : stepped x b ≡ settled (grown x sum x.kept.word) = to l ∙ carried_data x b d ∙ rw now in
          let same : sum ≡ sum_on h x.come.sum (b ∷ []) = ap (λ (o : Header). sum_on o x.come.sum (b ∷ [])) base.head in
          rw st
          (chunk_settles sum x.kept.word (laid_by x b q) (grown_base sum x.kept.word (laid_by x b q) (some b ∷ []) base.four o same w)
          (λ k' j m r. let z : Raw ≡ Fill = sym e ∙ k' in cc))

      -- a byte of a fill word
      module _ (e : i.last.kind ≡ Fill) (d : gap x ≤ data_by (kind_now x) x) (small : (j : ℕ) → get_or (s ++ (b ∷ [])) j 0 < 256) where
        now : kind_now x ≡ Fill
        now = sym i.kind ∙ e

        y : i.last.body + 4 ≡ x.walk.next.at
        y = rw e at (i.exact (ap writes e))

        g : gap x ≤ 4
        g = rw (data_is, e) at d

        place : 4 - gap x ≡ length s - i.last.body
        place = omega (arith, y, g, i.before, base.came)

        here : i.last.body ≤ length s
        here = omega (arith, y, g, i.before, base.came)

        word : List ℕ
        word = set x.kept.word (4 - gap x) b

        word_four : length (set x.kept.word (4 - gap x) b) ≡ 4
        word_four = length-set x.kept.word (4 - gap x) b ∙ base.four

        word_is : (j : ℕ) → j < 4 → i.last.body + j < length (s ++ (b ∷ []))
            → get_or (set x.kept.word (4 - gap x) b) j 0 ≡ get_or (s ++ (b ∷ [])) (i.last.body + j) 0
        word_is j m n =
            kept_is x.kept.word s b i.last.body j (4 - gap x) place here (omega (arith, base.four, place, y, i.before))
            (i.word e j m) (rw longer at n)

        word_small : length s + 1 ≡ x.walk.next.at → (j : ℕ) → get_or (set x.kept.word (4 - gap x) b) j 0 < 256
        word_small o j = go (ltb j 4) refl
          where
            go : (z : Bool) → ltb j 4 ≡ z → get_or (set x.kept.word (4 - gap x) b) j 0 < 256
            go true r = rw (word_is j (ltb-true j 4 r) (omega (arith, longer, o, y, ltb-true j 4 r))) (small (i.last.body + j))
            go false r =
                let v : length (set x.kept.word (4 - gap x) b) ≤ j = omega (arith, word_four, ltb-false j 4 r) in
                rw (get_or-eq_default (set x.kept.word (4 - gap x) b) 0 v) (omega arith)

        early_word : length s + 1 < i.last.body + 4 → due_from (s ++ (b ∷ [])) h.block ks ≡ due_from s h.block ks
        early_word o =
            dues_by [] (rw e (due_quiet s b Fill i.last.body span o ∙ sym (append-nil (due_by s Fill i.last.body span))))
            ∙ append-nil (due_from s h.block ks)

        fill_step : (z : Bool) → eqb (gap x) 1 ≡ z → After len room lay n₀ h (stepped x b) (s ++ (b ∷ [])) (laid_by x b q)
        unfolding worded fill_laid
        fill_step false r =
            let ne : gap x ≡ 1 → ⊥ = eqb-false (gap x) 1 r in
            let o : length s + 1 < i.last.body + 4 = omega (arith, y, i.before, base.came) in
            let st : stepped x b ≡ settled (grown x x.come.sum (set x.kept.word (4 - gap x) b)) = to i.before
            ∙ carried_data x b d
            ∙ rw (now, r) in
            let w : laid_by x b q ≡ q = lays_data x b q (free i.before) (omega (arith, base.long, base.came)) (omega (arith, i.before, base.came)) d
            ∙ rw (now, r) in
            rw (st, w)
            (chunk_settles x.come.sum (set x.kept.word (4 - gap x) b) q (quiet_base (set x.kept.word (4 - gap x) b) word_four (early_word o)) (λ k'. word_is))
        fill_step true r =
            let one : gap x ≡ 1 = eqb-true (gap x) 1 r in
            let o : length s + 1 ≡ x.walk.next.at = omega (arith, i.before, base.came) in
            let w : List ℕ = set x.kept.word (4 - gap x) b in
            let es : List (Option ℕ) = cells_by (set x.kept.word (4 - gap x) b) Fill 0 span in
            let none_yet : due_by s Fill i.last.body span ≡ [] = fill_early s i.last.body span (omega (arith, y)) in
            let all : due_by (s ++ (b ∷ [])) Fill i.last.body span ≡ cells_by (set x.kept.word (4 - gap x) b) Fill 0 span =
            fill_whole (s ++ (b ∷ [])) (set x.kept.word (4 - gap x) b) i.last.body span (omega (arith, longer, y))
            (λ j m. word_is j m (omega (arith, longer, y))) in
            let dd : due_from (s ++ (b ∷ [])) h.block ks ≡ due_from s h.block ks ++ cells_by (set x.kept.word (4 - gap x) b) Fill 0 span =
            dues_by (cells_by (set x.kept.word (4 - gap x) b) Fill 0 span) (rw e (all ∙ rw none_yet)) in
            let four : 4 * (span / 4) ≡ span = words i.last.blocks h.block f.block_fours in
            let sums : sum_on (head_of x) x.come.sum (repeated (span_now x / 4) (bytes 4 (number_at (set x.kept.word (4 - gap x) b) 0 4))) ≡ sum_on h x.come.sum (zeroed (cells_by (set x.kept.word (4 - gap x) b) Fill 0 span)) =
            rw (base.head, span_is)
            (ap (sum_on h x.come.sum) (sym (rw four at (zeroed_fill (set x.kept.word (4 - gap x) b) (word_small o) 0 (span / 4)))))
            in
            let fr : end_now x - span_now x ≡ from = omega (arith, end_is, span_is) in
            let dl : length (due_from s h.block ks) ≡ from =
            ap length (dues s) ∙ length-append (due_from s h.block i.init) (due_by s i.last.kind i.last.body span)
            ∙ ap₂ (λ (l r : ℕ). l + r) init_length (ap (λ (k : Kind). length (due_by s k i.last.body span)) e ∙ ap length none_yet)
            ∙ add-zero from in
            let pp : laid_by x b q ≡ lay (due_from s h.block ks ++ cells_by (set x.kept.word (4 - gap x) b) Fill 0 span) =
            lays_data x b q (free i.before) (omega (arith, base.long, base.came)) (omega (arith, i.before, base.came)) d
            ∙ rw (now, r)
            (ap₂ (λ (m n : ℕ). laid m (cells_by (set x.kept.word (4 - gap x) b) Fill 0 n) q) (fr ∙ sym dl) span_is
            ∙ ap (laid (length (due_from s h.block ks)) (cells_by (set x.kept.word (4 - gap x) b) Fill 0 span)) base.part
            ∙ sym (law.then (due_from s h.block ks) (cells_by (set x.kept.word (4 - gap x) b) Fill 0 span) base.late)) in
            let st : stepped x b ≡ settled (grown x (sum_on (head_of x) x.come.sum (repeated (span_now x / 4) (bytes 4 (number_at (set x.kept.word (4 - gap x) b) 0 4)))) (set x.kept.word (4 - gap x) b)) =
            to i.before ∙ carried_data x b d ∙ rw (now, r) in
            rw st
            (chunk_settles _ (set x.kept.word (4 - gap x) b) (laid_by x b q)
            (grown_base _ (set x.kept.word (4 - gap x) b) (laid_by x b q) (cells_by (set x.kept.word (4 - gap x) b) Fill 0 span) word_four dd sums pp)
            (λ k'. word_is))

      -- a byte of a chunk's data, or between its header and them
      pub chunk_step : ((j : ℕ) → get_or (s ++ (b ∷ [])) j 0 < 256) → After len room lay n₀ h (stepped x b) (s ++ (b ∷ [])) (laid_by x b q)
      chunk_step small = go (ltb (data_by (kind_now x) x) (gap x)) refl i.last.kind refl
        where
          go : (z : Bool) → ltb (data_by (kind_now x) x) (gap x) ≡ z → (k : Kind) → i.last.kind ≡ k
              → After len room lay n₀ h (stepped x b) (s ++ (b ∷ [])) (laid_by x b q)
          go true e k o = pass_step (ltb-true _ _ e)
          go false e Raw o = raw_step o (ltb-false _ _ e)
          go false e Fill o = fill_step o (ltb-false _ _ e) small (eqb (gap x) 1) refl
          go false e DontCare o =
              let u : gap x ≤ data_by (kind_now x) x = ltb-false _ _ e in
              let v : gap x ≤ data_bytes DontCare 1 span = rw (data_is, o) at u in absurd (omega (arith, i.before, base.came))
          go false e Unknown o =
              let u : gap x ≤ data_by (kind_now x) x = ltb-false _ _ e in
              let v : gap x ≤ data_bytes Unknown 1 span = rw (data_is, o) at u in absurd (omega (arith, i.before, base.came))
