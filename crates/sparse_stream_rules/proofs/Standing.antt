-- What a state stands for: the bytes that have come, once the known fields of the file header have; and arriving at a chunk.
-- Assumes nothing.
use mathlib.Core.Path.{◌≡◌, refl, sym, ap, ◌∙◌}
use mathlib.Core.Bool.{Bool, true, false, cond}
use mathlib.Core.Option.{Option, none}
use mathlib.Core.List.{List, [], ◌∷◌, ◌++◌, append-nil}
use Prim.Native.Nat.{ℕ, suc, ◌+◌, ◌*◌, ◌≤◌, ◌<◌}
use native.Mathlib.Omega.{arith}
use lib.Bits.{bit_xor}
use lib.Dec.{ltb, eqb}
use lib.ListN.{length, get_or, length-append}
use borrow.Author.Tests.{ltb-true, ltb-false, eqb-true, eqb-false, le-ltb}
use Rattle.rules.specs.First.{first}
use Rattle.crc32_rules.specs.Crc.{crc_from, all_ones}
use Rattle.sparse_rules.specs.declared.Header.{Header}
use Rattle.sparse_rules.specs.declared.Cursor.{Cursor}
use Rattle.sparse_rules.specs.declared.Kind.TheVariants.{Fill, Unknown}
use Rattle.sparse_rules.specs.declared.Chunk.{Chunk}
use Rattle.sparse_rules.specs.Header.{header_of, block_size, stated_checksum}
use Rattle.sparse_rules.specs.Walk.{end_tests, origin}
use Rattle.sparse_rules.specs.Cells.{zeroed, checksum_of}
use Rattle.sparse_rules.specs.Counts.{writes, counts_of}
use Rattle.sparse_rules.specs.Judge.{sum_differs, sum_tests}
use Rattle.sparse_rules.specs.Facts.{data_bytes, Complete}
use Rattle.sparse_rules.proofs.Facts.{sum_number}
use Rattle.sparse_rules.proofs.SumLaws.{sum_finish}
use Rattle.sparse_rules.proofs.Counting.{blocks_in}
use Rattle.sparse_store_rules.specs.Store.{laid}
use Rattle.sparse_stream_rules.specs.declared.Pass.{Pass}
use Rattle.sparse_stream_rules.specs.Known.{Known, stopped, waiting, whole, when_tested, more_known, known_from, known_sum, due_from}
use Rattle.sparse_stream_rules.specs.State.{head_of, kind_now, blocks_now, stop_or}
use Rattle.sparse_stream_rules.specs.Steps.{sum_on, arrival, arrival_place, arrived, settled}
use Rattle.sparse_stream_rules.proofs.Sums.{sum_on_differs}
use Rattle.sparse_stream_rules.proofs.StateLaws.{arrival_short, arrival_chunk, arrival_fell, arrival_more, arrival_last, settled_there, settled_before}
use Rattle.sparse_stream_rules.proofs.Testing.{as_tested, from_short, from_end}
use Rattle.sparse_stream_rules.proofs.Due.{dues_stay, dues_all}

-- chunks before those that are known
abbrev pub more_all : List Chunk → Known → Known
more_all [] v = v
more_all (k ∷ ks) v = more_known k (more_all ks v)

-- one chunk more at the end
pub more_one : (ks : List Chunk) (k : Chunk) (v : Known) → more_all ks (more_known k v) ≡ more_all (ks ++ (k ∷ [])) v
more_one [] k v = refl
more_one (j ∷ ks) k v = ap (more_known j) (more_one ks k v)

-- waiting, behind chunks
pub more_waiting : (ks : List Chunk) → more_all ks (waiting []) ≡ waiting ks
more_waiting [] = refl
more_waiting (k ∷ ks) = ap (more_known k) (more_waiting ks)

-- refused, behind chunks
pub more_stopped : (ks : List Chunk) (n place : ℕ) → more_all ks (stopped [] n place) ≡ stopped ks n place
more_stopped [] n place = refl
more_stopped (k ∷ ks) n place = ap (more_known k) (more_stopped ks n place)

-- whole, behind chunks
pub more_whole : (ks : List Chunk) → more_all ks (whole []) ≡ whole ks
more_whole [] = refl
more_whole (k ∷ ks) = ap (more_known k) (more_whole ks)

-- the cursor of a state
abbrev pub cursor : Pass → Cursor
cursor x = record { at = x.walk.next.at; first = x.walk.next.first }

-- what a partition holds once cells have come due: further ones are laid after them, where there are at least n₀
pub record Laying (room : ℕ) (lay : List (Option ℕ) → List ℕ) (n₀ : ℕ) : Type 0 where
  pub then : (cs ds : List (Option ℕ)) → n₀ ≤ length cs → lay (cs ++ ds) ≡ laid (length cs) ds (lay cs)
  pub size : (cs : List (Option ℕ)) → length (lay cs) ≡ room

module _ (len room : ℕ) (lay : List (Option ℕ) → List ℕ) (n₀ : ℕ) (h : Header) where
  -- what is known of the chunks
  abbrev pub chunks_known : List ℕ → Known
  chunks_known u = known_from u len h h.chunks (origin h)

  -- a state that stands for the bytes s, after which the partition holds q, and the chunks ks have passed
  pub record Base (x : Pass) (s q : List ℕ) (ks : List Chunk) : Type 0 where
    pub told : x.told.length ≡ len
    pub came : x.come.bytes ≡ length s
    pub number : x.refusal.number ≡ 0
    pub long : 28 ≤ length s
    pub head : head_of x ≡ h
    pub same : header_of s ≡ h
    pub rest : (t : List ℕ) → chunks_known (s ++ t) ≡ more_all ks (known_from (s ++ t) len h x.walk.left (cursor x))
    pub counts : counts_of ks ≡ x.walk.counts
    pub blocks : blocks_in ks ≡ x.walk.next.first
    pub within : x.walk.next.first ≤ h.total
    pub inside : x.walk.next.at ≤ len
    pub sum : x.come.sum ≡ sum_on h all_ones (zeroed (due_from s h.block ks))
    pub part : q ≡ lay (due_from s h.block ks)
    pub late : n₀ ≤ length (due_from s h.block ks)
    pub wide : length x.kept.chunk ≡ 12
    pub four : length x.kept.word ≡ 4

  -- where it stands: in the file header's further bytes
  pub record InFile (x : Pass) (s : List ℕ) (ks : List Chunk) : Type 0 where
    pub before : length s < x.walk.next.at
    pub none : ks ≡ []
    pub kind : kind_now x ≡ Unknown

  -- in a chunk's header
  pub record AtHeader (x : Pass) (s : List ℕ) (ks : List Chunk) : Type 0 where
    pub here : x.walk.next.at ≤ length s
    pub near : length s < x.walk.next.at + 12
    pub left : 0 < x.walk.left
    pub fits : x.walk.next.at + h.head ≤ len
    pub bytes : (i : ℕ) → i < 12 → x.walk.next.at + i < length s → get_or x.kept.chunk i 0 ≡ get_or s (x.walk.next.at + i) 0
    pub complete : Complete s h.block ks

  -- in a chunk
  pub record InChunk (x : Pass) (s : List ℕ) (ks : List Chunk) : Type 0 where
    pub before : length s < x.walk.next.at
    pub init : List Chunk
    pub last : Chunk
    pub is : ks ≡ init ++ (last ∷ [])
    pub kind : last.kind ≡ kind_now x
    pub size : last.blocks ≡ blocks_now x
    pub complete : Complete s h.block init
    pub holds : last.body + data_bytes last.kind 1 (last.blocks * h.block) ≤ x.walk.next.at
    pub exact : writes last.kind ≡ true → last.body + data_bytes last.kind 1 (last.blocks * h.block) ≡ x.walk.next.at
    pub word : last.kind ≡ Fill → (i : ℕ) → i < 4 → last.body + i < length s → get_or x.kept.word i 0 ≡ get_or s (last.body + i) 0

  -- at the end
  pub record AtEnd (x : Pass) (s : List ℕ) (ks : List Chunk) : Type 0 where
    pub here : x.walk.next.at ≡ length s
    pub end : length s ≡ len
    pub left : x.walk.left ≡ 0
    pub full : h.total ≤ x.walk.next.first
    pub checks : sum_differs (bit_xor x.come.sum all_ones) h.checksum ≡ false
    pub complete : Complete s h.block ks

  pub data Place (x : Pass) (s : List ℕ) (ks : List Chunk) : Type 0 where
    in_file : InFile x s ks → Place x s ks
    at_header : AtHeader x s ks → Place x s ks
    in_chunk : InChunk x s ks → Place x s ks
    at_end : AtEnd x s ks → Place x s ks

  -- a state that was refused: so it is known, whatever more comes
  pub record Stop (x : Pass) (s q : List ℕ) (ks : List Chunk) : Type 0 where
    pub number : 0 < x.refusal.number
    pub known : (t : List ℕ) → length s + length t ≤ len
        → known_sum (s ++ t) (chunks_known (s ++ t)) ≡ stopped ks x.refusal.number x.refusal.place
    pub due : (t : List ℕ) → due_from (s ++ t) h.block ks ≡ due_from s h.block ks
    pub part : q ≡ lay (due_from s h.block ks)

  pub data After (x : Pass) (s q : List ℕ) : Type 0 where
    goes : (ks : List Chunk) → Base x s q ks → Place x s ks → After x s q
    stops : (ks : List Chunk) → Stop x s q ks → After x s q

  stopped_summed : (u : List ℕ) (ks : List Chunk) (n place : ℕ) → known_sum u (stopped ks n place) ≡ stopped ks n place
  unfolding known_sum
  stopped_summed u ks n place = refl

  -- a refusal by what the chunks say
  pub stop_at : (x : Pass) (s q : List ℕ) (ks : List Chunk) (n place : ℕ) (y : Pass) → Base x s q ks → Complete s h.block ks
      → ((t : List ℕ) → known_from (s ++ t) len h x.walk.left (cursor x) ≡ stopped [] (suc n) place)
      → y.refusal.number ≡ suc n → y.refusal.place ≡ place → After y s q
  stop_at x s q ks n place y b c e en ep =
      stops ks
      (record {
        number = rw en (omega arith);
        known =
            λ t l. rw (en, ep)
            (ap (known_sum (s ++ t)) (b.rest t ∙ ap (more_all ks) (e t) ∙ more_stopped ks (suc n) place) ∙ stopped_summed (s ++ t) ks (suc n) place);
        due = λ t. dues_stay s t h.block ks c;
        part = b.part;
      })

  arrived_by : (x : Pass) (n : ℕ) → n ≡ arrival x → arrived x ≡ stop_or n (arrival_place n x.walk.next.at) x x
  unfolding arrived
  arrived_by x n e = rw e

  after_same : (x y : Pass) (s q : List ℕ) → x ≡ y → After y s q → After x s q
  after_same x y s q e a = rw e a

  -- arriving where a chunk begins, or at the end
  module _ (x : Pass) (s q : List ℕ) (ks : List Chunk) (b : Base x s q ks) (there : x.walk.next.at ≡ length s) (c : Complete s h.block ks) where
    later : (t : List ℕ) → x.walk.next.at ≤ length (s ++ t)
    later t = simp length-append (omega arith)

    at_chunk : 0 < x.walk.left → (y : Bool) → ltb len (x.walk.next.at + h.head) ≡ y → After (arrived x) s q
    at_chunk l true e =
        let o : len < x.walk.next.at + h.head = ltb-true _ _ e in
        let i : x.walk.next.at ≤ len = b.inside in
        let n : 7 ≡ arrival x = arrival_short x h (sym b.head) l (omega (arith, b.told)) (omega (arith, b.told)) in
        after_same (arrived x) (stop_or 7 x.walk.next.at x x) s q (arrived_by x 7 n)
        (stop_at x s q ks 6 x.walk.next.at (stop_or 7 x.walk.next.at x x) b c (λ t. from_short (s ++ t) len h x.walk.left (cursor x) l (later t) o) refl refl)
    at_chunk l false e =
        let o : x.walk.next.at + h.head ≤ len = ltb-false _ _ e in
        let n : 0 ≡ arrival x = arrival_chunk x h (sym b.head) l (omega (arith, b.told)) (omega (arith, b.told)) in
        after_same (arrived x) x s q (arrived_by x 0 n)
        (goes ks b
        (at_header
        (record { here = omega arith; near = omega arith; left = l; fits = o; bytes = λ i k m. absurd (omega arith); complete = c })))

    ends : x.walk.left ≡ 0 → (t : List ℕ)
        → known_from (s ++ t) len h x.walk.left (cursor x) ≡ when_tested (as_tested (first (end_tests len h (cursor x)))) x.walk.next.at (whole [])
    ends l t = rw l (from_end (s ++ t) len h (cursor x) (later t))

    -- the checksum's test says what the state does
    pub number_is : first (sum_tests s ks) ≡ cond (sum_differs (bit_xor x.come.sum all_ones) h.checksum) 11 0
    number_is =
        let sum : checksum_of s h.block ks ≡ bit_xor (crc_from all_ones (zeroed (due_from s h.block ks))) all_ones =
        sum_finish s h.block ks
        ∙ ap (λ (r : List (Option ℕ)). bit_xor (crc_from all_ones (zeroed r)) all_ones) (sym (dues_all s h.block ks c)) in
        let same : sum_differs (checksum_of s (block_size s) ks) (stated_checksum s) ≡ sum_differs (bit_xor x.come.sum all_ones) h.checksum =
        ap (λ (k : Header). sum_differs (checksum_of s k.block ks) k.checksum) b.same
        ∙ ap (λ (n : ℕ). sum_differs n h.checksum) sum
        ∙ sym (sum_on_differs h all_ones (zeroed (due_from s h.block ks)))
        ∙ ap (λ (n : ℕ). sum_differs (bit_xor n all_ones) h.checksum) (sym b.sum) in
        sum_number s ks ∙ ap (λ (t : Bool). cond t 11 0) same

    by_sum : (x.walk.next.at ≡ len) → x.walk.left ≡ 0 → h.total ≤ x.walk.next.first
        → sum_differs (bit_xor x.come.sum all_ones) h.checksum ≡ true → (t : List ℕ) → length s + length t ≤ len
        → known_sum (s ++ t) (chunks_known (s ++ t)) ≡ stopped ks 11 24
    unfolding known_sum end_tests
    by_sum e l full d [] m =
        let w : chunks_known (s ++ []) ≡ whole ks =
        b.rest []
        ∙ ap (more_all ks) (ends l [] ∙ rw (le-ltb x.walk.next.first h.total full, le-ltb x.walk.next.at len (omega arith)))
        ∙ more_whole ks in
        let o : s ++ [] ≡ s = append-nil s in
        rw w (rw o (rw (number_is, d)))
    by_sum e l full d (a ∷ t) m = absurd (omega arith)

    -- all has come
    last : x.walk.left ≡ 0 → h.total ≤ x.walk.next.first → len ≤ x.walk.next.at
        → arrival x ≡ cond (sum_differs (bit_xor x.come.sum all_ones) h.checksum) 11 0
    last l o r = arrival_last x h (sym b.head) (omega arith) o (omega (arith, b.told)) (bit_xor x.come.sum all_ones) refl

    at_last : x.walk.left ≡ 0 → (y z w : Bool) → ltb x.walk.next.first h.total ≡ y → ltb x.walk.next.at len ≡ z
        → sum_differs (bit_xor x.come.sum all_ones) h.checksum ≡ w → After (arrived x) s q
    unfolding end_tests
    at_last l true z w ey ez ew =
        let o : x.walk.next.first < h.total = ltb-true _ _ ey in
        let n : 9 ≡ arrival x = arrival_fell x h (sym b.head) (omega arith) o in
        after_same (arrived x) (stop_or 9 x.walk.next.at x x) s q (arrived_by x 9 n)
        (stop_at x s q ks 8 x.walk.next.at (stop_or 9 x.walk.next.at x x) b c (λ t. ends l t ∙ rw ey) refl refl)
    at_last l false true w ey ez ew =
        let o : h.total ≤ x.walk.next.first = ltb-false _ _ ey in
        let r : x.walk.next.at < len = ltb-true _ _ ez in
        let n : 10 ≡ arrival x = arrival_more x h (sym b.head) (omega arith) o (omega (arith, b.told)) in
        after_same (arrived x) (stop_or 10 x.walk.next.at x x) s q (arrived_by x 10 n)
        (stop_at x s q ks 9 x.walk.next.at (stop_or 10 x.walk.next.at x x) b c (λ t. ends l t ∙ rw (ey, ez)) refl refl)
    at_last l false false true ey ez ew =
        let o : h.total ≤ x.walk.next.first = ltb-false _ _ ey in
        let r : len ≤ x.walk.next.at = ltb-false _ _ ez in
        let n : 11 ≡ arrival x = sym (last l o r ∙ rw ew) in
        after_same (arrived x) (stop_or 11 24 x x) s q (arrived_by x 11 n)
        (stops ks
        (record {
          number = omega arith;
          known = by_sum (omega (arith, b.inside)) l o ew;
          due = λ t. dues_stay s t h.block ks c;
          part = b.part;
        }))
    at_last l false false false ey ez ew =
        let o : h.total ≤ x.walk.next.first = ltb-false _ _ ey in
        let r : len ≤ x.walk.next.at = ltb-false _ _ ez in
        let n : 0 ≡ arrival x = sym (last l o r ∙ rw ew) in
        after_same (arrived x) x s q (arrived_by x 0 n)
        (goes ks b (at_end (record { here = there; end = omega (arith, b.inside); left = l; full = o; checks = ew; complete = c })))

    pub arrives : After (arrived x) s q
    arrives = go (ltb 0 x.walk.left) refl
      where
        go : (y : Bool) → ltb 0 x.walk.left ≡ y → After (arrived x) s q
        go true e = at_chunk (ltb-true 0 x.walk.left e) (ltb len (x.walk.next.at + h.head)) refl
        go false e =
            at_last (omega (arith, ltb-false 0 x.walk.left e)) (ltb x.walk.next.first h.total) (ltb x.walk.next.at len)
            (sum_differs (bit_xor x.come.sum all_ones) h.checksum) refl refl refl

  -- a state that may have arrived
  pub settles : (x : Pass) (s q : List ℕ) (ks : List Chunk) → Base x s q ks → length s ≤ x.walk.next.at
      → (x.walk.next.at ≡ length s → Complete s h.block ks) → (length s < x.walk.next.at → Place x s ks)
      → After (settled x) s q
  settles x s q ks b l c f = go (eqb x.come.bytes x.walk.next.at) refl
    where
      go : (y : Bool) → eqb x.come.bytes x.walk.next.at ≡ y → After (settled x) s q
      go true e =
          let g : x.come.bytes ≡ x.walk.next.at = eqb-true _ _ e in
          let there : x.walk.next.at ≡ length s = sym g ∙ b.came in
          after_same (settled x) (arrived x) s q (settled_there x g) (arrives x s q ks b there (c there))
      go false e =
          let g : x.come.bytes ≡ x.walk.next.at → ⊥ = eqb-false _ _ e in
          after_same (settled x) x s q (settled_before x g) (goes ks b (f (omega (arith, b.came))))
