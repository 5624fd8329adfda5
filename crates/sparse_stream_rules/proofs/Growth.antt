-- What is due grows at its end only, and all of an accepted image is due at last.
-- Assumes nothing.
use mathlib.Core.Path.{◌≡◌, refl, sym, ap, ap₂, ◌∙◌}
use mathlib.Core.Bool.{Bool, true, false, cond}
use mathlib.Core.Option.{Option, none, some}
use mathlib.Core.List.{List, [], ◌∷◌, ◌++◌, map, flatten, append-nil, append_assoc}
use Prim.Native.Nat.{ℕ, zero, suc, ◌+◌, ◌-◌, ◌*◌, min, ◌≤◌}
use native.Mathlib.Omega.{arith}
use lib.Dec.{leb}
use lib.ListN.{length, length-append, get_or-append}
use borrow.Author.Tests.{leb-true}
use Rattle.rules.specs.First.{first}
use Rattle.sparse_rules.specs.declared.Header.{Header}
use Rattle.sparse_rules.specs.declared.Kind.{Kind}
use Rattle.sparse_rules.specs.declared.Kind.TheVariants.{Raw, Fill, DontCare, Unknown}
use Rattle.sparse_rules.specs.declared.Chunk.{Chunk}
use Rattle.sparse_rules.specs.Header.{header_of, header_tests, block_size, total_chunks}
use Rattle.rules.specs.Answer.{accepted}
use Rattle.sparse_rules.specs.Walk.{walk, origin}
use Rattle.sparse_rules.specs.Cells.{tab, raw_byte, cells_by}
use Rattle.sparse_rules.specs.Judge.{judged, effect, sum_tests}
use Rattle.sparse_rules.proofs.Facts.{accepted_facts}
use Rattle.sparse_rules.proofs.Image.{effect_accepted, chunks_walked}
use Rattle.sparse_store_rules.specs.Store.{over, store}
use Rattle.sparse_stream_rules.specs.declared.Pass.{Pass}
use Rattle.sparse_stream_rules.specs.Known.{Known, stopped, waiting, whole, more_known, known_from, sum_known, known_sum, known, passed, due_by, due_from, due}
use Rattle.sparse_stream_rules.specs.Steps.{opened, fed}
use Rattle.sparse_stream_rules.specs.Laid.{stores}
use Rattle.sparse_stream_rules.specs.States.{begun}
use Rattle.sparse_stream_rules.specs.Theorems.{AsWhole, CutAlways}
use Rattle.sparse_rules.proofs.Longer.{cells_same, raw_append, tests_stay, complete_walk}
use Rattle.sparse_stream_rules.proofs.Due.{due_stays, due_append, due_one, dues_stay, dues_all}
use Rattle.sparse_stream_rules.proofs.Standing.{more_all, cursor, chunks_known, Base, Place, in_file, at_header, in_chunk, at_end, After, goes, stops}
use Rattle.sparse_stream_rules.proofs.OneByte.{headers}
use Rattle.sparse_stream_rules.proofs.EveryByte.{Total, opening, shut, chunked, total, small_front, known_chunks}
use Rattle.sparse_stream_rules.proofs.Found.{finding_of, judged_known}
use Rattle.sparse_stream_rules.proofs.Meaning.{starts, due_goes, due_none, opening_waits}
use Rattle.sparse_stream_rules.proofs.Passes.{onto, onto_lays, blank, blank_length, judging, storing, all_due}
use Rattle.sparse_store_rules.proofs.Blocks.{cut_at}
use Rattle.fields_rules.specs.Number.{Bytes}

-- ---- an accepted image

-- only a whole image is accepted
finding_whole : (v : Known) (ks : List Chunk) → finding_of v ≡ accepted ks → v ≡ whole ks
finding_whole (stopped ls n place) ks e = let z : ◌≡◌ {A = ℕ} 0 1 = cc in absurd (omega arith)
finding_whole (waiting ls) ks e = let z : ◌≡◌ {A = ℕ} 0 1 = cc in absurd (omega arith)
finding_whole (whole ls) ks e = cc

module _ (u : List ℕ) (room : ℕ) (ks : List Chunk) (a : judged u (length u) room ≡ accepted ks) where
  known_whole : known u (length u) room ≡ whole ks
  known_whole = finding_whole (known u (length u) room) ks (judged_known u room ∙ a)

  due_whole : due u (length u) room ≡ due_from u (block_size u) ks
  unfolding due
  due_whole = rw known_whole

  -- all of it is due
  due_effect : due u (length u) room ≡ effect u room
  due_effect =
      due_whole
      ∙ dues_all u (block_size u) ks (complete_walk u (header_of u) (total_chunks u) (origin (header_of u)) ks (chunks_walked u room ks a))
      ∙ sym (effect_accepted u room ks a)

-- ---- the cells that come due

-- what is due of a chunk, later
due_more : (s t : List ℕ) (k : Kind) (at n : ℕ) → (e : List (Option ℕ)) × (due_by (s ++ t) k at n ≡ due_by s k at n ++ e)
unfolding due_by
due_more s t Raw at n =
    let m : ℕ = min n (length s - at) in
    let d : ℕ = min n (length (s ++ t) - at) - min n (length s - at) in
    let q : min n (length (s ++ t) - at) ≡ min n (length s - at) + (min n (length (s ++ t) - at) - min n (length s - at)) =
    omega (arith, length-append s t) in (
      map some (tab (raw_byte (s ++ t) at) (min n (length s - at)) (min n (length (s ++ t) - at) - min n (length s - at))),
      ap (λ (i : ℕ). cells_by (s ++ t) Raw at i) q
          ∙ raw_append (s ++ t) at (min n (length s - at)) (min n (length (s ++ t) - at) - min n (length s - at))
          ∙ ap
          (λ (l : List (Option ℕ)). l ++ map some (tab (raw_byte (s ++ t) at) (min n (length s - at)) (min n (length (s ++ t) - at) - min n (length s - at))))
          (cells_same (s ++ t) s Raw at (min n (length s - at)) (λ i l. get_or-append s t 0 (at + i) (omega arith))),
    )
due_more s t Fill at n = go (leb (at + 4) (length s)) refl
  where
    go : (y : Bool) → leb (at + 4) (length s) ≡ y
        → (e : List (Option ℕ)) × (due_by (s ++ t) Fill at n ≡ cond (leb (at + 4) (length s)) (cells_by s Fill at n) [] ++ e)
    go true g = ([], due_stays s t Fill at n (leb-true _ _ g) ∙ sym (append-nil (cond (leb (at + 4) (length s)) (cells_by s Fill at n) [])))
    go false g = (due_by (s ++ t) Fill at n, rw g)
due_more s t DontCare at n =
    ([], cells_same (s ++ t) s DontCare at n (λ i l. absurd (omega arith)) ∙ sym (append-nil (cells_by s DontCare at n)))
due_more s t Unknown at n =
    ([], cells_same (s ++ t) s Unknown at n (λ i l. absurd (omega arith)) ∙ sym (append-nil (cells_by s Unknown at n)))

-- what stands behind a chunk of a whole image
more_one_is : (k : Chunk) (w : Known) (ls : List Chunk) → more_known k w ≡ whole ls → (ms : List Chunk) × (w ≡ whole ms) × (ls ≡ k ∷ ms)
more_one_is k (stopped ks n place) ls e = let z : ◌≡◌ {A = ℕ} 0 1 = cc in absurd (omega arith)
more_one_is k (waiting ks) ls e = let z : ◌≡◌ {A = ℕ} 0 1 = cc in absurd (omega arith)
more_one_is k (whole ks) ls e = (ks, refl, cc)

-- and behind several
more_is : (ks ls : List Chunk) (v : Known) → more_all ks v ≡ whole ls → (ms : List Chunk) × (ls ≡ ks ++ ms)
more_is [] ls v e = (ls, refl)
more_is (k ∷ ks) ls v e =
    let o = more_one_is k (more_all ks v) ls e in
    let i = more_is ks o.0 v o.1 in
    (i.0, o.2 ∙ ap (λ (r : List Chunk). k ∷ r) i.1)

-- whole after the checksum, whole before
summed_was : (s : List ℕ) (v : Known) (ks : List Chunk) → known_sum s v ≡ whole ks → v ≡ whole ks
unfolding known_sum
summed_was s (stopped ls n place) ks e = e
summed_was s (waiting ls) ks e = e
summed_was s (whole ls) ks e = go (first (sum_tests s ls)) e
  where
    go : (n : ℕ) → sum_known n ls ≡ whole ks → whole ls ≡ whole ks
    go zero g = g
    go (suc n) g = let z : ◌≡◌ {A = ℕ} 0 1 = cc in absurd (omega arith)

-- a refusal is no whole image
not_whole : (ks ls : List Chunk) (n place : ℕ) → stopped ks n place ≡ whole ls → {A : Type 0} → A
not_whole ks ls n place e = let z : ◌≡◌ {A = ℕ} 0 1 = cc in absurd (omega arith)

-- ---- the first bytes of an accepted image

module _ (s t : List ℕ) (room : ℕ) (ks : List Chunk) (a : judged (s ++ t) (length (s ++ t)) room ≡ accepted ks) (lay : List (Option ℕ) → List ℕ) (n₀ : ℕ) (x : Pass) (q : List ℕ) where
  abbrev len : ℕ
  len = length (s ++ t)

  fits : length s + length t ≤ length (s ++ t)
  fits = rw (length-append s t) (omega arith)

  abbrev Grows : List (Option ℕ) → Type 0
  Grows d = (e : List (Option ℕ)) × (due (s ++ t) (length (s ++ t)) room ≡ d ++ e)

  grows_place : (h : Header) (ls : List Chunk) → Base len room lay n₀ h x s q ls → Place len room lay n₀ h x s ls
      → (e : List (Option ℕ)) × (due_from (s ++ t) h.block ls ≡ due_from s h.block ls ++ e)
  unfolding due_from
  grows_place h ls b (in_file i) = let n : ls ≡ [] = i.none in rw n ([], refl)
  grows_place h ls b (at_header i) = ([], dues_stay s t h.block ls i.complete ∙ sym (append-nil (due_from s h.block ls)))
  grows_place h ls b (at_end i) = ([], dues_stay s t h.block ls i.complete ∙ sym (append-nil (due_from s h.block ls)))
  grows_place h ls b (in_chunk i) =
      let g = due_more s t i.last.kind i.last.body (i.last.blocks * h.block) in (
        g.0,
        ap (due_from (s ++ t) h.block) i.is
            ∙ due_one (s ++ t) h.block i.init i.last
            ∙ ap₂ (λ (l r : List (Option ℕ)). l ++ r) (dues_stay s t h.block i.init i.complete) g.1
            ∙ sym
            (append_assoc (due_from s h.block i.init) (due_by s i.last.kind i.last.body (i.last.blocks * h.block)) g.0)
            ∙ ap (λ (l : List (Option ℕ)). l ++ g.0) (sym (ap (due_from s h.block) i.is ∙ due_one s h.block i.init i.last)),
      )

  module _ (h : Header) (long : 28 ≤ length s) (same : header_of s ≡ h) (tests : first (header_tests s len room) ≡ 0) where
    all_known : known (s ++ t) len room ≡ known_sum (s ++ t) (chunks_known len room lay n₀ h (s ++ t))
    all_known =
        known_chunks (s ++ t) len room lay n₀ h (rw (length-append s t) (omega arith)) (ap first (tests_stay s t len room long) ∙ tests)
        (headers s t long ∙ same)

    was_whole : chunks_known len room lay n₀ h (s ++ t) ≡ whole ks
    was_whole = summed_was (s ++ t) (chunks_known len room lay n₀ h (s ++ t)) ks (sym all_known ∙ known_whole (s ++ t) room ks a)

    block_is : block_size (s ++ t) ≡ h.block
    block_is = ap (λ (o : Header). o.block) (headers s t long ∙ same)

    grows_goes : (ls : List Chunk) → Base len room lay n₀ h x s q ls → Place len room lay n₀ h x s ls → Grows (due_from s h.block ls)
    grows_goes ls b i =
        let w = more_is ls ks (known_from (s ++ t) len h x.walk.left (cursor x)) (sym (b.rest t) ∙ was_whole) in
        let g = grows_place h ls b i in (
          g.0 ++ due_from (s ++ t) h.block w.0,
          due_whole (s ++ t) room ks a
              ∙ ap₂ (λ (n : ℕ) (r : List Chunk). due_from (s ++ t) n r) block_is w.1
              ∙ due_append (s ++ t) h.block ls w.0
              ∙ ap (λ (l : List (Option ℕ)). l ++ due_from (s ++ t) h.block w.0) g.1
              ∙ append_assoc (due_from s h.block ls) g.0 (due_from (s ++ t) h.block w.0),
        )

    grows_after : 12 ≤ h.head → After len room lay n₀ h x s q → Grows (due s len room)
    grows_after f (stops ls e) =
        not_whole ls ks x.refusal.number x.refusal.place (sym (e.known t fits) ∙ sym all_known ∙ known_whole (s ++ t) room ks a)
    grows_after f (goes ls b i) =
        let g = grows_goes ls b i in
        (g.0, g.1 ∙ ap (λ (l : List (Option ℕ)). l ++ g.0) (sym (due_goes len room lay n₀ x s q (rw (length-append s t) (omega arith)) h long same tests f ls b i)))

  -- what is due later begins with what is due now
  grows : Total len room lay n₀ x s q → Grows (due s len room)
  grows (opening o) = (
    due (s ++ t) (length (s ++ t)) room,
    ap (λ (l : List (Option ℕ)). l ++ due (s ++ t) (length (s ++ t)) room)
        (sym (due_none len room lay n₀ x s q (rw (length-append s t) (omega arith)) (ap passed (opening_waits len room lay n₀ x s q (rw (length-append s t) (omega arith)) o)))),
  )
  grows (shut e) = not_whole [] ks x.refusal.number x.refusal.place (sym (e.known t) ∙ known_whole (s ++ t) room ks a)
  grows (chunked c) = grows_after c.h c.long c.same c.tests c.facts.head_least c.after

-- ---- the promises

-- the first bytes of an accepted image: its effect begins with what is due
due_front : (s t : List ℕ) (room : ℕ) (ks : List Chunk) → judged (s ++ t) (length (s ++ t)) room ≡ accepted ks → Bytes (s ++ t)
    → (e : List (Option ℕ)) × (effect (s ++ t) room ≡ due s (length (s ++ t)) room ++ e)
due_front s t room ks a small =
    let l : length s ≤ length (s ++ t) = rw (length-append s t) (omega arith) in
    let o =
    total (length (s ++ t)) room (onto (blank room)) 0 (onto_lays room (blank room) (blank_length room)) s
    (opened (begun (length (s ++ t)) room)) [] (blank room) (starts (length (s ++ t)) room (onto (blank room)) 0 (omega arith))
    (omega arith) (small_front s t small) in
    let g =
    grows s t room ks a (onto (blank room)) 0 (fed (opened (begun (length (s ++ t)) room)) s)
    (stores (opened (begun (length (s ++ t)) room)) s (blank room)) o in
    (g.0, sym (due_effect (s ++ t) room ks a) ∙ g.1)

-- fed an accepted image, the partition is after every call in a cut state
pub cut_always : CutAlways
cut_always us p cs t small ks a =
    let g = due_front (flatten cs) t (length p) ks a small in
    let f = accepted_facts (flatten cs ++ t) (length (flatten cs ++ t)) (length p) ks a in
    let l : length (flatten cs) ≤ length (flatten cs ++ t) = rw (length-append (flatten cs) t) (omega arith) in
    rw (all_due (length (flatten cs ++ t)) p cs (small_front (flatten cs) t small) l)
    (cut_at (flatten cs ++ t) p ks a us (due (flatten cs) (length (flatten cs ++ t)) (length p)) g.0 g.1)

-- pieces that together are exactly an image of the announced length: as the whole form
pub as_whole : AsWhole
unfolding store
as_whole room p cs small =
    record {
      judging = judging room cs small;
      storing = storing (length (flatten cs)) p cs small refl;
      contents =
          λ ks a. all_due (length (flatten cs)) p cs small (omega arith)
          ∙ ap (λ (r : List (Option ℕ)). over r p) (due_effect (flatten cs) (length p) ks a);
    }
