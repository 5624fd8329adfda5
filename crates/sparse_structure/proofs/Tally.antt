-- The first walk keeps count: the chunks that it has passed are counted, and the rest of the walk goes on from them.
-- Assumes nothing.
use mathlib.Core.Path.{◌≡◌, refl, sym, ap, ◌∙◌}
use mathlib.Core.List.{List, [], ◌∷◌, ◌++◌, append_assoc, append-nil}
use Prim.Native.Nat.{ℕ, ◌+◌, ◌-◌, ◌^◌, ◌≤◌, ◌<◌}
use native.Mathlib.Omega.{arith}
use lib.ListN.{length}
use Rattle.sparse_rules.specs.declared.Header.{Header}
use Rattle.sparse_rules.specs.declared.Cursor.{Cursor}
use Rattle.sparse_rules.specs.declared.Chunk.{Chunk}
use Rattle.sparse_rules.specs.declared.Counts.{Counts}
use Rattle.rules.specs.Answer.{refused, accepted, onward}
use Rattle.sparse_rules.specs.Chunks.{chunk, reading}
use Rattle.sparse_rules.specs.Walk.{Finding, more, walk, origin}
use Rattle.sparse_rules.specs.Counts.{counts_of, no_counts, counted_on}
use Rattle.sparse_rules.specs.Answers.{answer_for}
use Rattle.sparse_rules.proofs.Walk.{walk_refused, walk_read, walk_fell_short, walk_left_over, walk_over}
use Rattle.sparse_rules.proofs.Facts.{chunk_facts}
use Rattle.sparse_rules.proofs.Counting.{blocks_in, blocks_one, counts_none, counted-on}

-- a finding, after chunks that came before it
abbrev pub after : List Chunk → Finding → Finding
after ks f = onward f (λ ls. accepted (ks ++ ls))

-- no chunks before it
after_none : (f : Finding) → f ≡ after [] f
after_none (accepted ls) = refl
after_none (refused n place) = refl

-- one chunk more before it
after_more : (ks : List Chunk) (k : Chunk) (f : Finding) → after ks (more k f) ≡ after (ks ++ (k ∷ [])) f
after_more ks k (accepted ls) = ap accepted (sym (append_assoc ks (k ∷ []) ls))
after_more ks k (refused n place) = refl

-- a turn of the walk: so many chunks left from a cursor on, and so many blocks counted before it
pub record Tallied (s : List ℕ) (h : Header) (n : ℕ) (c : Cursor) (t : Counts) : Type 0 where
  -- the chunks before it
  pub ks : List Chunk
  pub goes : walk s (length s) h h.chunks (origin h) ≡ after ks (walk s (length s) h n c)
  pub counts : counts_of ks ≡ t
  pub sum : blocks_in ks ≡ c.first

pub tally_start : (s : List ℕ) (h : Header) {n : ℕ} → n ≡ h.chunks → Tallied s h n (origin h) no_counts
tally_start s h e = rw e (record { ks = []; goes = after_none (walk s (length s) h h.chunks (origin h)); counts = counts_none; sum = refl })

module _ (s : List ℕ) (h : Header) (n : ℕ) (c : Cursor) (t : Counts) (i : Tallied s h n c t) where
  step : (k : Chunk) (next : Cursor) → 0 < n → h.total < 2 ^ 32 → reading s (length s) h c ≡ chunk k next
      → Tallied s h (n - 1) next (counted_on t k.kind k.blocks)
  step k next p fits e =
      let f = chunk_facts s (length s) h c k next e in
      record {
        ks = i.ks ++ (k ∷ []);
        goes = i.goes ∙ ap (after i.ks) (walk_read s (length s) h n c k next p e) ∙ after_more i.ks k (walk s (length s) h (n - 1) next);
        counts = counted-on i.ks k (omega (arith, i.sum, f.blocks, f.within)) ∙ ap (λ (x : Counts). counted_on x k.kind k.blocks) i.counts;
        sum = omega (arith, blocks_one i.ks k, i.sum, f.blocks);
      }

  -- a chunk that is read
  pub tally_step : (k : Chunk) (next : Cursor) {m : ℕ} → m + 1 ≡ n → h.total < 2 ^ 32 → reading s (length s) h c ≡ chunk k next
      → Tallied s h m next (counted_on t k.kind k.blocks)
  tally_step k next {m} p fits e =
      let q : n - 1 ≡ m = omega arith in
      let some : 0 < n = omega arith in
      rw (← q) (step k next some fits e)

  -- what the rest of the walk finds, the whole walk answers
  rest : (f : Finding) → walk s (length s) h n c ≡ f → answer_for (after i.ks f) ≡ answer_for (walk s (length s) h h.chunks (origin h))
  rest f e = sym (ap answer_for (i.goes ∙ ap (after i.ks) e))

  -- a chunk that is refused
  pub tally_refused : (m place : ℕ) → 0 < n → reading s (length s) h c ≡ refused m place
      → refused m place ≡ answer_for (walk s (length s) h h.chunks (origin h))
  unfolding answer_for
  tally_refused m place p e = rest (refused m place) (walk_refused s (length s) h n c m place p e)

  module _ (z : n ≡ 0) where
    -- the sum falls short at the end
    pub tally_short : c.first < h.total → refused 9 c.at ≡ answer_for (walk s (length s) h h.chunks (origin h))
    unfolding answer_for
    tally_short p = rest (refused 9 c.at) (walk_fell_short s (length s) h n c z p)

    module _ (p : h.total ≤ c.first) where
      -- bytes remain
      pub tally_more_bytes : c.at < length s → refused 10 c.at ≡ answer_for (walk s (length s) h h.chunks (origin h))
      unfolding answer_for
      tally_more_bytes l = rest (refused 10 c.at) (walk_left_over s (length s) h n c z p l)

      -- the structure holds
      pub tally_done : length s ≤ c.at → accepted t ≡ answer_for (walk s (length s) h h.chunks (origin h))
      unfolding answer_for
      tally_done l =
          ap accepted (sym i.counts) ∙ ap (λ (ls : List Chunk). accepted (counts_of ls)) (sym (append-nil i.ks))
          ∙ rest (accepted []) (walk_over s (length s) h n c z p l)
