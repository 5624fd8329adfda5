-- The steps of the walk over the chunks, and what an accepted walk says of its first chunk and of its end.
-- Assumes nothing.
use mathlib.Core.Path.{◌≡◌, refl, sym, ◌∙◌}
use mathlib.Core.List.{List, [], ◌∷◌}
use Prim.Native.Nat.{ℕ, zero, suc, ◌-◌, ◌≤◌, ◌<◌}
use native.Mathlib.Nat.{not-suc-le-zero}
use native.Mathlib.Numerals.{sub-one}
use native.Mathlib.Omega.{arith}
use borrow.Author.Tests.{ltb-false, lt-ltb, le-ltb}
use Rattle.rules.specs.First.{first}
use Rattle.sparse_rules.specs.declared.Header.{Header}
use Rattle.sparse_rules.specs.declared.Cursor.{Cursor}
use Rattle.sparse_rules.specs.declared.Chunk.{Chunk}
use Rattle.sparse_rules.specs.Chunks.{Reading, chunk, reading}
use Rattle.rules.specs.Answer.{refused, accepted, unless, onward}
use Rattle.sparse_rules.specs.Walk.{Finding, more, end_tests, walk}
use Rattle.rules.proofs.Tests.{all_fail}
use Rattle.rules.proofs.Answer.{unless_accepted}

module _ (s : List ℕ) (len : ℕ) (h : Header) where
  -- a walk over chunks reads one, and goes on with the others from the cursor after it
  pub walk_step : (n : ℕ) (c : Cursor) → 0 < n → walk s len h n c ≡ onward (reading s len h c) (λ r. more r.0 (walk s len h (n - 1) r.1))
  unfolding walk
  walk_step zero c p = absurd (not-suc-le-zero p)
  walk_step (suc n) c p = rw sub-one

  -- a walk over no chunks makes the tests after the last one
  walk_end : (n : ℕ) (c : Cursor) → n ≡ 0 → walk s len h n c ≡ unless (first (end_tests len h c)) c.at (accepted [])
  unfolding walk
  walk_end zero c e = refl
  walk_end (suc n) c e = absurd (omega arith)

  -- a chunk that is refused refuses the walk
  pub walk_refused : (n : ℕ) (c : Cursor) (m place : ℕ) → 0 < n → reading s len h c ≡ refused m place → walk s len h n c ≡ refused m place
  walk_refused n c m place p e = walk_step n c p ∙ rw e

  -- a chunk that is read stands before those of the rest of the walk
  pub walk_read : (n : ℕ) (c : Cursor) (k : Chunk) (next : Cursor) → 0 < n → reading s len h c ≡ chunk k next
      → walk s len h n c ≡ more k (walk s len h (n - 1) next)
  walk_read n c k next p e = walk_step n c p ∙ rw e

  -- 9 where the sum falls short at the end
  pub walk_fell_short : (n : ℕ) (c : Cursor) → n ≡ 0 → c.first < h.total → walk s len h n c ≡ refused 9 c.at
  unfolding end_tests
  walk_fell_short n c z p = walk_end n c z ∙ rw (lt-ltb c.first h.total p)

  -- 10 where bytes remain after the last chunk
  pub walk_left_over : (n : ℕ) (c : Cursor) → n ≡ 0 → h.total ≤ c.first → c.at < len → walk s len h n c ≡ refused 10 c.at
  unfolding end_tests
  walk_left_over n c z p q = walk_end n c z ∙ rw (le-ltb c.first h.total p, lt-ltb c.at len q)

  -- and else the walk is over
  pub walk_over : (n : ℕ) (c : Cursor) → n ≡ 0 → h.total ≤ c.first → len ≤ c.at → walk s len h n c ≡ accepted []
  unfolding end_tests
  walk_over n c z p q = walk_end n c z ∙ rw (le-ltb c.first h.total p, le-ltb c.at len q)

-- an accepted walk over chunks: its first chunk, the cursor after it, and the other chunks
pub record Stepped (s : List ℕ) (len : ℕ) (h : Header) (n : ℕ) (c : Cursor) (ks : List Chunk) : Type 0 where
  pub here : Chunk
  pub next : Cursor
  pub rest : List Chunk
  -- the first chunk is the one read at the cursor
  pub read : reading s len h c ≡ chunk here next
  -- the walk from the cursor after it accepts the others
  pub walked : walk s len h (n - 1) next ≡ accepted rest
  -- together they are the walk's chunks
  pub found : ks ≡ here ∷ rest

-- an accepted walk over no chunks
pub record Ended (len : ℕ) (h : Header) (c : Cursor) (ks : List Chunk) : Type 0 where
  pub none : ks ≡ []
  -- the sum does not fall short
  pub filled : h.total ≤ c.first
  -- no bytes remain
  pub used : len ≤ c.at

more_accepted : (k : Chunk) (f : Finding) (ks : List Chunk) → more k f ≡ accepted ks → (rest : List Chunk) × (f ≡ accepted rest) × (ks ≡ k ∷ rest)
more_accepted k (refused n place) ks e = ([], cc, cc)
more_accepted k (accepted rest) ks e = (rest, refl, cc)

-- a turn of a loop over the chunks of an accepted walk: the chunk that is read is the first, and the walk goes on after it
pub record ReadOn (s : List ℕ) (len : ℕ) (h : Header) (n : ℕ) (ks : List Chunk) (k : Chunk) (next : Cursor) : Type 0 where
  pub rest : List Chunk
  pub found : ks ≡ k ∷ rest
  pub walked : walk s len h (n - 1) next ≡ accepted rest

module _ (s : List ℕ) (len : ℕ) (h : Header) (n : ℕ) (c : Cursor) (ks : List Chunk) (e : walk s len h n c ≡ accepted ks) where
  -- an accepted walk over chunks has a first one
  pub stepped : 0 < n → Stepped s len h n c ks
  stepped p = go (reading s len h c) refl
    where
      go : (r : Reading) → reading s len h c ≡ r → Stepped s len h n c ks
      go (refused m place) q = let z : ◌≡◌ {A = ℕ} 0 1 = cc (walk_refused s len h n c m place p q) in absurd (omega arith)
      go (accepted r) q =
          let m = more_accepted r.0 (walk s len h (n - 1) r.1) ks (sym (walk_read s len h n c r.0 r.1 p q) ∙ e) in
          record { here = r.0; next = r.1; rest = m.0; read = q; walked = m.1; found = m.2 }

  module _ (p : 0 < n) where
    pub read_on : (k : Chunk) (next : Cursor) → reading s len h c ≡ chunk k next → ReadOn s len h n ks k next
    read_on k next q =
        let m = more_accepted k (walk s len h (n - 1) next) ks (sym (walk_read s len h n c k next p q) ∙ e) in
        record { rest = m.0; found = m.2; walked = m.1 }

    -- no chunk of an accepted walk is refused
    pub never_refused : (m place : ℕ) → reading s len h c ≡ refused m place → ⊥
    never_refused m place q = let z : ◌≡◌ {A = ℕ} 0 1 = cc (walk_refused s len h n c m place p q) in omega arith

  -- an accepted walk over no chunks passed the tests after the last one
  pub ended : n ≡ 0 → Ended len h c ks
  unfolding end_tests
  ended z =
      let u = unless_accepted (first (end_tests len h c)) c.at (accepted []) ks (sym (walk_end s len h n c z) ∙ e) in
      let t = all_fail (end_tests len h c) (tt, (tt, tt)) u.0 in
      record { none = cc; filled = ltb-false c.first h.total t.0; used = ltb-false c.at len t.1.0 }
