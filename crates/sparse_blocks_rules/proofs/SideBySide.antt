-- Two images read side by side: what a rule gives for each pair of blocks that is left.
-- Assumes nothing.
use mathlib.Core.Path.{◌≡◌, refl, sym, ap, ap₂, ◌∙◌}
use mathlib.Core.Option.{none}
use mathlib.Core.List.{List, [], ◌∷◌, ◌++◌}
use Prim.Native.Nat.{ℕ, zero, suc, ◌+◌, ◌*◌, ◌≤◌, ◌<◌}
use native.Mathlib.Nat.{not-suc-le-zero, le_of_suc-le-suc, suc-mul, zero-lt-suc}
use native.Mathlib.Omega.{arith}
use lib.ListN.{length, take, drop, get_or, replicate, length-append, length-drop, take-append-drop}
use lib.Seq.{take-append-le}
use Rattle.sparse_rules.specs.declared.Kind.{Kind}
use Rattle.sparse_rules.specs.declared.Header.{Header}
use Rattle.sparse_write_rules.specs.Blocks.{Block}
use Rattle.sparse_blocks_rules.specs.declared.Reader.{Reader}
use Rattle.sparse_blocks_rules.specs.Blocks.{block_from, pace, stretch, blocks_of, needed, blocks}
use Rattle.sparse_blocks_rules.specs.Reading.{passed_by, opened}
use Rattle.sparse_blocks_rules.specs.Pairs.{each, Matched}
use Rattle.sparse_blocks_rules.specs.Beside.{remaining, ahead, Reads, Beside, InFront}
use Rattle.sparse_blocks_rules.proofs.Stretches.{length_stretch, stretch_take}
use Rattle.sparse_blocks_rules.proofs.Passing.{rest_is, passes, opens}
use Rattle.sparse_blocks_rules.proofs.Giving.{gives}

-- ---- pairs of blocks

-- there are as many pairs as blocks
pub length_each : {A : Type 0} (f : Block → Block → A) (xs ys : List Block) → length ys ≡ length xs → length (each f xs ys) ≡ length xs
unfolding each
length_each f [] ys e = refl
length_each f (x ∷ xs) [] e = absurd (omega arith)
length_each f (x ∷ xs) (y ∷ ys) e = ap suc (length_each f xs ys (omega arith))

-- the pair at a place
pub each_at : {A : Type 0} (f : Block → Block → A) (xs ys : List Block) (k : ℕ) (d : A) → k < length xs → length ys ≡ length xs
    → get_or (each f xs ys) k d ≡ f (get_or xs k none) (get_or ys k none)
unfolding each
each_at f [] ys k d h e = absurd (not-suc-le-zero h)
each_at f (x ∷ xs) [] k d h e = absurd (omega arith)
each_at f (x ∷ xs) (y ∷ ys) zero d h e = refl
each_at f (x ∷ xs) (y ∷ ys) (suc k) d h e = each_at f xs ys k d (le_of_suc-le-suc h) (omega arith)

-- no blocks, no pairs
pub no_pairs : {A : Type 0} (f : Block → Block → A) (ys : List Block) → each f [] ys ≡ []
unfolding each
no_pairs f ys = refl

-- on either side
pub none_beside : {A : Type 0} (f : Block → Block → A) (xs : List Block) → each f xs [] ≡ []
unfolding each
none_beside f [] = refl
none_beside f (x ∷ xs) = refl

-- the pairs of the first blocks stand before those of the others
pub each_append : {A : Type 0} (f : Block → Block → A) (xs ys us vs : List Block) → length ys ≡ length xs
    → each f (xs ++ us) (ys ++ vs) ≡ each f xs ys ++ each f us vs
unfolding each
each_append f [] [] us vs e = refl
each_append f [] (y ∷ ys) us vs e = absurd (omega arith)
each_append f (x ∷ xs) [] us vs e = absurd (omega arith)
each_append {A} f (x ∷ xs) (y ∷ ys) us vs e = ap (λ (r : List A). f x y ∷ r) (each_append f xs ys us vs (omega arith))

-- n blocks of two chunks, to each pair of which the rule gives one kind
each_stretch : {A : Type 0} (f : Block → Block → A) (s t : List ℕ) (b c : ℕ) (k l : Kind) (kind : A) (n at to : ℕ)
    → ((j : ℕ) → j < n → f (block_from s b k (at + j * pace b k)) (block_from t c l (to + j * pace c l)) ≡ kind)
    → each f (stretch s b k n at) (stretch t c l n to) ≡ replicate n kind
unfolding stretch each
each_stretch f s t b c k l kind zero at to alike = refl
each_stretch {A} f s t b c k l kind (suc n) at to alike =
    let p : at + 0 * pace b k ≡ at = omega arith in
    let q : to + 0 * pace c l ≡ to = omega arith in
    let here : f (block_from s b k at) (block_from t c l to) ≡ kind = rw (p, q) at (alike 0 (zero-lt-suc n)) in
    let on : (j : ℕ) → j < n → f (block_from s b k (at + pace b k + j * pace b k)) (block_from t c l (to + pace c l + j * pace c l)) ≡ kind =
    λ j i.
    let u : at + pace b k + j * pace b k ≡ at + suc j * pace b k = omega (arith, suc-mul j (pace b k)) in
    let v : to + pace c l + j * pace c l ≡ to + suc j * pace c l = omega (arith, suc-mul j (pace c l)) in
    rw (u, v) (alike (suc j) (omega arith)) in
    ap₂ (λ (x : A) (r : List A). x ∷ r) here (each_stretch f s t b c k l kind n (at + pace b k) (to + pace c l) on)

-- ---- two readers

-- at least the blocks of the chunk that is being read are left
rest_least : {s : List ℕ} {r : Reader} → Reads s r → r.chunk.blocks ≤ length (remaining s r)
rest_least {s} {r} w =
    let xs : List Block = stretch s r.header.block r.chunk.kind r.chunk.blocks r.chunk.body in
    let e = ap length (rest_is w) ∙ length-append xs (blocks_of s r.header.block w.ks) in
    omega (arith, e, length_stretch s r.header.block r.chunk.kind r.chunk.blocks r.chunk.body)

-- the first blocks of the chunk that is being read come before what is left after them
rest_ahead : {s : List ℕ} {r : Reader} → Reads s r → (n : ℕ) → n ≤ r.chunk.blocks → remaining s r ≡ ahead s r n ++ drop n (remaining s r)
rest_ahead {s} {r} w n h =
    let xs : List Block = ahead s r r.chunk.blocks in
    let e : take n (remaining s r) ≡ ahead s r n =
    ap (take n) (rest_is w) ∙ take-append-le n xs (blocks_of s r.header.block w.ks) (omega (arith, length_stretch s r.header.block r.chunk.kind r.chunk.blocks r.chunk.body))
    ∙ stretch_take s r.header.block r.chunk.kind n r.chunk.blocks r.chunk.body h in
    sym (take-append-drop n (remaining s r)) ∙ ap (λ (l : List Block). l ++ drop n (remaining s r)) e

-- two readers past n blocks more
pub record PassedBoth (s t : List ℕ) (a b : Reader) (n : ℕ) (a' b' : Reader) : Type 0 where
  pub after : Beside s t a' b'
  pub same : a'.header ≡ a.header
  pub count : length (remaining s a) ≡ n + length (remaining s a')

-- and a rule gave one kind to each of the pairs
pub record Taken {A : Type 0} (f : Block → Block → A) (s t : List ℕ) (a b : Reader) (kind : A) (n : ℕ) (a' b' : Reader) : Type 0 where
  pub past : PassedBoth s t a b n a' b'
  pub kinds : each f (remaining s a) (remaining t b) ≡ replicate n kind ++ each f (remaining s a') (remaining t b')

module _ {s t : List ℕ} {a b : Reader} (w : Beside s t a b) where
  -- where the first has a block, so has the second
  pub both_have : 0 < a.chunk.blocks → 0 < b.chunk.blocks
  both_have h = go b.chunk.blocks refl
    where
      go : (n : ℕ) → b.chunk.blocks ≡ n → 0 < b.chunk.blocks
      go zero e = absurd (omega (arith, w.long, rest_least w.first.reads, ap length (w.second.settled e)))
      go (suc n) e = omega arith

  -- where it has none, no pair is left
  pub none_left : {A : Type 0} (f : Block → Block → A) → a.chunk.blocks ≡ 0 → each f (remaining s a) (remaining t b) ≡ []
  none_left f e = ap (λ (xs : List Block). each f xs (remaining t b)) (w.first.settled e) ∙ no_pairs f (remaining t b)

  module _ (n : ℕ) (g : n ≤ a.chunk.blocks) where
    -- blocks that both chunks have are passed
    pub passes_both : PassedBoth s t a b n (passed_by s a n) (passed_by t b n)
    passes_both =
        let u = passes s a.header a.left a.cursor a.chunk n w.first.reads in
        let v = passes t b.header b.left b.cursor b.chunk n w.second.reads in
        let la = ap length u.rest ∙ length-drop n (remaining s a) in
        let lb = ap length v.rest ∙ length-drop n (remaining t b) in
        record {
          after =
              record {
                first = u.ready;
                second = v.ready;
                size = ap (λ (x : Header). x.block) u.same ∙ w.size ∙ ap (λ (x : Header). x.block) (sym v.same);
                long = omega (arith, la, lb, w.long);
              };
          same = u.same;
          count = omega (arith, la, rest_least w.first.reads);
        }

    -- their pairs come before those that are left
    pub pairs_ahead : {A : Type 0} (f : Block → Block → A) → n ≤ b.chunk.blocks
        → each f (remaining s a) (remaining t b) ≡ each f (ahead s a n) (ahead t b n) ++ each f (remaining s (passed_by s a n)) (remaining t (passed_by t b n))
    pairs_ahead f h =
        let u = passes s a.header a.left a.cursor a.chunk n w.first.reads in
        let v = passes t b.header b.left b.cursor b.chunk n w.second.reads in
        ap₂ (each f) (rest_ahead w.first.reads n g ∙ ap (λ (r : List Block). ahead s a n ++ r) (sym u.rest))
        (rest_ahead w.second.reads n h ∙ ap (λ (r : List Block). ahead t b n ++ r) (sym v.rest))
        ∙ each_append f (ahead s a n) (ahead t b n) _ _
        (length_stretch t b.header.block b.chunk.kind n b.chunk.body ∙ sym (length_stretch s a.header.block a.chunk.kind n a.chunk.body))

  -- blocks in front are taken
  pub takes : {A : Type 0} (f : Block → Block → A) (kind : A) (n : ℕ) → InFront f s t a b kind n → Taken f s t a b kind n (passed_by s a n) (passed_by t b n)
  takes {A} f kind n p =
      record {
        past = passes_both n p.first;
        kinds =
            pairs_ahead n p.first f p.second
            ∙ ap (λ (r : List A). r ++ each f (remaining s (passed_by s a n)) (remaining t (passed_by t b n)))
            (each_stretch f s t a.header.block b.header.block a.chunk.kind b.chunk.kind kind n a.chunk.body b.chunk.body p.alike);
      }

-- ---- two images that match

module _ {s t : List ℕ} (m : Matched s t) where
  -- they have as many blocks
  pub as_many : length (blocks t) ≡ length (blocks s)
  as_many = (gives m.second).many ∙ sym m.total ∙ sym (gives m.first).many

  -- and need as much room
  pub same_room : needed t ≡ needed s
  same_room = ap₂ (λ (x y : ℕ). x * y) (sym m.total) (sym m.block)

  -- two images that match are opened side by side
  pub opens_beside : Beside s t (opened s) (opened t)
  opens_beside =
      let p = opens m.first in
      let q = opens m.second in
      record {
        first = p.0;
        second = q.0;
        size = ap (λ (x : Header). x.block) p.2 ∙ m.block ∙ ap (λ (x : Header). x.block) (sym q.2);
        long = ap length q.1 ∙ as_many ∙ sym (ap length p.1);
      }

  -- with all their blocks
  pub opens_all : {A : Type 0} (f : Block → Block → A) → each f (remaining s (opened s)) (remaining t (opened t)) ≡ each f (blocks s) (blocks t)
  opens_all f = ap₂ (each f) (opens m.first).1 (opens m.second).1
