-- A reader on its way: what it has still to give.
-- Assumes nothing.
use mathlib.Core.Path.{◌≡◌, refl, sym, ap, ◌∙◌}
use mathlib.Core.Bool.{Bool, true, false, cond}
use mathlib.Core.List.{List, [], ◌++◌}
use Prim.Native.Nat.{ℕ, zero, suc, ◌+◌, ◌-◌, ◌*◌, min, ◌≤◌, ◌<◌}
use native.Mathlib.Nat.{zero-lt-suc, min-eq_left}
use native.Mathlib.Numerals.{sub-one}
use native.Mathlib.Omega.{arith}
use borrow.Author.Tests.{ltb-true, ltb-false}
use lib.Dec.{ltb}
use lib.ListN.{length, drop, length-append, drop_of_length-le}
use lib.Seq.{drop-append-le, drop-append-add, drop-drop}
use Rattle.rules.specs.Answer.{accepted, refused}
use Rattle.sparse_rules.specs.declared.Header.{Header}
use Rattle.sparse_rules.specs.declared.Cursor.{Cursor}
use Rattle.sparse_rules.specs.declared.Kind.{Kind}
use Rattle.sparse_rules.specs.declared.Kind.TheVariants.{Raw, Fill, DontCare, Unknown}
use Rattle.sparse_rules.specs.declared.Chunk.{Chunk}
use Rattle.sparse_rules.specs.Header.{header_of, block_size}
use Rattle.sparse_rules.specs.Chunks.{Reading, chunk, reading}
use Rattle.sparse_rules.specs.Walk.{walk, origin}
use Rattle.sparse_rules.specs.Facts.{Summable, data_bytes}
use Rattle.sparse_rules.proofs.Walk.{ReadOn, read_on, never_refused, ended}
use Rattle.sparse_rules.proofs.Facts.{chunk_facts, accepted_facts}
use Rattle.sparse_rules.proofs.Image.{chunks_walked}
use Rattle.sparse_write_rules.specs.Blocks.{Block}
use Rattle.sparse_write_rules.proofs.Runs.{split_blocks}
use Rattle.sparse_blocks_rules.specs.declared.Reader.{Reader}
use Rattle.sparse_blocks_rules.specs.Blocks.{pace, stretch, blocks_of, needed, found, blocks}
use Rattle.sparse_blocks_rules.specs.Reading.{standing, nothing, less, read_or, passed, opened}
use Rattle.sparse_blocks_rules.specs.Pairs.{Accepted}
use Rattle.sparse_blocks_rules.specs.Beside.{remaining, Reads, Ready}
use Rattle.sparse_blocks_rules.specs.Theorems.{ReaderGives}
use Rattle.sparse_blocks_rules.proofs.Stretches.{length_stretch, stretch_drop, stretch_none, blocks_accepted, blocks_cons, blocks_nil}

-- a reader past n blocks more
pub record Passed (s : List ℕ) (r : Reader) (n : ℕ) (next : Reader) : Type 0 where
  pub ready : Ready s next
  pub same : next.header ≡ r.header
  pub rest : remaining s next ≡ drop n (remaining s r)

-- what is left, where the chunks to come are known
pub left_over : (s : List ℕ) (h : Header) (c : Cursor) (left : ℕ) (k : Chunk) (ks : List Chunk) → walk s (length s) h left c ≡ accepted ks
    → remaining s (standing h c left k) ≡ stretch s h.block k.kind k.blocks k.body ++ blocks_of s h.block ks
unfolding remaining
left_over s h c left k ks e =
    ap (λ (x : List Block). stretch s h.block k.kind k.blocks k.body ++ x) (blocks_accepted s h.block ks e)

-- ---- a chunk less some of its blocks

-- the data of the blocks that are left lie in the image
kind_inside : (s : List ℕ) (b : ℕ) (k : Kind) (blocks body n : ℕ) → n ≤ blocks → body + data_bytes k blocks b ≤ length s
    → (body + n * pace b k ≤ length s) × (body + n * pace b k + data_bytes k (blocks - n) b ≤ length s)
kind_inside s b Raw blocks body n h i = let m = split_blocks blocks n b h in (omega arith, omega arith)
kind_inside s b Fill blocks body n h i = (omega arith, omega arith)
kind_inside s b DontCare blocks body n h i = (omega arith, omega arith)
kind_inside s b Unknown blocks body n h i = (omega arith, omega arith)

module _ {s : List ℕ} {b : ℕ} {k : Chunk} (w : Summable s b k) (n : ℕ) (h : n ≤ k.blocks) where
  -- the place that is read on from
  less_body : (less (length s) b k n).body ≡ k.body + n * pace b k.kind
  unfolding less
  less_body = min-eq_left (kind_inside s b k.kind k.blocks k.body n h w.inside).0

  -- its data lie in the image
  less_here : Summable s b (less (length s) b k n)
  unfolding less
  less_here =
      record {
        most = w.most;
        fours = w.fours;
        inside = rw less_body (kind_inside s b k.kind k.blocks k.body n h w.inside).1;
      }

  -- and the blocks that are left are those after the first n
  less_blocks : stretch s b (less (length s) b k n).kind (less (length s) b k n).blocks (less (length s) b k n).body
      ≡ drop n (stretch s b k.kind k.blocks k.body)
  unfolding less
  less_blocks = rw less_body (sym (stretch_drop s b k.kind n k.blocks k.body))

-- ---- on over the chunks

-- what a reader has left
pub rest_is : {s : List ℕ} {r : Reader} (w : Reads s r)
    → remaining s r ≡ stretch s r.header.block r.chunk.kind r.chunk.blocks r.chunk.body ++ blocks_of s r.header.block w.ks
rest_is {s} {r} w = left_over s r.header r.cursor r.left r.chunk w.ks w.walked

-- a reader past some blocks of its chunk
abbrev shortened : ℕ → Reader → ℕ → Reader
shortened len r n = standing r.header r.cursor r.left (less len r.header.block r.chunk n)

module _ {s : List ℕ} {r : Reader} (w : Reads s r) (n : ℕ) (h : n ≤ r.chunk.blocks) where
  short_reads : Reads s (shortened (length s) r n)
  short_reads = record { ks = w.ks; walked = w.walked; here = less_here w.here n h; least = w.least }

  -- has the blocks after them
  short_rest : remaining s (shortened (length s) r n) ≡ drop n (remaining s r)
  short_rest =
      let xs : List Block = stretch s r.header.block r.chunk.kind r.chunk.blocks r.chunk.body in
      let ys : List Block = blocks_of s r.header.block w.ks in
      left_over s r.header r.cursor r.left (less (length s) r.header.block r.chunk n) w.ks w.walked
      ∙ ap (λ (x : List Block). x ++ ys) (less_blocks w.here n h) ∙ sym (drop-append-le n xs ys (rw length_stretch h))
      ∙ sym (ap (drop n) (rest_is w))

  -- where one of the chunk's is left
  short_some : n < r.chunk.blocks → Passed s r n (shortened (length s) r n)
  unfolding less
  short_some p = record { ready = record { reads = short_reads; settled = λ z. absurd (omega arith) }; same = refl; rest = short_rest }

-- past a whole chunk, in the next
module _ {s : List ℕ} {h : Header} {left : ℕ} {c : Cursor} {k : Chunk} (w : Reads s (standing h c (suc left) k)) (k' : Chunk) (next : Cursor)
    (q : reading s (length s) h c ≡ chunk k' next) where
  on : ReadOn s (length s) h (suc left) w.ks k' next
  on = read_on s (length s) h (suc left) c w.ks w.walked (zero-lt-suc left) k' next q

  next_walked : walk s (length s) h left next ≡ accepted on.rest
  next_walked = rw sub-one at on.walked

  next_reads : Reads s (standing h next left k')
  next_reads =
      let f = chunk_facts s (length s) h c k' next q in
      record {
        ks = on.rest;
        walked = next_walked;
        here = record { most = w.here.most; fours = w.here.fours; inside = omega (arith, f.data_inside, f.inside) };
        least = w.least;
      }

  -- what is left there is what was left, less the chunk
  next_rest : remaining s (standing h next left k') ≡ drop k.blocks (remaining s (standing h c (suc left) k))
  next_rest =
      let b : ℕ = h.block in
      let xs : List Block = stretch s b k.kind k.blocks k.body in
      let long : length xs + 0 ≡ k.blocks = rw length_stretch (omega arith) in
      left_over s h next left k' on.rest next_walked ∙ sym (blocks_cons s b k' on.rest) ∙ ap (blocks_of s b) (sym on.found)
      ∙ sym (drop-append-add xs (blocks_of s b w.ks) 0) ∙ ap (λ (m : ℕ). drop m (xs ++ blocks_of s b w.ks)) long
      ∙ ap (drop k.blocks) (sym (rest_is w))

-- more blocks than the last chunk has: none is left
kind_over : (s : List ℕ) (b : ℕ) (k : Kind) (blocks body n : ℕ) → blocks - n ≡ 0 → body + data_bytes k blocks b ≤ length s
    → min (body + n * pace b k) (length s) + data_bytes k (blocks - n) b ≤ length s
kind_over s b Raw blocks body n z i = rw z (omega arith)
kind_over s b Fill blocks body n z i = omega arith
kind_over s b DontCare blocks body n z i = omega arith
kind_over s b Unknown blocks body n z i = omega arith

module _ {s : List ℕ} {r : Reader} (w : Reads s r) (last : r.left ≡ 0) (n : ℕ) (all : r.chunk.blocks ≤ n) where
  over_none : remaining s (shortened (length s) r n) ≡ []
  unfolding less
  over_none =
      left_over s r.header r.cursor r.left (less (length s) r.header.block r.chunk n) w.ks w.walked
      ∙ ap (λ (x : List Block). x ++ blocks_of s r.header.block w.ks)
      (stretch_none s r.header.block r.chunk.kind (r.chunk.blocks - n) (less (length s) r.header.block r.chunk n).body (omega arith))
      ∙ ap (blocks_of s r.header.block) (ended s (length s) r.header r.left r.cursor w.ks w.walked last).none ∙ blocks_nil s r.header.block

  over_last : Passed s r n (shortened (length s) r n)
  unfolding less
  over_last =
      let b : ℕ = r.header.block in
      let xs : List Block = stretch s b r.chunk.kind r.chunk.blocks r.chunk.body in
      let none = ap (blocks_of s b) (ended s (length s) r.header r.left r.cursor w.ks w.walked last).none ∙ blocks_nil s b in
      let long = ap length (rest_is w) ∙ length-append xs (blocks_of s b w.ks) in
      let few : length (remaining s r) ≤ n = omega (arith, long, ap length none, length_stretch s b r.chunk.kind r.chunk.blocks r.chunk.body) in
      record {
        ready =
            record {
              reads =
                  record {
                    ks = w.ks;
                    walked = w.walked;
                    here =
                        record {
                          most = w.here.most;
                          fours = w.here.fours;
                          inside = kind_over s b r.chunk.kind r.chunk.blocks r.chunk.body n (omega arith) w.here.inside;
                        };
                    least = w.least;
                  };
              settled = λ z. over_none;
            };
        same = refl;
        rest = over_none ∙ sym (drop_of_length-le (remaining s r) few);
      }

-- past n blocks, where it is known what passing some makes of the reader in the next chunk
pass_step : (s : List ℕ) (h : Header) (left : ℕ) (c : Cursor) (k : Chunk) (n : ℕ) → Reads s (standing h c (suc left) k)
    → ((k' : Chunk) (next : Cursor) (m : ℕ) → Reads s (standing h next left k') → Passed s (standing h next left k') m (passed s h left next k' m))
    → Passed s (standing h c (suc left) k) n (passed s h (suc left) c k n)
unfolding passed
pass_step s h left c k n w onward = go (ltb n k.blocks) refl
  where
    by : k.blocks ≤ n → (x : Reading) → reading s (length s) h c ≡ x
        → Passed s (standing h c (suc left) k) n (read_or x (standing h c 0 nothing) (λ r. passed s h left r.1 r.0 (n - k.blocks)))
    by all (refused m place) q = absurd (never_refused s (length s) h (suc left) c w.ks w.walked (zero-lt-suc left) m place q)
    by all (accepted r) q =
        let z : k.blocks + (n - k.blocks) ≡ n = omega arith in
        let v = onward r.0 r.1 (n - k.blocks) (next_reads w r.0 r.1 q) in
        let before : List Block = remaining s (standing h c (suc left) k) in
        record {
          ready = v.ready;
          same = v.same;
          rest =
              v.rest ∙ ap (drop (n - k.blocks)) (next_rest w r.0 r.1 q) ∙ drop-drop (n - k.blocks) k.blocks before
              ∙ ap (λ (m : ℕ). drop m before) z;
        }

    go : (x : Bool) → ltb n k.blocks ≡ x
        → Passed s (standing h c (suc left) k) n
        (cond x (standing h c (suc left) (less (length s) h.block k n))
        (read_or (reading s (length s) h c) (standing h c 0 nothing) (λ r. passed s h left r.1 r.0 (n - k.blocks))))
    go true e = let p = ltb-true n k.blocks e in short_some w n (omega arith) p
    go false e = by (ltb-false n k.blocks e) (reading s (length s) h c) refl

-- past any number of blocks
pub passes : (s : List ℕ) (h : Header) (left : ℕ) (c : Cursor) (k : Chunk) (n : ℕ) → Reads s (standing h c left k)
    → Passed s (standing h c left k) n (passed s h left c k n)
unfolding passed
passes s h zero c k n w = go (ltb n k.blocks) refl
  where
    go : (x : Bool) → ltb n k.blocks ≡ x → Passed s (standing h c 0 k) n (standing h c 0 (less (length s) h.block k n))
    go true e = let p = ltb-true n k.blocks e in short_some w n (omega arith) p
    go false e = over_last w refl n (ltb-false n k.blocks e)
passes s h (suc left) c k n w = pass_step s h left c k n w (λ k' next m v. passes s h left next k' m v)

-- ---- the start

module _ {s : List ℕ} (a : Accepted s) where
  start_walked : walk s (length s) (header_of s) (header_of s).chunks (origin (header_of s)) ≡ accepted a.ks
  unfolding found
  start_walked = chunks_walked s (needed s) a.ks a.is

  start_reads : Reads s (standing (header_of s) (origin (header_of s)) (header_of s).chunks nothing)
  unfolding found
  start_reads =
      let f = (accepted_facts s (length s) (needed s) a.ks a.is).header in
      record {
        ks = a.ks;
        walked = start_walked;
        here = record { most = f.block_most; fours = f.block_fours; inside = omega arith };
        least = f.block_least;
      }

  start_rest : remaining s (standing (header_of s) (origin (header_of s)) (header_of s).chunks nothing) ≡ blocks s
  unfolding blocks
  start_rest =
      left_over s (header_of s) (origin (header_of s)) (header_of s).chunks nothing a.ks start_walked
      ∙ ap (λ (x : List Block). x ++ blocks_of s (block_size s) a.ks) (stretch_none s (block_size s) DontCare 0 0 refl)
      ∙ sym (blocks_accepted s (block_size s) a.ks a.is)

  -- an accepted image, opened, has all its blocks to give
  pub opens : Ready s (opened s) × (remaining s (opened s) ≡ blocks s) × ((opened s).header ≡ header_of s)
  unfolding opened
  opens =
      let v = passes s (header_of s) (header_of s).chunks (origin (header_of s)) nothing 0 start_reads in
      (v.ready, v.rest ∙ start_rest, v.same)

-- what a reader of an accepted image gives
pub reader_gives : ReaderGives
reader_gives =
    record {
      opens = λ s a. let v = opens a in (v.0, v.1);
      passes = λ s r n w. let v = passes s r.header r.left r.cursor r.chunk n w.reads in (v.ready, v.rest);
    }
