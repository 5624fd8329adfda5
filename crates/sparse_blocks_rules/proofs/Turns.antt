-- The turns of the loops: a reader passed on chunk by chunk, and bytes compared.
-- Assumes nothing.
use mathlib.Core.Path.{◌≡◌, refl, sym, ap}
use mathlib.Core.Bool.{Bool, true, false, ◌&&◌}
use mathlib.Core.List.{List, [], ◌∷◌}
use Prim.Native.Nat.{ℕ, zero, suc, ◌+◌, ◌-◌, ◌*◌, min, ◌≤◌, ◌<◌}
use native.Mathlib.Nat.{not-suc-le-zero}
use native.Mathlib.Numerals.{sub-one}
use native.Mathlib.Omega.{arith}
use borrow.Author.Tests.{leb-true, leb-false, ltb-true, ltb-false, lt-ltb, le-ltb}
use lib.Dec.{leb, ltb, eqb}
use lib.ListN.{length, take, drop}
use lib.Pointwise.{pointwise}
use Rattle.rules.specs.Answer.{refused}
use Rattle.rules.proofs.Tests.{both, and_rest}
use Rattle.sparse_rules.specs.declared.Header.{Header}
use Rattle.sparse_rules.specs.declared.Cursor.{Cursor}
use Rattle.sparse_rules.specs.declared.Chunk.{Chunk}
use Rattle.sparse_rules.specs.Chunks.{chunk, reading}
use Rattle.sparse_rules.specs.Cells.{tab, raw_byte}
use Rattle.sparse_write_rules.proofs.KindCells.{raw_part}
use Rattle.sparse_blocks_rules.specs.Blocks.{pace}
use Rattle.sparse_blocks_rules.specs.Same.{alike, same_bytes_at}
use Rattle.sparse_blocks_rules.specs.Reading.{standing, nothing, less, passed}

-- ---- a reader

-- the test of a turn: all blocks of the chunk are passed, and another chunk comes
pub more_on : (blocks n left : ℕ) → (leb blocks n && ltb 0 left) ≡ true → (blocks ≤ n) × (0 < left)
more_on blocks n left e = let p = both (leb blocks n) (ltb 0 left) e in (leb-true blocks n p.0, ltb-true 0 left p.1)

module _ (s : List ℕ) (h : Header) where
  -- on with the chunk that is read
  pub passed_on : (left : ℕ) (c : Cursor) (k : Chunk) (n : ℕ) (k' : Chunk) (next : Cursor) → (leb k.blocks n && ltb 0 left) ≡ true
      → reading s (length s) h c ≡ chunk k' next → passed s h left c k n ≡ passed s h (left - 1) next k' (n - k.blocks)
  unfolding passed
  passed_on zero c k n k' next e q = absurd (not-suc-le-zero (more_on k.blocks n 0 e).1)
  passed_on (suc left) c k n k' next e q = rw (sub-one, le-ltb n k.blocks (more_on k.blocks n (suc left) e).0, q)

  -- a chunk that is refused ends the image
  pub passed_end : (left : ℕ) (c : Cursor) (k : Chunk) (n m place : ℕ) → (leb k.blocks n && ltb 0 left) ≡ true
      → reading s (length s) h c ≡ refused m place → passed s h left c k n ≡ standing h c 0 nothing
  unfolding passed
  passed_end zero c k n m place e q = absurd (not-suc-le-zero (more_on k.blocks n 0 e).1)
  passed_end (suc left) c k n m place e q = rw (le-ltb n k.blocks (more_on k.blocks n (suc left) e).0, q)

  -- the reader stays in a chunk that has a block left, and in the last
  pub passed_here : (left : ℕ) (c : Cursor) (k : Chunk) (n : ℕ) → (leb k.blocks n && ltb 0 left) ≡ false
      → passed s h left c k n ≡ standing h c left (less (length s) h.block k n)
  unfolding passed
  passed_here zero c k n e = refl
  passed_here (suc left) c k n e = go (leb k.blocks n) refl
    where
      go : (x : Bool) → leb k.blocks n ≡ x → passed s h (suc left) c k n ≡ standing h c (suc left) (less (length s) h.block k n)
      go true q = absurd (omega (arith, ltb-false 0 (suc left) (and_rest (leb k.blocks n) (ltb 0 (suc left)) e q)))
      go false q = rw (lt-ltb n k.blocks (leb-false k.blocks n q))

-- ---- bytes

-- slices' equality finds the same
pub equal_alike : (xs ys : List ℕ) → pointwise eqb xs ys ≡ alike xs ys
unfolding alike
equal_alike [] [] = refl
equal_alike [] (y ∷ ys) = refl
equal_alike (x ∷ xs) [] = refl
equal_alike (x ∷ xs) (y ∷ ys) = ap (λ (z : Bool). eqb x y && z) (equal_alike xs ys)

-- n bytes from a place on, as they are handed on
pub part_is : (s : List ℕ) (i n : ℕ) → i + n ≤ length s → take (i + n - i) (drop i s) ≡ tab (raw_byte s i) 0 n
part_is s i n h =
    let z : i + n - i ≡ n = omega arith in
    rw z (sym (raw_part s i n h))

module _ (s : List ℕ) (i : ℕ) (t : List ℕ) (j n : ℕ) where
  -- bytes that both images have are compared
  pub same_parts : leb (i + n) (length s) ≡ true → leb (j + n) (length t) ≡ true
      → alike (take (i + n - i) (drop i s)) (take (j + n - j) (drop j t)) ≡ same_bytes_at s i t j n
  unfolding same_bytes_at
  same_parts p q = rw (p, q, part_is s i n (leb-true (i + n) (length s) p), part_is t j n (leb-true (j + n) (length t) q))

  -- bytes that an image lacks are not the same
  pub lacks_first : leb (i + n) (length s) ≡ false → false ≡ same_bytes_at s i t j n
  unfolding same_bytes_at
  lacks_first p = rw p

  pub lacks_second : leb (i + n) (length s) ≡ true → leb (j + n) (length t) ≡ false → false ≡ same_bytes_at s i t j n
  unfolding same_bytes_at
  lacks_second p q = rw (p, q)

  -- the first image has the bytes that are the same
  pub same_within : same_bytes_at s i t j n ≡ true → i + n ≤ length s
  unfolding same_bytes_at
  same_within e =
      let a : Bool = leb (i + n) (length s) in
      let b : Bool = leb (j + n) (length t) in
      leb-true (i + n) (length s) (both a b (both (a && b) (alike (tab (raw_byte s i) 0 n) (tab (raw_byte t j) 0 n)) e).0).0

-- ---- a chunk less some blocks

-- of its parts
pub less_is : (len b : ℕ) (k : Chunk) (n : ℕ) {p body blocks : ℕ} → p ≡ pace b k.kind → body ≡ min (k.body + n * p) len → blocks ≡ k.blocks - n
    → ◌≡◌ {A = Chunk} (record { kind = k.kind; blocks = blocks; body = body }) (less len b k n)
unfolding less
less_is len b k n e f g = rw (g, f, e)
