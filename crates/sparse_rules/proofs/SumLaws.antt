-- The checksum's state over a chunk's cells, kind by kind, and over one chunk after the other.
-- Assumes nothing.
use mathlib.Core.Path.{◌≡◌, sym, ap}
use mathlib.Core.Bool.{false}
use mathlib.Core.List.{List, [], ◌∷◌}
use Prim.Native.Nat.{ℕ, zero, suc, ◌+◌, ◌-◌, ◌*◌, ◌/◌, ◌%◌, ◌^◌, ◌≤◌, ◌<◌}
use native.Mathlib.Nat.{le_trans, mul-le-mul_left, mul-le-mul_right, zero-mul, suc-mul}
use native.Mathlib.Omega.{arith}
use lib.Bits.{bit_xor}
use lib.ListN.{length, get_or, take, drop, replicate}
use Rattle.fields_rules.specs.Number.{number_at, bytes}
use Rattle.crc32_rules.specs.Crc.{crc_from, all_ones}
use Rattle.crc32_rules.specs.Power.{repeated}
use Rattle.crc32_rules.proofs.Laws.{crc_nil, crc-append, crc_finish}
use Rattle.sparse_rules.specs.declared.Kind.{Kind}
use Rattle.sparse_rules.specs.declared.Kind.TheVariants.{Raw, Fill, DontCare, Unknown}
use Rattle.sparse_rules.specs.declared.Chunk.{Chunk}
use Rattle.sparse_rules.specs.Cells.{cells_of, cells, zeroed, checksum_of}
use Rattle.sparse_rules.specs.Counts.{writes}
use Rattle.sparse_rules.specs.Facts.{data_bytes, Summable}
use Rattle.sparse_rules.proofs.Cells.{cells_nil, cells_cons, zeroed_append, zeroed_raw, zeroed_fill, zeroed_kept}

-- blocks of at most 65,536 bytes, counted in 32 bits, are at most 2^48 bytes
pub product : (k b : ℕ) → k < 2 ^ 32 → b ≤ 65536 → k * b ≤ 281474976710656
product k b h g = le_trans (mul-le-mul_right b (omega arith)) (mul-le-mul_left 4294967296 g)

fours : (k b : ℕ) → b % 4 ≡ 0 → k * b % 4 ≡ 0
fours zero b e = rw (zero-mul b)
fours (suc k) b e = rw (suc-mul k b) (omega (arith, fours k b e))

-- blocks of whole words are whole words
pub words : (k b : ℕ) → b % 4 ≡ 0 → 4 * (k * b / 4) ≡ k * b
words k b e = omega (arith, fours k b e)

-- ---- a chunk

module _ (state : ℕ) (s : List ℕ) (b : ℕ) (k : Chunk) (w : Summable s b k) where
  -- a raw chunk's blocks lie in the image
  pub raw_inside : k.kind ≡ Raw → k.body + k.blocks * b ≤ length s
  raw_inside e = rw e at w.inside

  -- raw: the data as they stand in the image, from their first byte to their end
  pub sum_raw : k.kind ≡ Raw → crc_from state (take (k.body + k.blocks * b - k.body) (drop k.body s)) ≡ crc_from state (zeroed (cells_of s b k))
  unfolding cells_of
  sum_raw e =
      let n : k.body + k.blocks * b - k.body ≡ k.blocks * b = omega arith in
      rw (e, n) (ap (crc_from state) (sym (zeroed_raw s k.body (k.blocks * b) (raw_inside e))))

  -- fill: the word, repeated
  pub sum_fill : ((i : ℕ) → get_or s i 0 < 256) → k.kind ≡ Fill
      → crc_from state (repeated (k.blocks * b / 4) (bytes 4 (number_at s k.body 4))) ≡ crc_from state (zeroed (cells_of s b k))
  unfolding cells_of
  sum_fill small e =
      let p : 4 * (k.blocks * b / 4) ≡ k.blocks * b = words k.blocks b w.fours in
      rw e (ap (crc_from state) (sym (rw p at (zeroed_fill s small k.body (k.blocks * b / 4)))))

  -- the others: zeros
  pub sum_kept : writes k.kind ≡ false → crc_from state (replicate (k.blocks * b) 0) ≡ crc_from state (zeroed (cells_of s b k))
  unfolding cells_of
  sum_kept e = ap (crc_from state) (sym (zeroed_kept s k.kind k.body (k.blocks * b) e))

-- the first blocks of a chunk, as one
pub summable_first : (s : List ℕ) (b : ℕ) (k : Chunk) (n : ℕ) → Summable s b k → n ≤ k.blocks → Summable s b (record { kind = k.kind; blocks = n; body = k.body })
summable_first s b k n w h = record { most = w.most; fours = w.fours; inside = go k.kind w.inside }
  where
    go : (kind : Kind) → k.body + data_bytes kind k.blocks b ≤ length s → k.body + data_bytes kind n b ≤ length s
    go Raw l = omega (arith, mul-le-mul_right b h)
    go Fill l = l
    go DontCare l = l
    go Unknown l = l

-- ---- chunk after chunk

-- no chunks leave the state
pub sum_nil : (state : ℕ) (s : List ℕ) (b : ℕ) → crc_from state (zeroed (cells s b [])) ≡ state
unfolding zeroed
sum_nil state s b = rw (cells_nil s b) (crc_nil state)

-- the state over the first chunk goes on over the others
pub sum_cons : (state : ℕ) (s : List ℕ) (b : ℕ) (k : Chunk) (ks : List Chunk)
    → crc_from state (zeroed (cells s b (k ∷ ks))) ≡ crc_from (crc_from state (zeroed (cells_of s b k))) (zeroed (cells s b ks))
sum_cons state s b k ks = rw (cells_cons s b k ks, zeroed_append (cells_of s b k) (cells s b ks)) (crc-append state (zeroed (cells_of s b k)) (zeroed (cells s b ks)))

-- the checksum is the state from all ones over every chunk, inverted
pub sum_finish : (s : List ℕ) (b : ℕ) (ks : List Chunk) → checksum_of s b ks ≡ bit_xor (crc_from all_ones (zeroed (cells s b ks))) all_ones
unfolding checksum_of
sum_finish s b ks = crc_finish (zeroed (cells s b ks))
