-- The second walk: the checksum so far, with the cells of the chunks to come, is the whole checksum.
-- Assumes nothing.
use mathlib.Core.Path.{◌≡◌, sym, ap, ◌∙◌}
use mathlib.Core.List.{List, []}
use Prim.Native.Nat.{ℕ, ◌-◌, ◌<◌, ◌+◌, ◌*◌, ◌^◌, ◌≤◌, zero-le}
use native.Mathlib.Nat.{le_trans, add-mul}
use native.Mathlib.Omega.{arith}
use lib.Bits.{bit_xor}
use lib.ListN.{length}
use Rattle.crc32_rules.specs.Crc.{crc_from, all_ones}
use Rattle.sparse_rules.specs.declared.Header.{Header}
use Rattle.sparse_rules.specs.declared.Cursor.{Cursor}
use Rattle.sparse_rules.specs.declared.Chunk.{Chunk}
use Rattle.sparse_rules.specs.declared.Counts.{Counts}
use Rattle.rules.specs.Answer.{refused, accepted, unless}
use Rattle.sparse_rules.specs.Chunks.{chunk, reading}
use Rattle.sparse_rules.specs.Walk.{walk, origin}
use Rattle.sparse_rules.specs.Cells.{cells_of, cells, zeroed, checksum_of}
use Rattle.rules.specs.First.{first}
use Rattle.sparse_rules.specs.Header.{header_of, block_size, stated_checksum}
use Rattle.sparse_rules.specs.Judge.{sum_tests, structure}
use Rattle.sparse_rules.proofs.Image.{structure_walk}
use Rattle.sparse_rules.proofs.Facts.{chunk_facts, sum_none, sum_refused, sum_passed}
use Rattle.crc32_rules.proofs.Laws.{crc_nil}
use Rattle.sparse_judge.specs.declared.sum.Sum.{Sum}
use Rattle.sparse_judge.specs.Pending.{state_of}
use Rattle.sparse_judge.proofs.Pending.{Summed}
use Rattle.sparse_rules.proofs.Walk.{read_on, never_refused, ended}
use Rattle.sparse_rules.proofs.SumLaws.{product, sum_nil, sum_cons, sum_finish}

-- what is left to sum, of the chunks of an image whose structure holds
pub record Rest (s : List ℕ) (h : Header) (n : ℕ) (c : Cursor) (state : ℕ) (ks : List Chunk) : Type 0 where
  pub chunks : List Chunk
  pub walked : walk s (length s) h n c ≡ accepted chunks
  pub sum : checksum_of s h.block ks ≡ bit_xor (crc_from state (zeroed (cells s h.block chunks))) all_ones

-- a turn of the walk: so many chunks left from a cursor on, and the state after those before it
abbrev pub Summing : List ℕ → Header → ℕ → Cursor → ℕ → Type 0
Summing s h n c state = (ks : List Chunk) → structure s (length s) ≡ accepted ks → Rest s h n c state ks

pub summing_start : (s : List ℕ) (h : Header) (state : ℕ) → h ≡ header_of s → state ≡ all_ones → Summing s h h.chunks (origin h) state
summing_start s h state g z ks e = record { chunks = ks; walked = structure_walk s (length s) h g ∙ e; sum = rw z (sum_finish s h.block ks) }

-- the checksum that the header states
stated_is : (s : List ℕ) (h : Header) → h ≡ header_of s → h.checksum ≡ stated_checksum s
stated_is s h g = ap (λ (y : Header). y.checksum) g

-- none is stated
pub none_is_stated : (s : List ℕ) (h : Header) (ks : List Chunk) → h ≡ header_of s → (t : Counts) → h.checksum ≡ 0
    → accepted t ≡ unless (first (sum_tests s ks)) 24 (accepted t)
none_is_stated s h ks g t z = rw (sum_none s ks (sym (stated_is s h g) ∙ z))

module _ (s : List ℕ) (h : Header) (n : ℕ) (c : Cursor) (state : ℕ) (i : Summing s h n c state) where
  -- a chunk that is read
  pub summing_step : (k : Chunk) (next : Cursor) (x : ℕ) → 0 < n → reading s (length s) h c ≡ chunk k next → x ≡ crc_from state (zeroed (cells_of s h.block k))
      → Summing s h (n - 1) next x
  summing_step k next x p e m ks q =
      let r = i ks q in
      let t = read_on s (length s) h n c r.chunks r.walked p k next e in
      record {
        chunks = t.rest;
        walked = t.walked;
        sum =
            r.sum
            ∙ ap (λ (ls : List Chunk). bit_xor (crc_from state (zeroed (cells s h.block ls))) all_ones) t.found
            ∙ ap (λ (y : ℕ). bit_xor y all_ones) (sum_cons state s h.block k t.rest)
            ∙ rw m;
      }

  -- no chunk is refused
  pub summing_refused : (m place : ℕ) → 0 < n → reading s (length s) h c ≡ refused m place
      → (ks : List Chunk) → structure s (length s) ≡ accepted ks → ⊥
  summing_refused m place p e ks q = let r = i ks q in never_refused s (length s) h n c r.chunks r.walked p m place e

  -- the checksum
  module _ (z : n ≡ 0) (x : ℕ) (f : x ≡ bit_xor state all_ones) (ks : List Chunk) (q : structure s (length s) ≡ accepted ks) where
    summing_done : checksum_of s h.block ks ≡ x
    summing_done =
        let r = i ks q in
        let none : r.chunks ≡ [] = (ended s (length s) h n c r.chunks r.walked z).none in
        r.sum
        ∙ ap (λ (ls : List Chunk). bit_xor (crc_from state (zeroed (cells s h.block ls))) all_ones) none
        ∙ ap (λ (y : ℕ). bit_xor y all_ones) (sum_nil state s h.block)
        ∙ sym f

    module _ (g : h ≡ header_of s) (t : Counts) where
      true_sum : checksum_of s (block_size s) ks ≡ x
      true_sum = ap (λ (y : Header). checksum_of s y.block ks) (sym g) ∙ summing_done

      -- the checksum differs from the stated one
      pub summing_differs : (h.checksum ≡ 0 → ⊥) → (x ≡ h.checksum → ⊥) → refused 11 24 ≡ unless (first (sum_tests s ks)) 24 (accepted t)
      summing_differs o d = rw (sum_refused s ks (λ e. o (stated_is s h g ∙ e)) (λ e. d (sym true_sum ∙ e ∙ sym (stated_is s h g))))

      -- it is the stated one
      pub summing_agrees : x ≡ h.checksum → accepted t ≡ unless (first (sum_tests s ks)) 24 (accepted t)
      summing_agrees d = rw (sum_passed s ks (true_sum ∙ d ∙ stated_is s h g))

-- ---- zeros that wait

-- a turn of the walk, with the state once the zeros that wait are summed, and no more of them than the blocks before the cursor have bytes
pub record Turn (s : List ℕ) (h : Header) (n : ℕ) (c : Cursor) (x : Sum) : Type 0 where
  pub goes : Summing s h n c (state_of x)
  pub few : x.zeros ≤ c.first * h.block

-- the walk begins with the state before the first byte, and no zeros
pub turn_start : (s : List ℕ) (h : Header) (state : ℕ) → h ≡ header_of s → state ≡ all_ones → {n : ℕ} → n ≡ h.chunks → Turn s h n (origin h) (record { state = state; zeros = 0 })
turn_start s h state g z e = rw e (record { goes = summing_start s h (state_of (record { state = state; zeros = 0 })) g (crc_nil state ∙ z); few = zero-le })

module _ (s : List ℕ) (h : Header) (n : ℕ) (c : Cursor) (x : Sum) (i : Turn s h n c x) (k : Chunk) (next : Cursor) (e : reading s (length s) h c ≡ chunk k next) where
  -- the zeros that wait, with the chunk's own bytes, are no more than the blocks before the next cursor have
  waits : x.zeros + k.blocks * h.block ≤ next.first * h.block
  waits =
      let f = chunk_facts s (length s) h c k next e in
      let sum : next.first * h.block ≡ c.first * h.block + k.blocks * h.block = rw f.blocks (add-mul c.first k.blocks h.block) in
      omega (arith, i.few)

  -- so they fit in 64 bits
  pub fits : h.total < 2 ^ 32 → h.block ≤ 65536 → x.zeros + k.blocks * h.block < 0x10000000000000000
  fits t b =
      let f = chunk_facts s (length s) h c k next e in
      let m = product next.first h.block (omega (arith, f.within)) b in
      omega (arith, waits)

  -- a chunk that is read
  pub turn_step : {m : ℕ} → m + 1 ≡ n → (r : Sum) → Summed x s h.block k r → Turn s h m next r
  turn_step {m} p r w =
      let q : n - 1 ≡ m = omega arith in
      let some : 0 < n = omega arith in
      rw (← q) (record { goes = summing_step s h n c (state_of x) i.goes k next (state_of r) some e w.0; few = le_trans w.1 waits })
