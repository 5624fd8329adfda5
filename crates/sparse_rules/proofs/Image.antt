-- What an answer says of an image, and what an accepted image gives: the laws that those who store, list or write images go by.
-- Assumes nothing.
use mathlib.Core.Path.{◌≡◌, refl, ap}
use mathlib.Core.Option.{some}
use mathlib.Core.List.{List, [], ◌∷◌, map}
use Prim.Native.Nat.{ℕ, zero, suc, ◌+◌, ◌*◌, ◌≤◌}
use native.Mathlib.Nat.{zero-lt-suc}
use native.Mathlib.Numerals.{sub-one}
use native.Mathlib.Omega.{arith}
use lib.ListN.{length}
use Rattle.sparse_rules.specs.declared.Header.{Header}
use Rattle.sparse_rules.specs.declared.Cursor.{Cursor}
use Rattle.sparse_rules.specs.declared.Kind.TheVariants.{Raw, Fill}
use Rattle.sparse_rules.specs.declared.Chunk.{Chunk}
use Rattle.sparse_rules.specs.declared.Counts.{Counts}
use Rattle.sparse_rules.specs.Header.{header_of, block_size, total_chunks}
use Rattle.sparse_rules.specs.Walk.{Finding, walk, origin}
use Rattle.rules.specs.Answer.{refused, accepted}
use Rattle.sparse_rules.specs.Cells.{tab, raw_byte, fill_byte, cells_by, cells_of, cells}
use Rattle.sparse_rules.specs.Judge.{structure, judged, effect_of, effect}
use Rattle.sparse_rules.specs.Counts.{counts_of}
use Rattle.sparse_rules.specs.Answers.{answer_for, answer}
use Rattle.sparse_rules.specs.Facts.{data_bytes}
use Rattle.rules.proofs.Answer.{accepted_same}
use Rattle.sparse_rules.proofs.Walk.{stepped, ended}
use Rattle.sparse_rules.proofs.Facts.{chunk_facts, accepted_facts}

-- ---- an image

-- the structure of an image is the walk by its header, from the first chunk on
pub structure_walk : (s : List ℕ) (len : ℕ) (h : Header) → h ≡ header_of s → walk s len h h.chunks (origin h) ≡ structure s len
unfolding structure
structure_walk s len h e = rw e

module _ (s : List ℕ) (room : ℕ) where
  -- an accepted image gives the bytes of its chunks
  pub effect_accepted : (ks : List Chunk) → judged s (length s) room ≡ accepted ks → effect s room ≡ cells s (block_size s) ks
  unfolding effect effect_of
  effect_accepted ks e = ap (effect_of s) e

  -- a refused one gives none
  pub effect_refused : (n place : ℕ) → judged s (length s) room ≡ refused n place → effect s room ≡ []
  unfolding effect effect_of
  effect_refused n place e = ap (effect_of s) e

  -- the chunks of an accepted image are those of the walk from the first one on
  pub chunks_walked : (ks : List Chunk) → judged s (length s) room ≡ accepted ks
      → walk s (length s) (header_of s) (total_chunks s) (origin (header_of s)) ≡ accepted ks
  unfolding structure
  chunks_walked ks e = (accepted_facts s (length s) room ks e).chunks

-- ---- how long an image is

-- what chunks take of an image at least, at a block size: a header of 12 bytes each, and their data
abbrev pub taken : ℕ → List Chunk → ℕ
taken b [] = 0
taken b (k ∷ ks) = 12 + data_bytes k.kind k.blocks b + taken b ks

-- an accepted walk's chunks lie one after the other
taken_walk : (s : List ℕ) (len : ℕ) (h : Header) → 12 ≤ h.head → (n : ℕ) (c : Cursor) (ks : List Chunk) → walk s len h n c ≡ accepted ks → c.at ≤ len
    → c.at + taken h.block ks ≤ len
taken_walk s len h p zero c ks e l = rw (ended s len h zero c ks e refl).none (omega arith)
taken_walk s len h p (suc n) c ks e l =
    let d = stepped s len h (suc n) c ks e (zero-lt-suc n) in
    let f = chunk_facts s len h c d.here d.next d.read in
    let r = taken_walk s len h p n d.next d.rest (rw sub-one at d.walked) f.inside in
    rw d.found (omega (arith, f.body, f.data_inside, r))

-- an accepted image has room for its header and for what its chunks take
pub taken_least : (s : List ℕ) (room : ℕ) (ks : List Chunk) → judged s (length s) room ≡ accepted ks → 28 + taken (block_size s) ks ≤ length s
taken_least s room ks e =
    let h = (accepted_facts s (length s) room ks e).header in
    omega (arith, h.start_least, taken_walk s (length s) (header_of s) h.head_least (total_chunks s) (origin (header_of s)) ks (chunks_walked s room ks e) h.start_inside)

-- ---- an answer

-- a finding that is answered with counts has chunks of so many blocks
pub record Counted (f : Finding) (c : Counts) : Type 0 where
  pub ks : List Chunk
  pub found : f ≡ accepted ks
  pub counts : c ≡ counts_of ks

counted : (f : Finding) (c : Counts) → accepted c ≡ answer_for f → Counted f c
unfolding answer_for
counted (accepted ks) c e = record { ks = ks; found = refl; counts = accepted_same e }
counted (refused n place) c e = let z : ◌≡◌ {A = ℕ} 0 1 = cc in absurd (omega arith)

turned_down : (f : Finding) (n place : ℕ) → refused n place ≡ answer_for f → f ≡ refused n place
unfolding answer_for
turned_down (accepted ks) n place e = let z : ◌≡◌ {A = ℕ} 0 1 = cc in absurd (omega arith)
turned_down (refused m at) n place e = cc

module _ (s : List ℕ) (len room : ℕ) where
  -- an image that is answered with counts is accepted, with chunks of so many blocks
  pub answer_accepted : (c : Counts) → accepted c ≡ answer s len room → Counted (judged s len room) c
  unfolding answer
  answer_accepted c e = counted (judged s len room) c e

  -- one that is answered with a refusal is refused
  pub answer_refused : (n place : ℕ) → refused n place ≡ answer s len room → judged s len room ≡ refused n place
  unfolding answer
  answer_refused n place e = turned_down (judged s len room) n place e

  -- an accepted image is answered with its counts
  pub answer_counts : (ks : List Chunk) → judged s len room ≡ accepted ks → answer s len room ≡ accepted (counts_of ks)
  unfolding answer answer_for
  answer_counts ks e = ap answer_for e

-- ---- a chunk

-- a chunk's cells are those of its kind, over all its blocks
pub chunk_cells : (s : List ℕ) (b : ℕ) (k : Chunk) → cells_of s b k ≡ cells_by s k.kind k.body (k.blocks * b)
unfolding cells_of
chunk_cells s b k = refl

-- raw cells are the data
pub raw_cells : (s : List ℕ) (at n : ℕ) → cells_by s Raw at n ≡ map some (tab (raw_byte s at) 0 n)
unfolding cells_by
raw_cells s at n = refl

-- fill cells are the 4 bytes, repeated
pub fill_cells : (s : List ℕ) (at n : ℕ) → cells_by s Fill at n ≡ map some (tab (fill_byte s at) 0 n)
unfolding cells_by
fill_cells s at n = refl
