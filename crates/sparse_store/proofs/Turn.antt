-- The turns of the loop that stores the first blocks of an accepted image: what is left to store, laid over what the
-- partition holds, gives the whole.
-- Assumes nothing.
use mathlib.Core.Path.{◌≡◌, refl, sym, ap, ◌∙◌}
use mathlib.Core.Bool.{Bool, true, false, cond}
use mathlib.Core.Option.{Option, none}
use mathlib.Core.List.{List, [], ◌∷◌}
use Prim.Native.Nat.{ℕ, zero, suc, ◌+◌, ◌-◌, ◌*◌, min, ◌≤◌, ◌<◌}
use native.Mathlib.Nat.{zero-mul, add-mul, mul-le-mul_right}
use native.Mathlib.Omega.{arith}
use lib.ListN.{length, replicate}
use Rattle.sparse_rules.specs.declared.Header.{Header}
use Rattle.sparse_rules.specs.declared.Cursor.{Cursor}
use Rattle.sparse_rules.specs.declared.Chunk.{Chunk}
use Rattle.sparse_rules.specs.Header.{header_of, total_chunks}
use Rattle.rules.specs.Answer.{refused, accepted}
use Rattle.sparse_rules.specs.Chunks.{chunk, reading}
use Rattle.sparse_rules.specs.Walk.{walk, origin}
use Rattle.sparse_rules.specs.Cells.{count, cells_by, cells}
use Rattle.sparse_rules.specs.Counts.{writes, written}
use Rattle.sparse_rules.specs.Facts.{HeaderFacts, ChunkFacts}
use Rattle.sparse_rules.proofs.Walk.{read_on, never_refused, ended}
use Rattle.sparse_rules.proofs.Facts.{chunk_facts, accepted_facts}
use Rattle.sparse_rules.proofs.Counting.{where_nil, where_cons}
use Rattle.sparse_rules.proofs.Image.{chunks_walked}
use Rattle.sparse_store_rules.specs.Store.{torn, laid, store_up_to}
use Rattle.sparse_store_rules.proofs.Over.{length_over, laid_kept}
use Rattle.sparse_store_rules.proofs.Cut.{limit_cells}
use Rattle.sparse_store_rules.proofs.CutChunks.{torn-zero, takes, laid_on}
use Rattle.sparse_store.specs.Storable.{Storable}

-- so many blocks are left to store, from a cursor on
pub record Turn (s : List ℕ) (h : Header) (p₀ : List ℕ) (limit : ℕ) (p : List ℕ) (c : Cursor) (left : ℕ) : Type 0 where
  -- the chunks from here on, and how many there are
  pub n : ℕ
  pub ks : List Chunk
  pub walked : walk s (length s) h n c ≡ accepted ks
  -- the header keeps its rules
  pub header : HeaderFacts h (length s) (length p₀)
  pub first : c.first ≤ h.total
  -- the chunks have so many blocks to write
  pub enough : left ≤ written ks
  pub size : length p ≡ length p₀
  -- laid over what the partition holds, what is left gives the whole
  pub goes : laid (c.first * h.block) (torn (left * h.block) [] (cells s h.block ks)) p ≡ store_up_to limit s p₀

-- before the first chunk all is left
pub turn_start : (s p : List ℕ) (h : Header) (count : ℕ) → h ≡ header_of s → Storable s (length p) count → Turn s h p count p (origin h) count
turn_start s p h count e a =
    let facts = accepted_facts s (length s) (length p) a.ks a.found in
    record {
      n = total_chunks s;
      ks = a.ks;
      walked = rw e (chunks_walked s (length p) a.ks a.found);
      header = rw e facts.header;
      first = omega arith;
      enough = a.enough;
      size = refl;
      goes = rw (e, zero-mul) (sym (limit_cells s p a.ks a.found count));
    }

module _ {s : List ℕ} {h : Header} {p₀ : List ℕ} {limit : ℕ} {p : List ℕ} {c : Cursor} {left : ℕ} (turn : Turn s h p₀ limit p c left) where
  -- after the last block the whole is stored
  pub turn_done : left ≤ 0 → p ≡ store_up_to limit s p₀
  turn_done e =
      let b : ℕ = h.block in
      let cs : List (Option ℕ) = cells s b turn.ks in
      let none_left : left * b ≡ 0 = let z : left ≡ 0 = omega arith in rw z (zero-mul b) in
      let kept : torn (left * b) [] cs ≡ replicate (length cs) none = ap (λ (m : ℕ). torn m [] cs) none_left ∙ torn-zero cs in
      sym (laid_kept (c.first * b) (length cs) p)
      ∙ ap (λ (ds : List (Option ℕ)). laid (c.first * b) ds p) (sym kept) ∙ turn.goes

  -- before it there is a chunk
  more : 0 < left → 0 < turn.n
  more some_left = go turn.n refl
    where
      go : (n : ℕ) → turn.n ≡ n → 0 < turn.n
      go zero q =
          let d = ended s (length s) h turn.n c turn.ks turn.walked q in
          let z : written turn.ks ≡ 0 = rw d.none (where_nil writes) in
          absurd (omega (arith, turn.enough))
      go (suc n) q = omega arith

  -- which is not refused
  pub not_refused : 0 < left → (m place : ℕ) → refused m place ≡ reading s (length s) h c → ⊥
  not_refused some_left m place q = never_refused s (length s) h turn.n c turn.ks turn.walked (more some_left) m place (sym q)

-- a chunk is read in a turn
pub record Here (s : List ℕ) (h : Header) (p₀ : List ℕ) (limit : ℕ) (p : List ℕ) (c : Cursor) (left : ℕ) (k : Chunk) (next : Cursor) : Type 0 where
  pub turn : Turn s h p₀ limit p c left
  pub some_left : 0 < left
  pub read : chunk k next ≡ reading s (length s) h c

module _ {s : List ℕ} {h : Header} {p₀ : List ℕ} {limit : ℕ} {p : List ℕ} {c : Cursor} {left : ℕ} {k : Chunk} {next : Cursor} (here : Here s h p₀ limit p c left k next) where
  facts : ChunkFacts s (length s) h c k next
  facts = chunk_facts s (length s) h c k next (sym here.read)

  -- less of the image is left after it
  pub passes : length s - next.at < length s - c.at
  passes = omega (arith, facts.body, facts.header_inside, facts.inside, here.turn.header.head_least)

  -- its stretch lies in the partition
  pub stretch : c.first * h.block + k.blocks * h.block ≤ length p₀
  stretch =
      let b : ℕ = h.block in
      let most : next.first * b ≤ h.total * b = mul-le-mul_right b facts.within in
      let sum : next.first * b ≡ c.first * b + k.blocks * b = rw facts.blocks (add-mul c.first k.blocks b) in
      omega (arith, here.turn.header.fits)

  -- at most all its blocks are taken
  most : takes left k ≤ k.blocks
  most = go (writes k.kind)
    where
      go : (x : Bool) → min left (cond x k.blocks 0) ≤ k.blocks
      go true = omega arith
      go false = omega arith

  module _ {took : ℕ} (take-is : took ≡ takes left k) where
    -- at most so many as are left
    pub took_left : took ≤ left
    took_left = omega arith

    -- in the chunk's stretch
    pub took_bytes : took * h.block ≤ k.blocks * h.block
    took_bytes = mul-le-mul_right h.block (rw take-is most)

    -- and once they are stored, the rest goes on from the next chunk
    pub turned : {p' : List ℕ} → p' ≡ laid (c.first * h.block) (cells_by s k.kind k.body (took * h.block)) p
        → Turn s h p₀ limit p' next (left - took)
    turned {p'} e =
        let b : ℕ = h.block in
        let turn = here.turn in
        let d = read_on s (length s) h turn.n c turn.ks turn.walked (more turn here.some_left) k next (sym here.read) in
        let counted : written turn.ks ≡ cond (writes k.kind) k.blocks 0 + written d.rest = ap written d.found ∙ where_cons writes k d.rest in
        let place : next.first * b ≡ c.first * b + k.blocks * b = rw facts.blocks (add-mul c.first k.blocks b) in
        let whole : laid (c.first * b) (torn (left * b) [] (cells s b (k ∷ d.rest))) p ≡ store_up_to limit s p₀ =
        ap (λ (l : List Chunk). laid (c.first * b) (torn (left * b) [] (cells s b l)) p) (sym d.found) ∙ turn.goes in
        record {
          n = turn.n - 1;
          ks = d.rest;
          walked = d.walked;
          header = turn.header;
          first = facts.within;
          enough = omega (arith, turn.enough);
          size = ap length e ∙ simp length_over turn.size;
          goes = rw (place, e, take-is) (sym (laid_on s b left (c.first * b) k d.rest p) ∙ whole);
        }
