-- The lines of the chunks, put one after the other between the first line and the last.
-- Assumes nothing.
use mathlib.Core.Path.{◌≡◌, subst}
use mathlib.Core.List.{List, ◌++◌}
use Prim.Native.Nat.{ℕ, ◌+◌, ◌-◌, ◌<◌}
use lib.ListN.{length}
use Rattle.text_rules.specs.Input.{partition}
use Rattle.text.specs.declared.Text.{Text}
use Rattle.text.specs.Texts.{Puts}
use Rattle.text.proofs.Growing.{puts_then}
use Rattle.sparse_rules.specs.declared.Header.{Header}
use Rattle.sparse_rules.specs.declared.Cursor.{Cursor}
use Rattle.sparse_rules.specs.declared.Chunk.{Chunk}
use Rattle.sparse_rules.specs.declared.Counts.{Counts}
use Rattle.sparse_rules.specs.Header.{header_of}
use Rattle.rules.specs.Answer.{refused, accepted}
use Rattle.sparse_rules.specs.Chunks.{chunk, reading}
use Rattle.sparse_rules.specs.Walk.{walk, origin}
use Rattle.sparse_rules.specs.Judge.{judged}
use Rattle.sparse_rules.proofs.Walk.{ended, read_on, never_refused}
use Rattle.sparse_rules.proofs.Facts.{chunk_facts}
use Rattle.sparse_rules.proofs.Image.{chunks_walked}
use Rattle.sparse_list_rules.specs.Lines.{header_line, chunk_line, last_line}
use Rattle.sparse_list_rules.specs.Listing.{chunk_lines, image_lines}
use Rattle.sparse_list_rules.proofs.Listings.{lines_step}

-- what is left to put of an accepted image after its first line, with these counts of blocks
pub record Left (s : List ℕ) (h : Header) (t : Counts) (start out : Text) (c : Cursor) (n : ℕ) (ks : List Chunk) : Type 0 where
  pub chunks : List Chunk
  pub walked : walk s (length s) h n c ≡ accepted chunks
  -- the lines of the chunks that are left and the last line, put from here on, make those of all chunks and the last line
  pub puts : (to : Text) → Puts out (chunk_lines c.first chunks ++ last_line t) to → Puts start (chunk_lines 0 ks ++ last_line t) to

-- a turn of the loop: so many chunks left from a cursor on, and the text so far
abbrev pub Going : List ℕ → Header → Counts → Text → Text → Cursor → ℕ → Type 0
Going s h t start out c n = (ks : List Chunk) → judged s (length s) partition ≡ accepted ks → Left s h t start out c n ks

-- before the first chunk
pub going_start : (s : List ℕ) (h : Header) (t : Counts) (start : Text) → h ≡ header_of s → Going s h t start start (origin h) h.chunks
going_start s h t start same =
    λ ks e. record { chunks = ks; walked = rw same (chunks_walked s partition ks e); puts = λ to p. p }

module _ (s : List ℕ) (h : Header) (t : Counts) (start out : Text) (c : Cursor) (n : ℕ) (i : Going s h t start out c n) where
  -- a chunk whose line is put
  pub going_step : (x : Chunk) (after : Cursor) {to : Text} → 0 < n → reading s (length s) h c ≡ chunk x after
      → Puts out (chunk_line c.first x) to → Going s h t start to after (n - 1)
  going_step x after {to} p e put =
      λ ks q.
      let r = i ks q in
      let d = read_on s (length s) h n c r.chunks r.walked p x after e in
      let first : after.first ≡ c.first + x.blocks = (chunk_facts s (length s) h c x after e).blocks in
      record {
        chunks = d.rest;
        walked = d.walked;
        puts = λ b g.
            r.puts b
            (rw (d.found, lines_step c.first x d.rest (last_line t))
            (puts_then put (subst (λ (f : ℕ). Puts to (chunk_lines f d.rest ++ last_line t) b) first g)));
      }

  -- no chunk is refused
  pub going_refused : (m place : ℕ) → 0 < n → reading s (length s) h c ≡ refused m place
      → (ks : List Chunk) → judged s (length s) partition ≡ accepted ks → ⊥
  going_refused m place p e ks q = let r = i ks q in never_refused s (length s) h n c r.chunks r.walked p m place e

  -- after the last chunk the last line makes the whole, with the first line before them
  pub going_done : {a b : Text} → h ≡ header_of s → Puts a (header_line h) start → n ≡ 0
      → Puts out (last_line t) b → (ks : List Chunk) → judged s (length s) partition ≡ accepted ks → Puts a (image_lines s ks t) b
  unfolding chunk_lines
  going_done {a} {b} same first z last ks q =
      let r = i ks q in
      puts_then (rw same at first) (r.puts b (rw (ended s (length s) h n c r.chunks r.walked z).none last))
