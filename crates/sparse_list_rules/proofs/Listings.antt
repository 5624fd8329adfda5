-- The lines of the chunks one after the other, and the text of an input by what the judge answers.
-- Assumes nothing.
use mathlib.Core.Path.{◌≡◌, sym, ap, ◌∙◌}
use mathlib.Core.List.{List, ◌∷◌, ◌++◌, append_assoc}
use Prim.Native.Nat.{ℕ, ◌+◌, ◌≤◌, ◌<◌}
use lib.ListN.{length}
use borrow.Author.Tests.{lt-ltb, le-ltb}
use Rattle.text_rules.specs.Input.{longest, partition, too_long}
use Rattle.sparse_rules.specs.declared.Chunk.{Chunk}
use Rattle.sparse_rules.specs.declared.Counts.{Counts}
use Rattle.rules.specs.Answer.{accepted, refused}
use Rattle.sparse_rules.specs.Judge.{judged}
use Rattle.sparse_rules.specs.Answers.{answer}
use Rattle.sparse_rules.proofs.Image.{answer_accepted, answer_refused}
use Rattle.sparse_list_rules.specs.Lines.{refused_line, chunk_line}
use Rattle.sparse_list_rules.specs.Listing.{chunk_lines, image_lines, listing_of, listing}

-- the lines of some chunks, and what comes after them: the first chunk's line, then those of the others
pub lines_step : (first : ℕ) (k : Chunk) (ks : List Chunk) (y : List ℕ) → chunk_lines first (k ∷ ks) ++ y ≡ chunk_line first k ++ (chunk_lines (first + k.blocks) ks ++ y)
unfolding chunk_lines
lines_step first k ks y = append_assoc (chunk_line first k) (chunk_lines (first + k.blocks) ks) y

module _ (s : List ℕ) where
  -- an input that is too long
  pub listing_long : longest < length s → listing s ≡ too_long
  unfolding listing
  listing_long p = rw (lt-ltb longest (length s) p)

  module _ (fits : length s ≤ longest) where
    -- any other by what is found of it
    pub listing_found : listing s ≡ listing_of s (judged s (length s) partition)
    unfolding listing
    listing_found = rw (le-ltb longest (length s) fits)

    -- a refused image
    pub listing_refused : (n place : ℕ) → refused n place ≡ answer s (length s) partition → listing s ≡ refused_line n place
    unfolding listing_of
    listing_refused n place e = listing_found ∙ ap (listing_of s) (answer_refused s (length s) partition n place e)

    -- an accepted image
    pub listing_accepted : (c : Counts) → accepted c ≡ answer s (length s) partition
        → (ks : List Chunk) × (judged s (length s) partition ≡ accepted ks) × (listing s ≡ image_lines s ks c)
    unfolding listing_of
    listing_accepted c e =
        let t = answer_accepted s (length s) partition c e in
        (t.ks, t.found, listing_found ∙ ap (listing_of s) t.found ∙ ap (image_lines s t.ks) (sym t.counts))
