-- No text is longer than a buffer that a caller can size beforehand: a chunk stands in 12 bytes of the input or more, and its line in 60 or fewer.
-- And how a text that has been put stands in a buffer.
-- Assumes nothing.
use mathlib.Core.Path.{◌≡◌, refl, sym, ap}
use mathlib.Core.Bool.{Bool, true, false}
use mathlib.Core.List.{List}
use Prim.Native.Nat.{ℕ, zero, suc, ◌+◌, ◌*◌, ◌≤◌, ◌<◌}
use native.Mathlib.Numerals.{sub-one}
use native.Mathlib.Omega.{arith}
use lib.Dec.{leb}
use lib.ListN.{length, length-append}
use borrow.Author.Tests.{leb-true, leb-false, le-leb, lt-leb}
use Rattle.std.specs.Prelude.{Ok, Err}
use Rattle.text_rules.specs.Input.{longest, partition, too_long}
use Rattle.text_rules.specs.Put.{Put}
use Rattle.text_rules.proofs.Putting.{put_length, put_start}
use Rattle.sparse_rules.specs.declared.Header.{Header}
use Rattle.sparse_rules.specs.declared.Cursor.{Cursor}
use Rattle.sparse_rules.specs.declared.Chunk.{Chunk}
use Rattle.sparse_rules.specs.Header.{header_of}
use Rattle.sparse_rules.specs.Walk.{Finding, walk, origin}
use Rattle.rules.specs.Answer.{refused, accepted}
use Rattle.sparse_rules.specs.Counts.{counts_of}
use Rattle.sparse_rules.specs.Judge.{judged}
use Rattle.sparse_rules.proofs.Walk.{stepped, ended}
use Rattle.sparse_rules.proofs.Facts.{chunk_facts, accepted_facts}
use Rattle.sparse_rules.proofs.Image.{chunks_walked}
use Rattle.sparse_list_rules.specs.Lines.{chunk_line}
use Rattle.sparse_list_rules.proofs.Lengths.{refused_most, header_most, chunk_most, last_most}
use Rattle.sparse_list_rules.specs.Listing.{chunk_lines, listing_of, listing, output, held_of, held, most, AlwaysWhole}
use Rattle.sparse_list_rules.proofs.Listings.{listing_long, listing_found}

-- the lines of the chunks from a cursor on: five bytes for each byte of the input
module _ (s : List ℕ) (h : Header) (head : 12 ≤ h.head) where
  chunks_most : (n : ℕ) (c : Cursor) (ks : List Chunk) (first : ℕ) → walk s (length s) h n c ≡ accepted ks → c.at ≤ length s
      → length (chunk_lines first ks) + 5 * c.at ≤ 5 * length s
  unfolding chunk_lines
  chunks_most zero c ks first e p =
      let t = ended s (length s) h zero c ks e refl in
      rw t.none (omega arith)
  chunks_most (suc n) c ks first e p =
      let t = stepped s (length s) h (suc n) c ks e (omega arith) in
      let k = t.here in
      let f = chunk_facts s (length s) h c k t.next t.read in
      let rest = chunks_most n t.next t.rest (first + k.blocks) (rw (sub-one (suc n)) at t.walked) f.inside in
      rw t.found
      (omega (arith, length-append (chunk_line first k) (chunk_lines (first + k.blocks) t.rest), chunk_most first k, rest, f.body, f.header_inside))

-- ---- the text

finding_most : (s : List ℕ) → length s ≤ longest → (f : Finding) → judged s (length s) partition ≡ f → length (listing_of s f) ≤ most
unfolding listing_of
finding_most s p (refused n place) e = omega (arith, refused_most n place)
finding_most s p (accepted ks) e =
    let a = accepted_facts s (length s) partition ks e in
    let c = chunks_most s (header_of s) a.header.head_least (header_of s).chunks (origin (header_of s)) ks 0 (chunks_walked s partition ks e) a.header.start_inside in
    simp length-append (omega (arith, p, c, header_most (header_of s), last_most (counts_of ks), a.header.start_least))

-- no text is longer
listing_most : (s : List ℕ) → length (listing s) ≤ most
unfolding too_long
listing_most s = go (leb (length s) longest) refl
  where
    go : (x : Bool) → leb (length s) longest ≡ x → length (listing s) ≤ most
    go true e = let p = leb-true (length s) longest e in rw (listing_found s p) (finding_most s p (judged s (length s) partition) refl)
    go false e = rw (listing_long s (leb-false (length s) longest e)) (omega arith)

-- so a buffer of that length holds every text whole
pub always_whole : AlwaysWhole
unfolding held
always_whole s room p = le-leb (length (listing s)) room (omega (arith, listing_most s))

-- ---- the text in a buffer

-- a text that has been put from the start of a buffer
module _ (s : List ℕ) {a b : List ℕ} {n : ℕ} (p : Put a 0 (listing s) b n) where
  -- with room for all of it
  pub whole : n ≤ length b → (held_of (Ok n) ≡ held s (length a)) × (b ≡ output s a)
  unfolding held output
  whole h =
      let t = put_start (omega (arith, listing_most s)) p in
      let fits : length (listing s) ≤ length a = omega (arith, t.0, put_length p) in
      (rw (t.0, le-leb (length (listing s)) (length a) fits), t.1)

  -- and with too little
  pub too_short : length b < n → (held_of (Err (record { needs = n })) ≡ held s (length a)) × (b ≡ output s a)
  unfolding held output
  too_short h =
      let t = put_start (omega (arith, listing_most s)) p in
      let over : length a < length (listing s) = omega (arith, t.0, put_length p) in
      (rw (t.0, lt-leb (length (listing s)) (length a) over), t.1)

-- a text that is answered to be whole has room
pub whole_fits : (s : List ℕ) (room n : ℕ) → held_of (Ok n) ≡ held s room → n ≤ room
unfolding held
whole_fits s room n e =
    let long : n ≡ length (listing s) = ap (λ x. x.long) e in
    let inside : true ≡ leb (length (listing s)) room = ap (λ x. x.whole) e in
    omega (arith, long, leb-true (length (listing s)) room (sym inside))
