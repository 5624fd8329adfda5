-- The judge's exits: the answer to an image from what the header's tests, the first walk and the second walk answer.
-- Assumes nothing.
use mathlib.Core.Path.{◌≡◌, refl, sym, ap, ◌∙◌}
use mathlib.Core.List.{List}
use Prim.Native.Nat.{ℕ, zero, suc, ◌<◌, ◌≤◌, ◌%◌}
use native.Mathlib.Omega.{arith}
use lib.ListN.{length}
use Rattle.rules.specs.First.{first}
use Rattle.sparse_rules.specs.declared.Header.{Header}
use Rattle.sparse_rules.specs.declared.Chunk.{Chunk}
use Rattle.sparse_rules.specs.declared.Counts.{Counts}
use Rattle.sparse_rules.specs.Header.{header_of, header_tests}
use Rattle.sparse_rules.specs.Walk.{Finding, walk, origin}
use Rattle.sparse_rules.specs.Counts.{counts_of}
use Rattle.sparse_rules.specs.Judge.{sum_tests, structure}
use Rattle.rules.specs.Answer.{Answer, refused, accepted, unless}
use Rattle.sparse_rules.specs.Answers.{answer_for, answer}
use Rattle.sparse_rules.proofs.Facts.{judged_header, judged_structure, judged_sum, header_facts}
use Rattle.sparse_rules.proofs.Image.{structure_walk}
use Rattle.rules.proofs.Answer.{onward_unless}

-- what the first walk finds, by the header's fields
abbrev pub found : List ℕ → Header → Finding
found s h = walk s (length s) h h.chunks (origin h)

-- what the second walk answers for counts of blocks
abbrev pub Checked : List ℕ → Counts → Answer Counts → Type 0
Checked s c a = (ks : List Chunk) → structure s (length s) ≡ accepted ks → a ≡ unless (first (sum_tests s ks)) 24 (accepted c)

module _ (s : List ℕ) (room : ℕ) where
  -- what the tests of the header answer
  abbrev pub tested : Answer Header
  tested = unless (first (header_tests s (length s) room)) 0 (accepted (header_of s))

  -- a header that is refused
  pub answer_header : (n place : ℕ) → refused n place ≡ tested → refused n place ≡ answer s (length s) room
  unfolding answer answer_for
  answer_header n place e = go (first (header_tests s (length s) room)) refl
    where
      go : (m : ℕ) → first (header_tests s (length s) room) ≡ m → refused n place ≡ answer s (length s) room
      go zero q = let z : refused n place ≡ accepted (header_of s) = e ∙ rw q in cc
      go (suc m) q =
          let p : 0 < first (header_tests s (length s) room) = omega arith in
          let r : refused n place ≡ refused (suc m) 0 = e ∙ rw q in
          rw (judged_header s (length s) room p, q) (cc)

  -- a header that passes
  pub record Passed (h : Header) : Type 0 where
    pub is : h ≡ header_of s
    pub tests : first (header_tests s (length s) room) ≡ 0
    pub block_most : h.block ≤ 65536
    pub block_fours : h.block % 4 ≡ 0

  pub passed : (h : Header) → accepted h ≡ tested → Passed h
  passed h e = go (first (header_tests s (length s) room)) refl
    where
      go : (m : ℕ) → first (header_tests s (length s) room) ≡ m → Passed h
      go zero q =
          let z : accepted h ≡ accepted (header_of s) = e ∙ rw q in
          let i : h ≡ header_of s = cc in
          let f = rw (← i) at (header_facts s (length s) room q) in
          record { is = i; tests = q; block_most = f.block_most; block_fours = f.block_fours }
      go (suc m) q = let z : accepted h ≡ refused (suc m) 0 = e ∙ rw q in cc

  module _ (passed : first (header_tests s (length s) room) ≡ 0) where
    refused_at : (f : Finding) → structure s (length s) ≡ f → (n place : ℕ) → refused n place ≡ answer_for f → refused n place ≡ answer s (length s) room
    unfolding answer answer_for
    refused_at (refused m at) e n place q = rw (judged_structure s (length s) room passed m at e) q
    refused_at (accepted ks) e n place q = cc

    checked_at : (f : Finding) → structure s (length s) ≡ f → (c : Counts) (a : Answer Counts) → accepted c ≡ answer_for f → Checked s c a → a ≡ answer s (length s) room
    unfolding answer answer_for
    checked_at (refused m at) e c a q f = let z : ◌≡◌ {A = ℕ} 0 1 = cc in absurd (omega arith)
    checked_at (accepted ks) e c a q f =
        f ks e
        ∙ ap (unless (first (sum_tests s ks)) 24) q
        ∙ sym (ap answer_for (judged_sum s (length s) room passed ks e) ∙ onward_unless (first (sum_tests s ks)) 24 (accepted ks) (λ ls. accepted (counts_of ls)))

    -- a structure that is refused
    pub answer_structure : (h : Header) → h ≡ header_of s → (n place : ℕ) → refused n place ≡ answer_for (found s h) → refused n place ≡ answer s (length s) room
    answer_structure h e n place q = refused_at (structure s (length s)) refl n place (q ∙ ap answer_for (structure_walk s (length s) h e))

    -- a structure that holds
    pub answer_checked : (h : Header) → h ≡ header_of s → (c : Counts) (a : Answer Counts) → accepted c ≡ answer_for (found s h) → Checked s c a → a ≡ answer s (length s) room
    answer_checked h e c a q f = checked_at (structure s (length s)) refl c a (q ∙ ap answer_for (structure_walk s (length s) h e)) f
