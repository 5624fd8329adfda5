-- The answers to two images one by one, and what each leaves in the output.
-- Assumes nothing.
use mathlib.Core.Path.{◌≡◌, sym, ◌∙◌}
use mathlib.Core.List.{List, [], ◌++◌}
use Prim.Native.Nat.{ℕ, ◌≤◌, ◌<◌}
use borrow.Author.Tests.{lt-ltb, le-ltb}
use lib.ListN.{length, drop}
use Rattle.rules.specs.Answer.{accepted, refused}
use Rattle.sparse_blocks_rules.specs.Blocks.{needed}
use Rattle.sparse_blocks_rules.specs.Pairs.{pair_answer, refused_image, Matched}
use Rattle.sparse_blocks_rules.proofs.Pairing.{pair_refused, pair_passed}
use Rattle.sparse_join_rules.specs.Join.{join, join_tests, answer, output}

-- ---- the answers

module _ (s t : List ℕ) (room : ℕ) where
  -- a refusal of the two images
  pub answer_pair : (n place : ℕ) → refused n place ≡ pair_answer s t [] 0 → answer s t room ≡ refused n place
  unfolding answer
  answer_pair n place e = sym (pair_refused s t (join_tests s t room) (length (join s t)) n place e)

  module _ (m : Matched s t) where
    -- 17
    pub answer_large : 2147483648 < needed s → answer s t room ≡ refused 17 0
    unfolding answer
    answer_large large = (pair_passed s t (join_tests s t room) (length (join s t)) m).0 ∙ rw (lt-ltb 2147483648 (needed s) large)

    module _ (small : needed s ≤ 2147483648) where
      -- 18
      pub answer_short : room < length (join s t) → answer s t room ≡ refused 18 0
      unfolding answer
      answer_short short =
          (pair_passed s t (join_tests s t room) (length (join s t)) m).0
          ∙ rw (le-ltb 2147483648 (needed s) small, lt-ltb room (length (join s t)) short)

      -- the image's length
      pub answer_joined : length (join s t) ≤ room → answer s t room ≡ accepted (length (join s t))
      unfolding answer
      answer_joined fits =
          (pair_passed s t (join_tests s t room) (length (join s t)) m).0
          ∙ rw (le-ltb 2147483648 (needed s) small, le-ltb room (length (join s t)) fits)

-- which image a refusal of two that match is of
pub answer_image : (s t : List ℕ) → Matched s t → refused_image s t ≡ 0
answer_image s t m = (pair_passed s t [] 0 m).1

-- ---- what they leave

module _ (s t out : List ℕ) where
  -- a refusal leaves the output as it was
  pub output_refused : (n place : ℕ) → answer s t (length out) ≡ refused n place → output s t out ≡ out
  unfolding output
  output_refused n place e = rw e

  -- a length leaves the image at its start
  pub output_joined : (n : ℕ) → answer s t (length out) ≡ accepted n → output s t out ≡ join s t ++ drop (length (join s t)) out
  unfolding output
  output_joined n e = rw e

  -- a refusal of the two images
  pub answers_refusal : {n place : ℕ} → refused n place ≡ pair_answer s t [] 0 → (refused n place ≡ answer s t (length out)) × (out ≡ output s t out)
  answers_refusal {n} {place} e =
      let a = answer_pair s t (length out) n place e in
      (sym a, sym (output_refused n place a))

  module _ (m : Matched s t) where
    -- 17
    pub answers_large : 2147483648 < needed s → (refused 17 0 ≡ answer s t (length out)) × (0 ≡ refused_image s t) × (out ≡ output s t out)
    answers_large large =
        let a = answer_large s t (length out) m large in
        (sym a, sym (answer_image s t m), sym (output_refused 17 0 a))

    module _ (small : needed s ≤ 2147483648) where
      -- 18
      pub answers_short : length out < length (join s t) → (refused 18 0 ≡ answer s t (length out)) × (0 ≡ refused_image s t) × (out ≡ output s t out)
      answers_short short =
          let a = answer_short s t (length out) m small short in
          (sym a, sym (answer_image s t m), sym (output_refused 18 0 a))

      -- the image is put
      pub answers_joined : length (join s t) ≤ length out
          → (accepted (length (join s t)) ≡ answer s t (length out)) × (0 ≡ refused_image s t) × (join s t ++ drop (length (join s t)) out ≡ output s t out)
      answers_joined fits =
          let a = answer_joined s t (length out) m small fits in
          (sym a, sym (answer_image s t m), sym (output_joined (length (join s t)) a))
