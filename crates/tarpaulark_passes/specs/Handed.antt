-- What a call on the bytes of a pass hands over: its number, its array, and the bytes of the pass afterwards.
-- Assumes nothing.
use Rattle.std.specs.Prelude.{◌≡◌, cond, List, [], ◌∷◌, ℕ, ltb}
use Rattle.rules.specs.Answer.{number_of}
use Rattle.sparse_stream_rules.specs.declared.Pass.{Pass}
use Rattle.sparse_stream_rules.specs.States.{answer_now}
use Rattle.sparse_stream_bytes.specs.Layout.{pass_bytes, pass_of}
use Rattle.tarpaulark_numbers.specs.Numbers.{verdict_numbers}

-- the array of a call with a piece: the place of the refusal, 0 where there is none
abbrev pub place_numbers : Pass → List ℕ
place_numbers x = cond (ltb 0 x.refusal.number) x.refusal.place 0 ∷ []

-- the bytes of a pass, which say the pass again: the next call goes on with it
pub record Held (x : Pass) (bytes : List ℕ) : Type 0 where
  pub written : bytes ≡ pass_bytes x
  pub again : pass_of bytes ≡ x

-- a call with a piece, after which the pass is x
pub record Handed (x : Pass) (number : ℕ) (answer bytes : List ℕ) : Type 0 where
  pub number_given : number ≡ x.refusal.number
  pub answer_given : answer ≡ place_numbers x
  pub pass_given : Held x bytes

-- a call that finishes the pass
pub record HandedAnswer (x : Pass) (number : ℕ) (answer bytes : List ℕ) : Type 0 where
  pub number_given : number ≡ number_of (answer_now x)
  pub answer_given : answer ≡ verdict_numbers (answer_now x)
  pub pass_given : Held x bytes
