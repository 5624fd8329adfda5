-- What every part answers: what an accepted input gives, or a refusal's number and place.
-- Assumes nothing.
use Rattle.std.specs.Prelude.{ℕ, zero, suc, ◌<◌}

-- an answer in document 01's terms: accepted with its values, or refused with a number and a place
pub data Answer (A : Type 0) : Type 0 where
  accepted : A → Answer A
  refused : ℕ → ℕ → Answer A

-- refused at a place by a number that is not 0, and else as given
abbrev pub unless : {A : Type 0} → ℕ → ℕ → Answer A → Answer A
unless zero place a = a
unless (suc n) place a = refused (suc n) place

-- what is accepted goes on, a refusal is handed on
abbrev pub onward : {A B : Type 0} → Answer A → (A → Answer B) → Answer B
onward (accepted x) go = go x
onward (refused n place) go = refused n place

-- the number of an answer's refusal, 0 where it is accepted
abbrev pub number_of : {A : Type 0} → Answer A → ℕ
number_of (accepted x) = 0
number_of (refused n place) = n

-- the place of an answer's refusal, 0 where it is accepted
abbrev pub place_of : {A : Type 0} → Answer A → ℕ
place_of (accepted x) = 0
place_of (refused n place) = place

-- a refusal has a number that is not 0
abbrev pub HasNumber : {A : Type 0} → Answer A → Type 0
HasNumber (accepted x) = Unit {0}
HasNumber (refused n place) = 0 < n
