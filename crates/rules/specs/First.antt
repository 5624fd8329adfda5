-- The first refusal that applies: tests in their order, each with the number of its refusal.
-- Assumes nothing.
use Rattle.std.specs.Prelude.{Bool, cond, List, [], ◌∷◌, ℕ}

-- "Tests run in the order listed": the number of the first test that holds, 0 where none does
abbrev pub first : List (Bool × ℕ) → ℕ
first [] = 0
first (t ∷ ts) = cond t.0 t.1 (first ts)
