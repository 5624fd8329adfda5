-- Runs put into space one after the other: what has no room is counted and not put.
-- Assumes nothing.
use Rattle.std.specs.Prelude.{◌≡◌, List, [], ◌∷◌, ◌++◌, ℕ, suc, ◌+◌, ◌*◌, eqb, length, replicate}
use Rattle.fields_rules.specs.Number.{placed}
use Rattle.sparse_write_rules.specs.Runs.{Run, runs}
use Rattle.sparse_diff_rules.specs.declared.Growing.{Growing}
use Rattle.sparse_diff_rules.specs.Diff.{kind_number, run_numbers}

-- the space after runs are put, n of which stand in it already; the first to be put begins at a block
unfoldable pub laid : List ℕ → ℕ → ℕ → List (Run ℕ) → List ℕ
laid space n first [] = space
laid space n first (r ∷ rs) = laid (placed space (3 * n) (run_numbers first r)) (suc n) (first + r.many) rs

-- the runs of the blocks of a run that grows and of blocks with these kinds after them
abbrev pub runs_with : Growing → List ℕ → List (Run ℕ)
runs_with g kinds = runs eqb (replicate g.blocks (kind_number g.kind) ++ kinds)

-- what the space comes to with these
abbrev pub space_with : List ℕ → Growing → List ℕ → List ℕ
space_with space g kinds = laid space g.runs g.first (runs_with g kinds)

-- and how many runs there are then
abbrev pub count_with : Growing → List ℕ → ℕ
count_with g kinds = g.runs + length (runs_with g kinds)

-- more blocks come after a list, and it comes to the same
pub record Grown (space : List ℕ) (g : Growing) (kind n : ℕ) (space' : List ℕ) (g' : Growing) : Type 0 where
  -- the space comes to the same, whatever follows
  pub puts : (rest : List ℕ) → space_with space g (replicate n kind ++ rest) ≡ space_with space' g' rest
  -- and so does the number of runs
  pub counts : (rest : List ℕ) → count_with g (replicate n kind ++ rest) ≡ count_with g' rest
  -- the blocks go on where they were
  pub blocks : g'.first + g'.blocks ≡ g.first + g.blocks + n
