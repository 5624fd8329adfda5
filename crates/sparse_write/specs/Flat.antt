-- Flat data that are written, and the runs and chunks of their image by the places of their blocks.
-- Assumes nothing.
use Rattle.std.specs.Prelude.{◌≡◌, true, List, ℕ, ◌*◌, ◌/◌, ◌≤◌, length}
use Rattle.sparse_rules.specs.Header.{block_size_right}
use Rattle.sparse_write_rules.specs.Kinds.{BlockKind, stored_kind}
use Rattle.sparse_write_rules.specs.Runs.{Run}
use Rattle.sparse_write_rules.specs.Encode.{chunks}
use Rattle.sparse_scan.specs.Scan.{runs_at}

-- they are whole blocks of a right size, and not too long
pub record Writable (d : List ℕ) (b : ℕ) : Type 0 where
  pub whole : length d / b * b ≡ length d
  pub right : block_size_right b ≡ true
  pub small : length d ≤ 2147483648

-- the runs of their blocks
abbrev pub flat_runs : List ℕ → ℕ → List (Run BlockKind)
flat_runs d b = runs_at (stored_kind d b) b (length d / b) 0

-- and the chunks of these
abbrev pub flat_chunks : List ℕ → ℕ → List ℕ
flat_chunks d b = chunks b d 0 (flat_runs d b)
