-- Two rows of counts whose sums have 64 bits.
-- Assumes nothing.
use Rattle.std.specs.Prelude.{List, ℕ, ◌<◌, ◌^◌}
use Rattle.report_rules.specs.Reports.{counts_at}

-- each of the eleven sums has 64 bits
abbrev pub RowFits : List ℕ → List ℕ → Type 0
RowFits a b = (k : ℕ) → k < 11 → counts_at a b k < 2 ^ 64
