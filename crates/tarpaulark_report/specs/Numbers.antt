-- A report as numbers, and what holds of a lent one.
-- Assumes nothing.
use Rattle.std.specs.Prelude.{◌≡◌, List, ◌∷◌, ℕ, length, get_or}
use Rattle.sparse_rules.specs.Cells.{tab}
use Rattle.report_rules.specs.declared.Report.{Report}
use Rattle.report_rules.specs.Images.{Item}
use Rattle.report_rules.specs.Reports.{added, counted}

-- a report's array: accepted, blocks, bytes, skipped, largest, then the counts of the refusal numbers 1 to 11
abbrev pub report_numbers : Report → List ℕ
report_numbers r = r.accepted ∷ r.blocks ∷ r.bytes ∷ r.skipped ∷ r.largest ∷ tab (λ i. get_or r.refused i 0) 0 11

-- the report in an array: any numbers are one
abbrev pub report_in : List ℕ → Report
report_in ns =
    record {
      accepted = get_or ns 0 0;
      blocks = get_or ns 1 0;
      bytes = get_or ns 2 0;
      skipped = get_or ns 3 0;
      largest = get_or ns 4 0;
      refused = tab (λ i. get_or ns i 0) 5 11;
    }

-- what becomes of a lent report
pub record Promises : Type 0 where
  -- 61 leaves the numbers, in counting an image
  pub counting : (ns : List ℕ) (x : Item) → length ns ≡ 16 → (counted (report_in ns) x).number ≡ 61 → report_numbers (counted (report_in ns) x).report ≡ ns
  -- and in adding another report
  pub adding : (ns ms : List ℕ) → length ns ≡ 16 → (added (report_in ns) (report_in ms)).number ≡ 61 → report_numbers (added (report_in ns) (report_in ms)).report ≡ ns
