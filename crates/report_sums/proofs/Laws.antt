-- Laws of two rows of counts and two reports added.
-- Assumes nothing.
use Rattle.std.proofs.Common.{◌≡◌, refl, sym, ℕ, ◌+◌, ◌<◌, ◌≤◌, ◌^◌, List, length, get_or, set, arith, below_more}
use Rattle.std.specs.Option.{ok_or}
use Rattle.std.specs.Prelude.{Option, Some, None, Bool, true, false, ltb, MatchOption}
use borrow.Author.Tests.{ltb-true, ltb-false}
use lib.ListN.{get_or-eq_default}
use Rattle.sparse_rules.specs.Cells.{tab}
use Rattle.sparse_rules.proofs.Filled.{Filled, filled_more, filled_all}
use Rattle.report_rules.specs.declared.Report.{Report}
use Rattle.report_rules.specs.Reports.{counts_at, sum, counted_of, added}
use Rattle.report_rules.specs.Theorems.{Fits}
use Rattle.report_rules.proofs.Sums.{sum_at, sum_counts}
use Rattle.report_rules.proofs.Adding.{each_adding}
use Rattle.report_sums.specs.Rows.{RowFits}

-- a turn of the loop: the sums before a place stand, and have 64 bits
pub record Going (a b values : List ℕ) (i : ℕ) : Type 0 where
  pub filled : Filled (counts_at a b) 11 values i
  pub fit : (k : ℕ) → k < i → counts_at a b k < 2 ^ 64

module _ (a b : List ℕ) where
  -- before the first
  pub going_start : (values : List ℕ) → length values ≡ 11 → Going a b values 0
  going_start values e = record { filled = record { size = e; below = λ k l m. absurd (omega arith) }; fit = λ k l. absurd (omega arith) }

  module _ (values : List ℕ) (i : ℕ) (g : Going a b values i) where
    -- one more
    pub going_step : {v : ℕ} → i < 11 → v ≡ counts_at a b i → v < 2 ^ 64 → Going a b (set values i v) (i + 1)
    going_step {v} h e l = record { filled = filled_more (counts_at a b) 11 values i g.filled v h e; fit = below_more _ _ g.fit (rw e at l) }

    -- after the last
    pub going_done : 11 ≤ i → RowFits a b × (values ≡ tab (counts_at a b) 0 11)
    going_done h = (λ k l. g.fit k (omega arith), filled_all (counts_at a b) 11 values i g.filled h)

-- the counts of a sum have 64 bits exactly where those of the row have
module _ (a b : Report) where
  pub row_fits : Fits (sum a b) → RowFits a.refused b.refused
  row_fits f k h = let e = sum_at a b k h in rw e at (f.refused k)

  pub fits_row : RowFits a.refused b.refused → (i : ℕ) → get_or (sum a b).refused i 0 < 2 ^ 64
  fits_row f i = go (ltb i 11) refl
    where
      go : (t : Bool) → ltb i 11 ≡ t → get_or (sum a b).refused i 0 < 2 ^ 64
      go true q = let l = ltb-true i 11 q in rw (sum_at a b i l) (f i l)
      go false q = let h = ltb-false i 11 q in let e = get_or-eq_default (sum a b).refused 0 {n = i} (omega (arith, sum_counts a b)) in omega (arith, e)

  -- the answer of adding, by the sums
  pub answered : (r : Option Report) → MatchOption r (Fits (sum a b) → ⊥) (λ both. Fits (sum a b) × (both ≡ sum a b))
      → counted_of (ok_or r (record { report = a })) ≡ added a b
  answered None m = sym ((each_adding a b).passing m)
  answered (Some r) m = rw m.1 (sym ((each_adding a b).fitting m.0))
