-- The report of a list of images, and how reports are added.
-- Assumes nothing.
use Rattle.std.specs.Prelude.{Bool, true, ◌&&◌, cond, List, [], ◌∷◌, ℕ, max, ◌+◌, ◌^◌, ltb, get_or, Result, Ok, Err}
use Rattle.sparse_rules.specs.Cells.{tab}
use Rattle.report_rules.specs.declared.Report.{Report}
use Rattle.report_rules.specs.declared.Overflow.{Overflow}
use Rattle.report_rules.specs.Images.{Item, answer_to, accepted_by, blocks_by, bytes_by, skipped_by, extent_by, refused_by}

-- the sum over a list of images
unfoldable pub total : (Item → ℕ) → List Item → ℕ
total f [] = 0
total f (x ∷ xs) = f x + total f xs

-- the largest over a list of images, "0 if none"
unfoldable pub greatest : (Item → ℕ) → List Item → ℕ
greatest f [] = 0
greatest f (x ∷ xs) = max (f x) (greatest f xs)

-- "how many got each refusal number", of a list of images
abbrev pub refusals : List Item → ℕ → ℕ
refusals xs n = total (λ x. refused_by n (answer_to x)) xs

-- "Totals equal the sums over the list"; refusals are counted under their numbers, 1 to 11
unfoldable pub report_of : List Item → Report
report_of xs =
    record {
      accepted = total (λ x. accepted_by (answer_to x)) xs;
      blocks = total (λ x. blocks_by (answer_to x)) xs;
      bytes = total (λ x. bytes_by x.image (answer_to x)) xs;
      skipped = total (λ x. skipped_by (answer_to x)) xs;
      largest = greatest (λ x. extent_by x.image (answer_to x)) xs;
      refused = tab (refusals xs) 1 11;
    }

-- the sums of two rows of counts, at a place
abbrev pub counts_at : List ℕ → List ℕ → ℕ → ℕ
counts_at a b i = get_or a i 0 + get_or b i 0

-- "Two half reports can be added, taking the larger largest": the sums, however large
unfoldable pub sum : Report → Report → Report
sum a b =
    record {
      accepted = a.accepted + b.accepted;
      blocks = a.blocks + b.blocks;
      bytes = a.bytes + b.bytes;
      skipped = a.skipped + b.skipped;
      largest = max a.largest b.largest;
      refused = tab (counts_at a.refused b.refused) 0 11;
    }

-- a number of 64 bits
abbrev pub small : ℕ → Bool
small n = ltb n (2 ^ 64)

-- each number of a list has 64 bits
unfoldable pub all_small : List ℕ → Bool
all_small [] = true
all_small (n ∷ ns) = small n && all_small ns

-- no total passes 64 bits; the largest is no total
unfoldable pub fits : Report → Bool
fits r = small r.accepted && small r.blocks && small r.bytes && small r.skipped && all_small r.refused

-- what counting and adding come to: 0 with the new report, or a refusal's number with the report as it was
pub record Counted : Type 0 where
  pub number : ℕ
  pub report : Report

-- the answer of counting and adding
abbrev pub counted_of : Result Report Overflow → Counted
counted_of (Ok r) = record { number = 0; report = r }
counted_of (Err e) = record { number = 61; report = e.report }

-- "61 exactly when a total would pass 64 bits .. the reports then unchanged"; else the sums
unfoldable pub added : Report → Report → Counted
added a b = cond (fits (sum a b)) (record { number = 0; report = sum a b }) (record { number = 61; report = a })

-- "counting an image": the report of that image alone is added
unfoldable pub counted : Report → Item → Counted
counted r x = added r (report_of (x ∷ []))
