-- What holds of every report, and of every way to count images and add reports.
-- Assumes nothing.
use Rattle.std.specs.Prelude.{◌≡◌, cond, ℕ, ◌+◌, ◌*◌, ◌≤◌, ◌<◌, ◌^◌, eqb, length, get_or}
use mathlib.Core.List.{List, [], ◌∷◌, ◌++◌, Memᴰ, Permᴰ}
use Rattle.rules.specs.Answer.{accepted}
use Rattle.sparse_rules.specs.declared.Counts.{Counts}
use Rattle.sparse_rules.specs.Header.{block_size, total_blocks}
use Rattle.sparse_rules.specs.Cells.{count}
use Rattle.sparse_rules.specs.Judge.{effect}
use Rattle.report_rules.specs.declared.Report.{Report}
use Rattle.report_rules.specs.Images.{Item, answer_to, accepted_by}
use Rattle.report_rules.specs.Reports.{Counted, total, report_of, sum, added, counted}

-- ---- 61

-- each total of a report has 64 bits; nothing is said of the largest, which is no total
pub record Fits (r : Report) : Type 0 where
  pub accepted : r.accepted < 2 ^ 64
  pub blocks : r.blocks < 2 ^ 64
  pub bytes : r.bytes < 2 ^ 64
  pub skipped : r.skipped < 2 ^ 64
  pub refused : (i : ℕ) → get_or r.refused i 0 < 2 ^ 64

-- two reports added
pub record Adding (a b : Report) : Type 0 where
  -- where no total of theirs passes 64 bits, the sums
  pub fitting : Fits (sum a b) → added a b ≡ record { number = 0; report = sum a b }
  -- "61 exactly when a total would pass 64 bits .. the reports then unchanged"
  pub passing : (Fits (sum a b) → ⊥) → added a b ≡ record { number = 61; report = a }

-- of any two reports
abbrev pub EachAdding : Type 0
EachAdding = (a b : Report) → Adding a b

-- an image counted in a report
pub record Counting (r : Report) (x : Item) : Type 0 where
  -- where no total of both passes 64 bits, the sums with the image's own report
  pub fitting : Fits (sum r (report_of (x ∷ []))) → counted r x ≡ record { number = 0; report = sum r (report_of (x ∷ [])) }
  -- "in counting an image .. the reports then unchanged"
  pub passing : (Fits (sum r (report_of (x ∷ []))) → ⊥) → counted r x ≡ record { number = 61; report = r }

-- of any report and any image
abbrev pub EachCounting : Type 0
EachCounting = (r : Report) (x : Item) → Counting r x

-- ---- the report of a list

-- the sum of a list of numbers
abbrev pub sum_of : List ℕ → ℕ
sum_of [] = 0
sum_of (n ∷ ns) = n + sum_of ns

-- an accepted image's total × block size
pub record Extent (x : Item) (n : ℕ) : Type 0 where
  pub counts : Counts
  pub accepts : answer_to x ≡ accepted counts
  pub product : n ≡ total_blocks x.image * block_size x.image

-- the report of a list of images
pub record Totals (xs : List Item) : Type 0 where
  -- each image is accepted or has one refusal number, and is counted once
  pub images : (report_of xs).accepted + sum_of (report_of xs).refused ≡ length xs
  -- the blocks written and skipped are all blocks of the accepted images
  pub blocks : (report_of xs).blocks + (report_of xs).skipped ≡ total (λ x. accepted_by (answer_to x) * total_blocks x.image) xs
  -- the bytes written are those that storing the images stores
  pub stored : (report_of xs).bytes ≡ total (λ x. count (effect x.image x.room)) xs
  -- "the largest total × block size of an accepted image": no accepted image has more
  pub most : (x : Item) → Memᴰ x xs → (n : ℕ) → Extent x n → n ≤ (report_of xs).largest
  -- and one of them has that, unless it is 0
  pub reached : 0 < (report_of xs).largest → (x : Item) × Memᴰ x xs × Extent x (report_of xs).largest

-- of any list
abbrev pub EachTotals : Type 0
EachTotals = (xs : List Item) → Totals xs

-- ---- order and grouping

-- a way to make a report: of no images, by one image counted after others, or by two reports added
pub data Way : Type 0 where
  none : Way
  count_next : Way → Item → Way
  add_both : Way → Way → Way

-- its images, in their order
abbrev pub images : Way → List Item
images none = []
images (count_next w x) = images w ++ (x ∷ [])
images (add_both v w) = images v ++ images w

-- a report that is made is handed on, and a refusal ends the way
abbrev pub carried_on : Counted → (Report → Counted) → Counted
carried_on c go = cond (eqb c.number 0) (go c.report) c

-- what counting and adding answer at the end of it
unfoldable pub made : Way → Counted
made none = record { number = 0; report = report_of [] }
made (count_next w x) = carried_on (made w) (λ r. counted r x)
made (add_both v w) = carried_on (made v) (λ r. carried_on (made w) (λ q. added r q))

-- the images of a list counted in turn, after those of a way
abbrev pub in_turn : Way → List Item → Way
in_turn w [] = w
in_turn w (x ∷ xs) = in_turn (count_next w x) xs

-- every tree of counting and adding
pub record EveryWay : Type 0 where
  -- "Totals equal the sums over the list": every way to count and add answers the sums over its images, where all of them fit
  pub fitting : (w : Way) → Fits (report_of (images w)) → made w ≡ record { number = 0; report = report_of (images w) }
  -- and where they do not, it meets 61
  pub passing : (w : Way) → (Fits (report_of (images w)) → ⊥) → (made w).number ≡ 61
  -- so do the images of a list, counted in turn from an empty report
  pub counted_in_turn : (xs : List Item) → Fits (report_of xs) → made (in_turn none xs) ≡ record { number = 0; report = report_of xs }
  -- "Two half reports can be added": the report of the whole list
  pub halves : (xs ys : List Item) → Fits (report_of (xs ++ ys)) → added (report_of xs) (report_of ys) ≡ record { number = 0; report = report_of (xs ++ ys) }
  -- "where all totals fit, order and grouping make no difference": two ways over the same images, in any order and any grouping
  pub regrouped : (v w : Way) → Permᴰ (images v) (images w) → Fits (report_of (images v)) → made v ≡ made w

-- any reports, whatever they were made of
pub record Grouping (a b c : Report) : Type 0 where
  -- adding goes either way round, where all totals fit
  pub either : Fits (sum a b) → added a b ≡ added b a
  -- and in either grouping
  pub grouped : Fits (sum (sum a b) c) → carried_on (added a b) (λ r. added r c) ≡ carried_on (added b c) (λ r. added a r)

-- any three of them
abbrev pub EachGrouping : Type 0
EachGrouping = (a b c : Report) → Grouping a b c
