-- What an example calls, and what comes back: each by the definition that the function's contract names.
-- Assumes nothing.
use Rattle.std.specs.Prelude.{List, ℕ, length}
use Rattle.slot_rules.specs.declared.Record.{Record}
use Rattle.slot_rules.specs.Answers.{Change}
use Rattle.slot_rules.specs.Operations.{start_of, startable_of}
use Rattle.rules.specs.Answer.{Answer}
use Rattle.boot_rules.specs.declared.Layout.{Layout}
use Rattle.boot_rules.specs.Tests as boot
use Rattle.boot_launch_rules.specs.Tests as launch
use Rattle.boot_launch_rules.specs.Text.{text}
use Rattle.starter_rules.specs.Starter.{Effect, starter}
use Rattle.sparse_rules.specs.declared.Counts.{Counts}
use Rattle.sparse_rules.specs.Answers as judge
use Rattle.sparse_store_rules.specs.Store as store
use Rattle.sparse_write_rules.specs.Write as write
use Rattle.sparse_blocks_rules.specs.Pairs.{refused_image}
use Rattle.sparse_diff_rules.specs.Diff as diff
use Rattle.sparse_join_rules.specs.Join as join
use Rattle.sparse_list_rules.specs.Listing.{listing}
use Rattle.report_rules.specs.declared.Report.{Report}
use Rattle.report_rules.specs.Reports as report
use Rattle.report_rules.specs.Folder as folder

-- a call: an image stored on what a partition holds, flat bytes written at a block size into what an output holds, a boot image located, also for a release and a kernel, or those that take it printed, a slot record started, or its count told, a record started with an image for each place, misc, a loader's line and what a space holds, an image listed, two images compared into what a space holds, or joined into what an output holds, an image counted in a report, judged for so many bytes, two reports added, or the totals of a folder's files printed
pub data Call : Type 0 where
  stores : List ℕ → List ℕ → Call
  writes : List ℕ → ℕ → List ℕ → Call
  locates : List ℕ → Call
  locates_for : ℕ → ℕ → List ℕ → Call
  prints : List ℕ → Call
  starts : Record → Call
  tells : Record → Call
  boots : Record → List (List ℕ) → List ℕ → List ℕ → List ℕ → Call
  lists : List ℕ → Call
  compares : List ℕ → List ℕ → List ℕ → Call
  joins : List ℕ → List ℕ → List ℕ → Call
  reports : Report → List ℕ → ℕ → Call
  adds : Report → Report → Call
  totals : List (List ℕ) → Call

-- what comes back: the answer, for two images also the one that a refusal is of, and the contents of what was lent
pub data Result : Type 0 where
  stored : Answer Counts → List ℕ → Result
  written : Answer ℕ → List ℕ → Result
  located : Answer Layout → Result
  started : Change → Result
  told : Answer ℕ → Result
  booted : Effect → Result
  listed : List ℕ → Result
  printed : List ℕ → Result
  compared : Answer ℕ → ℕ → List ℕ → Result
  joined : Answer ℕ → ℕ → List ℕ → Result
  reported : report.Counted → Result

-- what a call gives back
unfoldable pub perform : Call → Result
perform (stores s p) = stored (judge.answer s (length s) (length p)) (store.store s p)
perform (writes d b out) = written (write.answer d b (length out)) (write.output d b out)
perform (locates s) = located (boot.answer s)
perform (locates_for release kernel s) = located (launch.answer release kernel s)
perform (prints s) = printed (text s)
perform (starts r) = started (start_of r)
perform (tells r) = told (startable_of r)
perform (boots r images misc loader space) = booted (starter r images misc loader space)
perform (lists s) = listed (listing s)
perform (compares s t space) = compared (diff.answer s t (length space)) (refused_image s t) (diff.listed s t space)
perform (joins s t out) = joined (join.answer s t (length out)) (refused_image s t) (join.output s t out)
perform (reports r s room) = reported (report.counted r (record { image = s; room = room }))
perform (adds a b) = reported (report.added a b)
perform (totals ss) = printed (folder.printed ss)

-- a row of the table: a call, and what must come back
pub record Row : Type 0 where
  pub call : Call
  pub result : Result
