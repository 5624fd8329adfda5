-- The images of a folder: which are counted, and what is printed.
-- Assumes nothing.
use Rattle.std.specs.Prelude.{◌≡◌, Bool, true, false, cond, List, [], ◌∷◌, ◌++◌, map, ℕ, ◌<◌, ◌^◌, ltb, eqb, length}
use Rattle.std.specs.declared.ops.ControlFlow.{ControlFlow}
use Rattle.std.specs.declared.ops.ControlFlow.TheVariants.{Continue, Break}
use Rattle.text_rules.specs.Input.{longest, partition}
use Rattle.text_rules.specs.Words.{ascii, decimal}
use Rattle.report_rules.specs.declared.Report.{Report}
use Rattle.report_rules.specs.Images.{Item}
use Rattle.report_rules.specs.Reports.{Counted, report_of, counted}
use Rattle.report_rules.specs.Text.{text}

-- "`1.img`, `2.img` and on": the name of the file of a number
unfoldable pub file_name : ℕ → List ℕ
file_name n = decimal n ++ ascii ".img"

-- "judges each for 1,048,576 bytes"
abbrev pub judged_file : List ℕ → Item
judged_file s = record { image = s; room = partition }

-- "ends at the first that is .. over 65,536 bytes": the files before that one
unfoldable pub taken : List (List ℕ) → List (List ℕ)
taken [] = []
taken (s ∷ ss) = cond (ltb longest (length s)) [] (s ∷ taken ss)

-- what is printed for a folder whose files hold these bytes, from 1.img on up to the first that is missing
unfoldable pub printed : List (List ℕ) → List ℕ
printed ss = text (report_of (map judged_file (taken ss)))

-- ---- file after file

-- what the program has after a file: the report, and whether it goes on to the next file
pub record Turn : Type 0 where
  pub more : Bool
  pub report : Report

-- the answer about a file
abbrev pub turn_of : ControlFlow Report Report → Turn
turn_of (Continue r) = record { more = true; report = r }
turn_of (Break r) = record { more = false; report = r }

-- what counting a file leaves: a refusal ends it, with the report as it was
abbrev pub turn_by : Counted → Turn
turn_by c = record { more = eqb c.number 0; report = c.report }

-- a file: one that is too long ends it, and is not counted
unfoldable pub turn : Report → List ℕ → Turn
turn r s = cond (ltb longest (length s)) (record { more = false; report = r }) (turn_by (counted r (judged_file s)))

-- the report after the files, or after the first that ends it
unfoldable pub after : Report → List (List ℕ) → Report
after r [] = r
after r (s ∷ ss) = cond (turn r s).more (after (turn r s).report ss) (turn r s).report

-- fewer than 2^44 files, one after the other from an empty report on, give the text: no total of theirs passes 64 bits
abbrev pub FolderPrinted : Type 0
FolderPrinted = (ss : List (List ℕ)) → length ss < 2 ^ 44 → text (after (report_of []) ss) ≡ printed ss
