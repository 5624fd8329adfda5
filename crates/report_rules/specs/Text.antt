-- What is printed of a report.
-- Assumes nothing.
use Rattle.std.specs.Prelude.{cond, List, [], ◌∷◌, ◌++◌, ℕ, zero, suc, ◌-◌, ◌≤◌, eqb, length, get_or}
use Rattle.text_rules.specs.Words.{ascii, labelled, line}
use Rattle.report_rules.specs.declared.Report.{Report}

-- a word and a total, "a line each"
abbrev pub total_line : List ℕ → ℕ → List ℕ
total_line word n = line (labelled word n ∷ [])

-- "`accepted A`, `blocks B`, `bytes Y`, `skipped S`, `largest L`"
unfoldable pub total_lines : Report → List ℕ
total_lines r =
    total_line (ascii "accepted ") r.accepted
    ++ (total_line (ascii "blocks ") r.blocks
    ++ (total_line (ascii "bytes ") r.bytes
    ++ (total_line (ascii "skipped ") r.skipped
    ++ total_line (ascii "largest ") r.largest)))

-- "`refused N C` where C is not 0"
unfoldable pub refused_line : ℕ → ℕ → List ℕ
refused_line n c = cond (eqb c 0) [] (line (labelled (ascii "refused ") n ∷ labelled (ascii " ") c ∷ []))

-- "by number": the lines of so many refusal numbers from one on; counts begin with that of number 1
unfoldable pub refused_lines : List ℕ → ℕ → ℕ → List ℕ
refused_lines counts n zero = []
refused_lines counts n (suc k) = refused_line n (get_or counts (n - 1) 0) ++ refused_lines counts (suc n) k

-- the text of a report: its totals, "then by number" its refusals, 1 to 11
unfoldable pub text : Report → List ℕ
text r = total_lines r ++ refused_lines r.refused 1 11

-- a length that no text passes: that of the text where all sixteen numbers have 20 digits
abbrev pub most : ℕ
most = 486

-- a buffer of that length holds every text
abbrev pub TextMost : Type 0
TextMost = (r : Report) → length (text r) ≤ most
