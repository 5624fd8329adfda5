-- Laws of a report in numbers, and that a refusal leaves them.
-- Assumes nothing.
use mathlib.Core.Path.{◌≡◌, refl, sym, ap, ◌∙◌}
use mathlib.Core.List.{List, [], ◌∷◌}
use Prim.Native.Nat.{ℕ}
use native.Mathlib.Nat.{zero-add}
use lib.ListN.{length, get_or}
use lib.Seq.{ext_get_or}
use Rattle.sparse_rules.specs.Cells.{tab}
use Rattle.sparse_rules.proofs.Cells.{get_or-tab}
use Rattle.report_rules.specs.declared.Report.{Report}
use Rattle.report_rules.specs.Reports.{Counted, report_of, added}
use Rattle.report_rules.proofs.One.{counted_one}
use Rattle.report_rules.proofs.Adding.{added_same}
use Rattle.tarpaulark_report.specs.Numbers.{report_numbers, report_in, Promises}

-- what is handed over of an answer
pub handed : {d e : Counted} {n : ℕ} {ns : List ℕ} → d ≡ e → (n ≡ d.number) × (ns ≡ report_numbers d.report) → (n ≡ e.number) × (ns ≡ report_numbers e.report)
handed p q = (q.0 ∙ ap (λ (c : Counted). c.number) p, q.1 ∙ ap (λ (c : Counted). report_numbers c.report) p)

-- the report in an array has that array
same_numbers : (ns : List ℕ) → length ns ≡ 16 → report_numbers (report_in ns) ≡ ns
same_numbers ns e =
    ext_get_or 0 (tab (λ i. get_or ns i 0) 0 16) ns (sym e)
    (λ k h. get_or-tab (λ i. get_or ns i 0) 0 16 k h ∙ ap (λ (i : ℕ). get_or ns i 0) (zero-add k))

-- a refusal leaves the numbers
adding : (ns : List ℕ) (b : Report) → length ns ≡ 16 → (added (report_in ns) b).number ≡ 61 → report_numbers (added (report_in ns) b).report ≡ ns
adding ns b e n = ap report_numbers (added_same (report_in ns) b n) ∙ same_numbers ns e

pub promises : Promises
promises =
    record {
      counting = λ ns x e. rw (sym (counted_one (report_in ns) x refl)) (adding ns (report_of (x ∷ [])) e);
      adding = λ ns ms. adding ns (report_in ms);
    }
