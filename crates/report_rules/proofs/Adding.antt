-- Two reports added, and an image counted: 61 exactly, and in any order and grouping.
-- Assumes nothing.
use mathlib.Core.Path.{◌≡◌, refl, sym, ap, ◌∙◌}
use mathlib.Core.Bool.{Bool, true, false}
use mathlib.Core.List.{[], ◌∷◌}
use native.Mathlib.Omega.{arith}
use Rattle.report_rules.specs.declared.Report.{Report}
use Rattle.report_rules.specs.Reports.{Counted, report_of, sum, fits, added, counted}
use Rattle.report_rules.specs.Theorems.{Fits, EachAdding, EachCounting, EachGrouping}
use Rattle.report_rules.proofs.Fitting.{facts_fit, facts_pass}
use Rattle.report_rules.proofs.Sums.{sum_either, sum_grouped, left_fits, sum_counts}

pub each_adding : EachAdding
unfolding added
each_adding a b = record { fitting = λ f. rw (facts_fit (sum a b) f); passing = λ h. rw (facts_pass (sum a b) h) }

-- adding, by the test of the sum
module _ (a b : Report) where
  pub added_fits : fits (sum a b) ≡ true → {r : Report} → r ≡ sum a b → ◌≡◌ {A = Counted} (record { number = 0; report = r }) (added a b)
  unfolding added
  added_fits e q = rw (e, q)

  pub added_passes : fits (sum a b) ≡ false → ◌≡◌ {A = Counted} (record { number = 61; report = a }) (added a b)
  unfolding added
  added_passes e = rw e

  -- a refusal leaves the first report
  pub added_same : (added a b).number ≡ 61 → (added a b).report ≡ a
  added_same e = go (fits (sum a b)) refl
    where
      go : (t : Bool) → fits (sum a b) ≡ t → (added a b).report ≡ a
      go true f = absurd (let z : 0 ≡ 61 = ap (λ (c : Counted). c.number) (added_fits f refl) ∙ e in omega arith)
      go false f = sym (ap (λ (c : Counted). c.report) (added_passes f))

-- counting an image adds its own report
pub each_counting : EachCounting
unfolding counted
each_counting r x =
    let own = each_adding r (report_of (x ∷ [])) in
    record { fitting = own.fitting; passing = own.passing }

-- ---- any reports

-- where three reports fit together, so do the second and the third
later_fits : (a b c : Report) → Fits (sum (sum a b) c) → Fits (sum b c)
later_fits a b c f = left_fits (sum b c) a (sum_counts b c) (rw (sum_grouped a b c, sum_either a (sum b c)) at f)

pub each_grouping : EachGrouping
each_grouping a b c =
    record {
      either = λ f. (each_adding a b).fitting f ∙ ap (λ (r : Report). record { number = 0; report = r }) (sum_either a b) ∙ sym ((each_adding b a).fitting (rw (sum_either a b) at f));
      grouped = λ f.
          rw ((each_adding a b).fitting (left_fits (sum a b) c (sum_counts a b) f), (each_adding b c).fitting (later_fits a b c f))
          ((each_adding (sum a b) c).fitting f
          ∙ ap (λ (r : Report). record { number = 0; report = r }) (sum_grouped a b c)
          ∙ sym ((each_adding a (sum b c)).fitting (rw (sum_grouped a b c) at f)));
    }
