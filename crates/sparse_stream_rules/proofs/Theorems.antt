-- The theorems about passes.
-- Assumes nothing.
use mathlib.Core.Path.{◌≡◌, refl, ap, ap₂, ◌∙◌, subst}
use mathlib.Core.Bool.{Bool, true, false, cond}
use mathlib.Core.List.{List, ◌∷◌}
use Prim.Native.Nat.{ℕ}
use lib.Dec.{ltb}
use lib.ListN.{length}
use borrow.Author.Tests.{ltb-true}
use Rattle.rules.specs.Answer.{Answer, accepted, refused, HasNumber}
use Rattle.sparse_rules.specs.declared.Counts.{Counts}
use Rattle.sparse_rules.specs.Answers.{answer}
use Rattle.sparse_store_rules.specs.Runs.{run, answers, Cut, past, Reached, start, again}
use Rattle.sparse_store_rules.proofs.Restart.{restart}
use Rattle.sparse_stream_rules.specs.Theorems.{PassCut, PassReached, PassRun, ImageBytes, PassRestart, OnlyDue, EachStores, EachAnswers, Unsummed, RefusalNumbers}
use Rattle.sparse_stream_rules.specs.Theorems as passes
use Rattle.sparse_stream_rules.specs.States.{answer_now}
use Rattle.sparse_stream_rules.proofs.Taken.{head_same, fed_same}
use Rattle.sparse_stream_rules.proofs.Growth.{cut_always, as_whole}
use Rattle.sparse_stream_rules.proofs.Passes.{all_due}
use Rattle.sparse_stream_rules.proofs.EachCall.{each_call, each_answer}

-- a run that is cut with passes in it is one that is cut without
pass_cut : {ss : List (List ℕ)} {p q : List ℕ} → PassCut ss p q → ImageBytes ss → Cut ss p q
pass_cut (passes.plain c) g = c
pass_cut (passes.left {ss = ss} {p = p} cs t ks a) g = cut_always ss p cs t g.0 ks a
pass_cut (passes.past c) g = past (pass_cut c g.1)
pass_cut (passes.passed {ss = ss} {p = p} {q = q} cs ks a c) g =
    past (subst (λ (r : List ℕ). Cut ss r q) ((as_whole (length p) p cs g.0).contents ks a) (pass_cut c g.1))

-- and so are any number of runs
pass_reached : (ss : List (List ℕ)) (p q : List ℕ) → ImageBytes ss → PassReached ss p q → Reached ss p q
pass_reached ss p q g passes.start = start
pass_reached ss p q g (passes.again {q = r} m c) = again (pass_reached ss p r g m) (pass_cut c g)

-- a full run with passes in it is one without
pass_run : {ss : List (List ℕ)} {p q : List ℕ} {vs : List (Answer Counts)} → PassRun ss p q vs → ImageBytes ss
    → (q ≡ run ss p) × (vs ≡ answers ss p)
pass_run passes.ended g = (refl, refl)
pass_run (passes.full {s = s} {p = p} c) g =
    let rest = pass_run c g.1 in
    (rest.0, ap (λ (r : List (Answer Counts)). answer s (length s) (length p) ∷ r) rest.1)
pass_run (passes.full_pass {ss = ss} {p = p} cs ks a c) g =
    let same = as_whole (length p) p cs g.0 in
    let bytes = same.contents ks a in
    let rest = pass_run c g.1 in (
      rest.0 ∙ ap (run ss) bytes,
      ap₂ (λ (n : Answer Counts) (r : List (Answer Counts)). n ∷ r) same.storing (rest.1 ∙ ap (answers ss) bytes),
    )

pub pass_restart : PassRestart
pass_restart ss p q g m =
    let done = restart ss p q (pass_reached ss p q g m) in (
      done.0,
      done.1,
      λ r vs c. let full = pass_run c g in (full.0 ∙ done.1.same_bytes, full.1 ∙ done.1.same_answers),
    )

pub only_due : OnlyDue
only_due len p cs small l = all_due len p cs small l

pub each_stores : EachStores
each_stores len room cs small = each_call len room cs small

pub each_answers : EachAnswers
each_answers len room qs small = each_answer len room qs small

pub unsummed : Unsummed
unsummed = record { header = head_same; none = fed_same }

pub refusal_numbers : RefusalNumbers
unfolding answer_now
refusal_numbers x = by (ltb 0 x.refusal.number) refl
  where
    by : (t : Bool) → ltb 0 x.refusal.number ≡ t
        → HasNumber (cond t (refused x.refusal.number x.refusal.place) (accepted x.walk.counts))
    by true e = ltb-true 0 x.refusal.number e
    by false e = tt
