-- A refusal that is named as one of an image of two.
-- Assumes nothing.
use mathlib.Core.Path.{◌≡◌, refl, sym, ◌∙◌}
use Rattle.std.specs.Prelude.{Result, Ok, Err}
use Rattle.std.specs.Result.{MatchResult, IsErrAnd}
use Rattle.sparse_rules.specs.declared.Refusal.{Refusal}
use Rattle.sparse_rules.specs.declared.Counts.{Counts}
use Rattle.sparse_blocks_rules.specs.declared.PairRefusal.{PairRefusal}

module _ (name : Refusal → PairRefusal) where
  -- where a refusal is answered, it was found
  pub refused_first : (found : Result Counts Refusal) (r : Result Counts PairRefusal) (e : PairRefusal)
      → MatchResult found (λ x. r ≡ Ok x) (λ f. IsErrAnd r (λ e. e ≡ name f)) → r ≡ Err e → (f : Refusal) × (found ≡ Err f) × (e ≡ name f)
  refused_first (Ok x) r e h is = let z : Ok x ≡ Err e = sym h ∙ is in cc
  refused_first (Err f) r e h is = (f, refl, (rw is at h))

  -- and where counts are answered, counts were found
  pub accepted_so : (found : Result Counts Refusal) (r : Result Counts PairRefusal) (c : Counts)
      → MatchResult found (λ x. r ≡ Ok x) (λ f. IsErrAnd r (λ e. e ≡ name f)) → r ≡ Ok c → (x : Counts) × (found ≡ Ok x)
  accepted_so (Ok x) r c h is = (x, refl)
  accepted_so (Err f) r c h is = absurd (rw is at h)
