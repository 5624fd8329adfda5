-- Laws of the numbers in the fields that the table places: a field that the version has is read at its width, and one
-- that it lacks holds 0; and of the page size. Assumes nothing.
use mathlib.Core.Path.{◌≡◌, refl, sym, ap}
use mathlib.Core.Bool.{Bool, true, false, ◌||◌, cond}
use mathlib.Core.List.{List}
use Prim.Native.Nat.{ℕ, ◌≤◌, ◌<◌}
use native.Mathlib.Omega.{arith}
use lib.Dec.{ltb, eqb}
use borrow.Author.Tests.{eqb-true, ne_eqb, ltb-true, ltb-false, lt-ltb, le-ltb}
use Rattle.std.specs.Prelude.{Option, Some, None, unwrap_or}
use Rattle.boot_rules.specs.declared.Field.{Field}
use Rattle.boot_rules.specs.declared.Row.{Row}
use Rattle.boot_rules.specs.Sections.{page_by}
use Rattle.boot_rules.specs.Table.{has, number, read_at, page_size}
use Rattle.fields_rules.specs.Number.{number_at}

-- the number that a field of an image holds; none where the version lacks the field
abbrev pub stated : List ℕ → Field → Option ℕ
stated s f = cond (has f) (Some (number s f)) None

-- a width that is 0 or n, and not 0, is n
width_of : (w n : ℕ) → (eqb w 0 || eqb w n) ≡ true → 0 < w → w ≡ n
width_of w n t h = eqb-true w n (rw (ne_eqb w 0 (λ e. omega arith)) at t)

module _ (s : List ℕ) (f : Field) where
  -- a field of n bytes, where the version has it
  pub number_read : (n : ℕ) → (eqb f.width 0 || eqb f.width n) ≡ true → read_at n s f ≡ stated s f
  number_read n t = go (has f) refl
    where
      go : (b : Bool) → ltb 0 f.width ≡ b → cond b (Some (number_at s f.at n)) None ≡ cond b (Some (number s f)) None
      go true e = ap (λ (w : ℕ). Some (number_at s f.at w)) (sym (width_of f.width n t (ltb-true 0 f.width e)))
      go false e = refl

  -- what is read for it, where what stands for a field that the version lacks is said beside it
  pub stated_or : (d : ℕ) → unwrap_or (stated s f) d ≡ cond (has f) (number s f) d
  stated_or d = go (has f)
    where
      go : (b : Bool) → unwrap_or (cond b (Some (number s f)) None) d ≡ cond b (number s f) d
      go true = refl
      go false = refl

  -- and where that is 0
  pub stated_or_0 : unwrap_or (stated s f) 0 ≡ number s f
  unfolding number_at
  stated_or_0 = go (has f) refl
    where
      go : (b : Bool) → ltb 0 f.width ≡ b → unwrap_or (cond b (Some (number s f)) None) 0 ≡ number_at s f.at f.width
      go true e = refl
      go false e = let l = ltb-false 0 f.width e in let z : f.width ≡ 0 = omega arith in ap (λ (w : ℕ). number_at s f.at w) (sym z)

module _ (s : List ℕ) (r : Row) where
  -- the page size that a header states
  pub page_stated : 0 < r.page.width → number s (page_size r) ≡ page_by s r
  page_stated h = rw (lt-ltb 0 r.page.width h)

  -- and the page of a version that states none
  pub page_fixed : r.page.width ≤ 0 → 4096 ≡ page_by s r
  page_fixed h = rw (le-ltb 0 r.page.width h)
