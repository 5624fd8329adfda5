-- What is offered of a boot image: the sections of each version, computed over the table, and when a retired one is told of.
-- Assumes nothing.
use mathlib.Core.Path.{◌≡◌, refl, sym, ap, ◌∙◌}
use mathlib.Core.Bool.{Bool, true, false, ◌||◌, not}
use mathlib.Core.List.{List}
use Prim.Native.Nat.{ℕ, zero, suc, ◌≤◌, ◌<◌}
use native.Mathlib.Omega.{arith}
use lib.Dec.{eqb}
use borrow.Author.Tests.{lt-ltb, eq-eqb, ne_eqb}
use Rattle.boot_rules.specs.declared.Field.{Field}
use Rattle.boot_rules.specs.declared.Layout.{Layout}
use Rattle.boot_rules.specs.Offered.{StandingsOfAll, second_size, RetiredTold}
use Rattle.boot_rules.specs.Sections.{version_in, size_of, section_at, starts_of, sections_of}
use Rattle.boot_rules.specs.Table.{has, number, row_of}
use Rattle.fields_rules.specs.Number.{number_at}
use Rattle.boot_rules.proofs.Answers.{Passed, passed}

-- the sections of all versions
pub standings_of_all : StandingsOfAll
unfolding row_of
standings_of_all = refl

-- a section is as long as its size field says, where the version lacks it too
size_there : (s : List ℕ) (f : Field) (p : ℕ) → size_of (section_at (has f) p (number s f)) ≡ number s f
unfolding number_at
size_there s f p = go f.width
  where
    go : (w : ℕ) → size_of (section_at (has (record { at = f.at; width = w })) p (number s (record { at = f.at; width = w }))) ≡ number s (record { at = f.at; width = w })
    go zero = refl
    go (suc w) = rw (lt-ltb 0 (suc w) (omega arith))

-- a test of one section alone
pub or_none : (b : Bool) → (b || false) ≡ b
or_none true = refl
or_none false = refl

-- what is said of the second section goes by its size
said : (s : List ℕ) (l : Layout) → Passed s l → not (eqb (second_size s) 0) ≡ l.retired
unfolding starts_of sections_of
said s l a =
    ap (λ (n : ℕ). not (eqb n 0)) (sym (size_there s _ _)) ∙ sym (or_none _) ∙ ap (λ (y : Layout). y.retired) a.layout

-- versions from 3 on have none
lacked_from_3 : (s : List ℕ) (v : ℕ) → 3 ≤ v → number_at s (row_of v).second.at (row_of v).second.width ≡ 0
unfolding number_at row_of
lacked_from_3 s zero h = absurd (omega arith)
lacked_from_3 s (suc zero) h = absurd (omega arith)
lacked_from_3 s (suc (suc zero)) h = absurd (omega arith)
lacked_from_3 s (suc (suc (suc zero))) h = refl
lacked_from_3 s (suc (suc (suc (suc zero)))) h = refl
lacked_from_3 s (suc (suc (suc (suc (suc v))))) h = refl

-- a retired section is told of exactly when it is not empty
pub retired_told : RetiredTold
retired_told s l e = record { present = full; empty = none; never = λ z. none (lacked_from_3 s (version_in s) (omega (arith, version, z))) }
  where
    version : version_in s ≡ l.version
    version = ap (λ (y : Layout). y.version) (passed s l e).layout

    full : 0 < second_size s → l.retired ≡ true
    full z = sym (said s l (passed s l e)) ∙ ap not (ne_eqb (second_size s) 0 (λ q. omega arith))

    none : second_size s ≡ 0 → l.retired ≡ false
    none z = sym (said s l (passed s l e)) ∙ ap not (eq-eqb (second_size s) 0 z)
