-- The lines of the releases, put one after the other.
-- Assumes nothing.
use mathlib.Core.Path.{◌≡◌, ◌∙◌, subst}
use mathlib.Core.List.{List, flatten}
use Prim.Native.Nat.{ℕ, suc, ◌+◌, ◌-◌, ◌≤◌, ◌<◌}
use native.Mathlib.Omega.{arith}
use lib.Dec.{eqb, eqb→eq}
use lib.ListN.{get_or, take}
use Rattle.rules.proofs.Table.{at}
use Rattle.text.specs.declared.Text.{Text}
use Rattle.text.specs.Texts.{Puts}
use Rattle.text.proofs.Growing.{puts_nothing, puts_then}
use Rattle.boot_launch_rules.specs.Rules.{with_each, releases, pairs_of, pairs}
use Rattle.boot_launch_rules.specs.Text.{taken_lines}
use Rattle.boot_launch_rules.proofs.Texts.{lines_next}

-- the release at a place
release_at : (k : ℕ) → k < 6 → get_or releases k 0 ≡ 8 + k
release_at k h = eqb→eq (get_or releases k 0) (8 + k) (at 0 (λ i x. eqb x (8 + i)) releases tt k h)

-- a turn of the loop: the lines of all releases before one are put
pub record Going (s : List ℕ) (before : Text) (release : ℕ) (out : Text) : Type 0 where
  pub low : 8 ≤ release
  pub high : release ≤ 14
  pub lines : Puts before (taken_lines s (pairs_of (take (release - 8) releases))) out

module _ (s : List ℕ) (before : Text) where
  -- before the first release
  pub going_start : Going s before 8 before
  unfolding flatten
  going_start = record { low = omega arith; high = omega arith; lines = puts_nothing }

  module _ (release : ℕ) (out : Text) (i : Going s before release out) where
    -- a release whose lines are put
    pub going_step : {to : Text} → release < 14 → Puts out (taken_lines s (with_each release)) to → Going s before (release + 1) to
    going_step {to} h put =
        let k : ℕ = release - 8 in
        let e : release + 1 - 8 ≡ suc (release - 8) = omega (arith, i.low) in
        let there : get_or releases k 0 ≡ release = release_at k (omega (arith, i.low)) ∙ (let f : 8 + (release - 8) ≡ release = omega (arith, i.low) in f) in
        record {
          low = omega (arith, i.low);
          high = omega arith;
          lines = rw (e, lines_next s releases k (omega (arith, i.low)), there) (puts_then i.lines put);
        }

    -- after the last release
    pub going_done : 14 ≤ release → Puts before (taken_lines s pairs) out
    going_done h = let e : release - 8 ≡ 6 = omega (arith, i.high) in subst (λ (n : ℕ). Puts before (taken_lines s (pairs_of (take n releases))) out) e i.lines
