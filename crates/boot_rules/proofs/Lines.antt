-- Where the command line stands in each version: the rows of the table, one by one. Assumes nothing.
use mathlib.Core.Path.{◌≡◌, refl}
use Prim.Native.Nat.{ℕ, zero, suc, ◌≤◌}
use native.Mathlib.Omega.{arith}
use Rattle.boot_rules.specs.Table.{field, lacking, row_of, cmdline, extra_cmdline, LineFields}

early : (v : ℕ) → v ≤ 2 → (cmdline (row_of v) ≡ field 64 512) × (extra_cmdline (row_of v) ≡ field 608 1024)
unfolding row_of
early zero h = (refl, refl)
early (suc zero) h = (refl, refl)
early (suc (suc zero)) h = (refl, refl)
early (suc (suc (suc v))) h = absurd (omega arith)

late : (v : ℕ) → 3 ≤ v → v ≤ 4 → (cmdline (row_of v) ≡ field 44 1536) × (extra_cmdline (row_of v) ≡ lacking)
unfolding row_of
late (suc (suc (suc zero))) l h = (refl, refl)
late (suc (suc (suc (suc zero)))) l h = (refl, refl)
late (suc (suc (suc (suc (suc v))))) l h = absurd (omega arith)
late zero l h = absurd (omega arith)
late (suc zero) l h = absurd (omega arith)
late (suc (suc zero)) l h = absurd (omega arith)

-- the fields of the command line, in every version
pub line_fields : LineFields
line_fields = record { early = early; late = late }
