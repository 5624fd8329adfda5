-- A chunk's cells summed onto a state whose zero bytes wait, kind by kind.
-- Assumes nothing.
use mathlib.Core.Path.{◌≡◌, ap, ◌∙◌}
use mathlib.Core.Bool.{false}
use mathlib.Core.List.{List}
use Prim.Native.Nat.{ℕ, ◌+◌, ◌-◌, ◌*◌, ◌/◌, ◌≤◌, ◌<◌, zero-le}
use native.Mathlib.Nat.{le_refl}
use lib.ListN.{get_or, take, drop}
use Rattle.fields_rules.specs.Number.{number_at, bytes}
use Rattle.crc32_rules.specs.Crc.{crc_from}
use Rattle.crc32_rules.specs.Power.{repeated}
use Rattle.crc32_rules.proofs.Laws.{crc_nil, crc_zeros_add}
use Rattle.sparse_rules.specs.declared.Kind.TheVariants.{Raw, Fill}
use Rattle.sparse_rules.specs.declared.Chunk.{Chunk}
use Rattle.sparse_rules.specs.Cells.{cells_of, zeroed}
use Rattle.sparse_rules.specs.Counts.{writes}
use Rattle.sparse_rules.specs.Facts.{Summable}
use Rattle.sparse_rules.proofs.SumLaws.{sum_raw, sum_fill, sum_kept}
use Rattle.sparse_judge.specs.declared.sum.Sum.{Sum}
use Rattle.sparse_judge.specs.Pending.{state_of}

-- what a chunk makes of a sum: its cells are summed, and no more zeros wait than it has bytes beside those that did
abbrev pub Summed : Sum → List ℕ → ℕ → Chunk → Sum → Type 0
Summed x s b k r = (state_of r ≡ crc_from (state_of x) (zeroed (cells_of s b k))) × (r.zeros ≤ x.zeros + k.blocks * b)

module _ (x : Sum) (s : List ℕ) (b : ℕ) (k : Chunk) (w : Summable s b k) where
  -- raw data are summed at once
  pub summed_raw : k.kind ≡ Raw → (y z : ℕ) → y ≡ state_of x → z ≡ crc_from y (take (k.body + k.blocks * b - k.body) (drop k.body s))
      → Summed x s b k (record { state = z; zeros = 0 })
  summed_raw e y z p q =
      let data_now : List ℕ = take (k.body + k.blocks * b - k.body) (drop k.body s) in
      (crc_nil z ∙ q ∙ ap (λ (t : ℕ). crc_from t data_now) p ∙ sum_raw (state_of x) s b k w e, zero-le)

  -- and so are fill blocks
  pub summed_fill : ((i : ℕ) → get_or s i 0 < 256) → k.kind ≡ Fill → (v y z : ℕ) → v ≡ number_at s k.body 4 → y ≡ state_of x
      → z ≡ crc_from y (repeated (k.blocks * b / 4) (bytes 4 v)) → Summed x s b k (record { state = z; zeros = 0 })
  summed_fill small e v y z o p q = (crc_nil z ∙ q ∙ rw (o, p) (sum_fill (state_of x) s b k w small e), zero-le)

  -- zeros of skipped blocks wait
  pub summed_kept : writes k.kind ≡ false → Summed x s b k (record { state = x.state; zeros = x.zeros + k.blocks * b })
  summed_kept e = (crc_zeros_add x.state x.zeros (k.blocks * b) ∙ sum_kept (state_of x) s b k w e, le_refl _)
