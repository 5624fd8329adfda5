-- What a stretch of bytes stores at once.
-- Assumes nothing.
use Rattle.std.specs.Prelude.{cond, ◌&&◌, List, [], ◌∷◌, map, ℕ, ◌-◌, eqb, length}
use Rattle.std.proofs.Math.Option.{some}
use Rattle.std.proofs.lemmas.List.Edits.{sets}
use Rattle.sparse_rules.specs.declared.Kind.{Kind}
use Rattle.sparse_rules.specs.declared.Kind.TheVariants.{Raw, Fill, DontCare, Unknown}
use Rattle.sparse_rules.specs.Cells.{cells_by}
use Rattle.sparse_store_rules.specs.Store.{laid}
use Rattle.sparse_stream_rules.specs.declared.Pass.{Pass}
use Rattle.sparse_stream_rules.specs.State.{kind_now, span_now, end_now, gap, in_data}
use Rattle.sparse_stream_rules.specs.Laid.{fill_from, data_laid}

-- a fill chunk, whole, by its word
abbrev pub fill_by : Pass → List ℕ → List ℕ → List ℕ
fill_by x word p = laid (fill_from x) (cells_by word Fill 0 (span_now x)) p

-- at data of a kind: raw data lie where their first byte does, a whole fill word fills, and else the first byte says it
abbrev pub stretch_by : Kind → Pass → ℕ → List ℕ → List ℕ → List ℕ
stretch_by Raw x b bs p = laid (end_now x - gap x) (map some (b ∷ bs)) p
stretch_by Fill x b bs p =
    cond (eqb (length (b ∷ bs)) 4 && eqb (gap x) 4) (fill_by x (sets x.kept.word 0 (b ∷ bs)) p) (data_laid Fill x b p)
stretch_by DontCare x b bs p = p
stretch_by Unknown x b bs p = p

-- what a stretch stores: nothing unless it is one of data
unfoldable pub stretch_laid : Pass → List ℕ → List ℕ → List ℕ
stretch_laid x [] p = p
stretch_laid x (b ∷ bs) p = cond (in_data x) (stretch_by (kind_now x) x b bs p) p
