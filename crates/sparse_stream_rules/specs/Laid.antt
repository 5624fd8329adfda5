-- What bytes store, one after the other, on a partition that is lent.
-- Assumes nothing.
use Rattle.std.specs.Prelude.{Bool, true, false, cond, List, [], ◌∷◌, ℕ, ◌-◌, eqb}
use Rattle.std.proofs.Math.Option.{some}
use Rattle.sparse_rules.specs.declared.Kind.{Kind}
use Rattle.sparse_rules.specs.declared.Kind.TheVariants.{Raw, Fill, DontCare, Unknown}
use Rattle.sparse_rules.specs.Cells.{cells_by}
use Rattle.sparse_store_rules.specs.Store.{laid}
use Rattle.sparse_stream_rules.specs.declared.Pass.{Pass}
use Rattle.sparse_stream_rules.specs.State.{kind_now, span_now, end_now, gap, in_data}
use Rattle.sparse_stream_rules.specs.Steps.{word_kept, stepped}

-- where the blocks of the chunk that was read last begin
abbrev pub fill_from : Pass → ℕ
fill_from x = end_now x - span_now x

-- a fill chunk, whole
unfoldable pub fill_laid : Pass → List ℕ → List ℕ
fill_laid x p = laid (fill_from x) (cells_by x.kept.word Fill 0 (span_now x)) p

-- where its word has come
abbrev pub fill_if : Bool → Pass → List ℕ → List ℕ
fill_if true x p = fill_laid x p
fill_if false x p = p

-- what a byte of a kind's data stores: "fill chunks whole and a raw block as far as it came"
abbrev pub data_laid : Kind → Pass → ℕ → List ℕ → List ℕ
data_laid Raw x b p = laid (end_now x - gap x) (some b ∷ []) p
data_laid Fill x b p = fill_if (eqb (gap x) 1) (word_kept x b) p
data_laid DontCare x b p = p
data_laid Unknown x b p = p

-- what the next byte stores
unfoldable pub laid_by : Pass → ℕ → List ℕ → List ℕ
laid_by x b p = cond (in_data x) (data_laid (kind_now x) x b p) p

-- what bytes store, one after the other
unfoldable pub stores : Pass → List ℕ → List ℕ → List ℕ
stores x [] p = p
stores x (b ∷ bs) p = stores (stepped x b) bs (laid_by x b p)
