-- How many bytes of a piece one turn takes.
-- Assumes nothing.
use Rattle.std.specs.Prelude.{◌≡◌, Bool, true, false, cond, ◌&&◌, List, ℕ, ◌-◌, ◌<◌, min, leb, ltb, eqb, length}
use Rattle.std.proofs.lemmas.List.Edits.{sets}
use Rattle.sparse_rules.specs.declared.Kind.{Kind}
use Rattle.sparse_rules.specs.declared.Kind.TheVariants.{Raw, Fill, DontCare, Unknown}
use Rattle.sparse_stream_rules.specs.declared.Pass.{Pass}
use Rattle.sparse_stream_rules.specs.State.{kind_now, gap, data_by, stuck, moved, keeping}
use Rattle.sparse_stream_rules.specs.Steps.{fill_sum}

-- of so many bytes: n that begin here are taken at once where they lie whole among them, and else the next byte alone
abbrev pub at_once : Bool → ℕ → ℕ → ℕ
at_once here n rest = cond (here && leb n rest) n 1

-- at data of a kind: raw data together, a fill word at once
abbrev pub stretch_by : Kind → Pass → ℕ → ℕ
stretch_by Raw x rest = min (gap x) rest
stretch_by Fill x rest = at_once (eqb (gap x) 4) 4 rest
stretch_by DontCare x rest = 1
stretch_by Unknown x rest = 1

-- at a chunk header, which is read at once
abbrev pub head_stretch : Pass → ℕ → ℕ
head_stretch x rest = at_once (eqb x.come.bytes x.walk.next.at) 12 rest

-- of so many bytes: those that are passed over go together too
unfoldable pub stretch : Pass → ℕ → ℕ
stretch x rest =
    cond (ltb x.come.bytes 28) 1
    (cond (ltb x.come.bytes x.walk.next.at)
    (cond (ltb (data_by (kind_now x) x) (gap x)) (min (gap x - data_by (kind_now x) x) rest) (stretch_by (kind_now x) x rest))
    (head_stretch x rest))

-- the state that keeps the bytes of a fill word
abbrev pub word_whole : Pass → List ℕ → Pass
word_whole x bs = keeping x (record { file = x.kept.file; chunk = x.kept.chunk; word = sets x.kept.word 0 bs })

-- and has taken them: the checksum counts the whole chunk
abbrev pub word_taken : Pass → List ℕ → Pass
word_taken x bs = moved (word_whole x bs) 4 (fill_sum true (word_whole x bs))

-- a turn takes the bytes of a stretch
pub record Turn (x : Pass) (bs : List ℕ) : Type 0 where
  -- the state takes bytes
  pub free : stuck x ≡ false
  -- there are some
  pub some : 0 < length bs
  -- and they are no more than go together
  pub size : length bs ≡ stretch x (length bs)
