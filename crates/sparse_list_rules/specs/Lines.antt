-- The lines that the lister prints.
-- Assumes nothing.
use Rattle.std.specs.Prelude.{List, [], ◌∷◌, ℕ}
use Rattle.text_rules.specs.Words.{ascii, decimal, labelled, line}
use Rattle.sparse_rules.specs.declared.Header.{Header}
use Rattle.sparse_rules.specs.declared.Kind.{Kind}
use Rattle.sparse_rules.specs.declared.Kind.TheVariants.{Raw, Fill, DontCare, Unknown}
use Rattle.sparse_rules.specs.declared.Chunk.{Chunk}
use Rattle.sparse_rules.specs.declared.Counts.{Counts}

-- "a refusal `refused N at P` alone"
unfoldable pub refused_line : ℕ → ℕ → List ℕ
refused_line n place = line (labelled (ascii "refused ") n ∷ labelled (ascii " at ") place ∷ [])

-- the first line of an accepted image: block size, total blocks, total chunks
unfoldable pub header_line : Header → List ℕ
header_line h =
    line
    (labelled (ascii "block ") h.block ∷ labelled (ascii " total ") h.total ∷ labelled (ascii " chunks ") h.chunks ∷ [])

-- what the lister calls a chunk, between two spaces: "`raw`, `fill` or `skip`", and by 02, request 3, "`unknown` in place of `skip`"
-- where its type is not known
unfoldable pub kind_word : Kind → List ℕ
kind_word Raw = ascii " raw "
kind_word Fill = ascii " fill "
kind_word DontCare = ascii " skip "
kind_word Unknown = ascii " unknown "

-- a chunk's line: "first block", what it is called, "blocks"
unfoldable pub chunk_line : ℕ → Chunk → List ℕ
chunk_line first k = line (decimal first ∷ labelled (kind_word k.kind) k.blocks ∷ [])

-- the last line of an accepted image: blocks written, blocks skipped (don't care), blocks unknown
unfoldable pub last_line : Counts → List ℕ
last_line c =
    line
    (labelled (ascii "ok written ") c.written ∷ labelled (ascii " skipped ") c.dont_care ∷ labelled (ascii " unknown ") c.unknown ∷ [])
