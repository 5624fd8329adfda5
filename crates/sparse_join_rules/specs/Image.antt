-- The joined image in its parts, as they are put.
-- Assumes nothing.
use Rattle.std.specs.Prelude.{List, map, ℕ}
use Rattle.sparse_rules.specs.Header.{block_size}
use Rattle.sparse_rules.specs.Cells.{zeroed}
use Rattle.sparse_write_rules.specs.Blocks.{block_cells}
use Rattle.sparse_write_rules.specs.Kinds.{BlockKind, same_kind, block_kind}
use Rattle.sparse_write_rules.specs.Runs.{Run, runs}
use Rattle.sparse_write_rules.specs.Encode.{chunks}
use Rattle.sparse_join_rules.specs.Join.{joined_blocks}

-- the bytes of its blocks, those it keeps as zeros: what its checksum goes over
abbrev pub joined_bytes : List ℕ → List ℕ → List ℕ
joined_bytes s t = zeroed (block_cells (block_size s) (joined_blocks s t))

-- the runs of its blocks, one for each chunk
abbrev pub joined_runs : List ℕ → List ℕ → List (Run BlockKind)
joined_runs s t = runs same_kind (map (block_kind (block_size s)) (joined_blocks s t))

-- its chunks
abbrev pub joined_chunks : List ℕ → List ℕ → List ℕ
joined_chunks s t = chunks (block_size s) (joined_bytes s t) 0 (joined_runs s t)
