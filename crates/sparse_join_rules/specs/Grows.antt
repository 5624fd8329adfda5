-- An image as it grows, some blocks of one kind at a time.
-- Assumes nothing.
use Rattle.std.specs.Prelude.{cond, Option, None, List, [], ◌++◌, map, ℕ, ◌+◌, ◌*◌, ◌/◌, length, replicate}
use Rattle.std.proofs.lemmas.List.Edits.{sets}
use Rattle.fields_rules.specs.Number.{bytes}
use Rattle.crc32_rules.specs.Crc.{crc_from}
use Rattle.crc32_rules.specs.Power.{repeated}
use Rattle.sparse_write_rules.specs.declared.Stored.{Stored}
use Rattle.sparse_write_rules.specs.Blocks.{Block}
use Rattle.sparse_write_rules.specs.Kinds.{BlockKind, kept, raw, fill, same_kind, block_kind}
use Rattle.sparse_write_rules.specs.KindOf.{kind_of}
use Rattle.sparse_write_rules.specs.Runs.{Run, runs, closed}
use Rattle.sparse_write_rules.specs.Encode.{chunk_size}
use Rattle.sparse_write_rules.specs.Parts.{chunk_top, chunk_rest, sizes}
use Rattle.sparse_join_rules.specs.declared.Growing.{Growing}

-- before the first block: the header's place is left free
abbrev pub begun : Growing
begun = record { at = 28; chunks = 0; kind = None; blocks = 0 }

-- the last chunk as a run, if it has a block
abbrev pub last_run : Growing → List (Run BlockKind)
last_run g = closed (kind_of g.kind) g.blocks

-- the runs of its blocks and of those that come after
abbrev pub runs_with : ℕ → Growing → List Block → List (Run BlockKind)
runs_with b g xs = runs same_kind (replicate g.blocks (kind_of g.kind) ++ map (block_kind b) xs)

-- where the last chunk ends
abbrev pub end_of : ℕ → Growing → ℕ
end_of b g = g.at + sizes b (last_run g)

-- and how many chunks there are with it
abbrev pub count_of : Growing → ℕ
count_of g = g.chunks + length (last_run g)

-- after the last chunk, one of a kind that has no block yet
abbrev pub ended_for : ℕ → Growing → Option Stored → Growing
ended_for b g kind = record { at = end_of b g; chunks = count_of g; kind = kind; blocks = 0 }

-- where blocks of a kind go: into the last chunk where it is of that kind, and else into one after it
abbrev pub turned_to : ℕ → Growing → Option Stored → Growing
turned_to b g kind = cond (same_kind (kind_of kind) (kind_of g.kind)) g (ended_for b g kind)

-- with n blocks more in the last chunk
abbrev pub lengthened : Growing → ℕ → Growing
lengthened g n = record { at = g.at; chunks = g.chunks; kind = g.kind; blocks = g.blocks + n }

-- the output with n blocks more, which hold these bytes, in the last chunk: its beginning is put anew, and raw data after what stands there
abbrev pub put_into : List ℕ → ℕ → Growing → ℕ → List ℕ → List ℕ
put_into out b g n ys =
    let kind : BlockKind = kind_of g.kind in
    let top : List ℕ = chunk_top kind (g.blocks + n) (chunk_size kind ((g.blocks + n) * b)) in
    sets (sets out g.at top) (g.at + 12 + g.blocks * b) (chunk_rest kind ys)

-- the bytes of n blocks of a kind that the checksum takes when their chunk ends; raw data it takes as they are put
abbrev pub waiting : ℕ → BlockKind → ℕ → List ℕ
waiting b kept n = replicate (n * b) 0
waiting b raw n = []
waiting b (fill w) n = repeated (n * b / 4) (bytes 4 w)

-- the checksum's state once the blocks of the last chunk are taken
abbrev pub settled_by : ℕ → Growing → ℕ → ℕ
settled_by b g state = crc_from state (waiting b (kind_of g.kind) g.blocks)

-- and where blocks of a kind go: a last chunk of another kind has ended
abbrev pub sum_turned : ℕ → Growing → Option Stored → ℕ → ℕ
sum_turned b g kind state = cond (same_kind (kind_of kind) (kind_of g.kind)) state (settled_by b g state)
