-- What the state of a pass says.
-- Assumes nothing.
use Rattle.std.specs.Prelude.{Bool, not, ◌&&◌, ◌||◌, ℕ, zero, suc, ◌+◌, ◌-◌, ◌*◌, min, leb, ltb}
use Rattle.fields_rules.specs.Number.{number_at}
use Rattle.sparse_rules.specs.declared.Header.{Header}
use Rattle.sparse_rules.specs.declared.Kind.{Kind}
use Rattle.sparse_rules.specs.declared.Kind.TheVariants.{Raw, Fill, DontCare, Unknown}
use Rattle.sparse_rules.specs.Header.{header_of}
use Rattle.sparse_rules.specs.Chunks.{kind_of}
use Rattle.sparse_stream_rules.specs.declared.Walk.{Walk}
use Rattle.sparse_stream_rules.specs.declared.Kept.{Kept}
use Rattle.sparse_stream_rules.specs.declared.Pass.{Pass}

-- the file header, as far as it has come
abbrev pub head_of : Pass → Header
head_of x = header_of x.kept.file

-- the kind of the chunk whose header came last
abbrev pub kind_now : Pass → Kind
kind_now x = kind_of (number_at x.kept.chunk 0 2)

-- its size in blocks
abbrev pub blocks_now : Pass → ℕ
blocks_now x = number_at x.kept.chunk 4 4

-- its total size in bytes
abbrev pub size_now : Pass → ℕ
size_now x = number_at x.kept.chunk 8 4

-- the bytes of its blocks
abbrev pub span_now : Pass → ℕ
span_now x = blocks_now x * (head_of x).block

-- where the blocks of the chunks that were read end in the partition
abbrev pub end_now : Pass → ℕ
end_now x = x.walk.next.first * (head_of x).block

-- the bytes of the chunk that are still to come
abbrev pub gap : Pass → ℕ
gap x = x.walk.next.at - x.come.bytes

-- how many bytes of data a kind of chunk ends with
abbrev pub data_by : Kind → Pass → ℕ
data_by Raw x = min (span_now x) (end_now x)
data_by Fill x = 4
data_by DontCare x = 0
data_by Unknown x = 0

-- no more bytes are taken: a refusal was given, or the state is one that no pass comes to, 12 bytes and more into a chunk header
unfoldable pub stuck : Pass → Bool
stuck x = ltb 0 x.refusal.number || (leb 28 x.come.bytes && leb 12 (x.come.bytes - x.walk.next.at))

-- the next byte is one of a chunk's data
unfoldable pub in_data : Pass → Bool
in_data x = not (stuck x) && leb 28 x.come.bytes && ltb x.come.bytes x.walk.next.at && leb (gap x) (data_by (kind_now x) x)

-- ---- a state with one part changed

-- refused by a number that is not 0, at a place; else another state
abbrev pub stop_or : ℕ → ℕ → Pass → Pass → Pass
stop_or zero place x y = y
stop_or (suc n) place x y =
    record { told = x.told; refusal = record { number = suc n; place = place }; come = x.come; walk = x.walk; kept = x.kept }

-- so many bytes more have come, and the checksum's state is another
abbrev pub moved : Pass → ℕ → ℕ → Pass
moved x n sum =
    record { told = x.told; refusal = x.refusal; come = record { bytes = x.come.bytes + n; sum = sum }; walk = x.walk; kept = x.kept }

-- the walk stands elsewhere
abbrev pub walking : Pass → Walk → Pass
walking x w = record { told = x.told; refusal = x.refusal; come = x.come; walk = w; kept = x.kept }

-- other bytes are kept
abbrev pub keeping : Pass → Kept → Pass
keeping x k = record { told = x.told; refusal = x.refusal; come = x.come; walk = x.walk; kept = k }
