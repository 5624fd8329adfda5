-- What bytes make of the state of a pass, one after the other.
-- Assumes nothing.
use Rattle.std.specs.Prelude.{Bool, true, false, not, cond, List, [], ◌∷◌, ℕ, ◌+◌, ◌-◌, ◌/◌, ltb, eqb, set, replicate}
use Rattle.std.specs.Int.Bits.{bit_xor}
use Rattle.rules.specs.First.{first}
use Rattle.fields_rules.specs.Number.{number_at, bytes}
use Rattle.crc32_rules.specs.Crc.{crc_from, all_ones}
use Rattle.crc32_rules.specs.Power.{repeated}
use Rattle.sparse_rules.specs.declared.Header.{Header}
use Rattle.sparse_rules.specs.declared.Kind.{Kind}
use Rattle.sparse_rules.specs.declared.Kind.TheVariants.{Raw, Fill, DontCare, Unknown}
use Rattle.sparse_rules.specs.Header.{header_tests}
use Rattle.sparse_rules.specs.Chunks.{size_right}
use Rattle.sparse_rules.specs.Counts.{writes, counted_on}
use Rattle.sparse_rules.specs.Judge.{sum_stated, sum_differs}
use Rattle.sparse_stream_rules.specs.declared.Pass.{Pass}
use Rattle.sparse_stream_rules.specs.Known.{tested, tested_number, header_ends}
use Rattle.sparse_stream_rules.specs.State.{head_of, kind_now, blocks_now, size_now, span_now, gap, data_by, stuck, stop_or, moved, walking, keeping}

-- the checksum's state after some more bytes: where the header states none, none is worked out
unfoldable pub sum_on : Header → ℕ → List ℕ → ℕ
sum_on h sum bs = cond (sum_stated h.checksum) (crc_from sum bs) sum

-- ---- where a chunk begins, or the image ends

-- the first 7 of the next chunk; 9, 10 and 11 after the last
unfoldable pub arrival : Pass → ℕ
arrival x =
    cond (ltb 0 x.walk.left) (first ((ltb x.told.length (x.walk.next.at + (head_of x).head), 7) ∷ []))
    (first
    ((ltb x.walk.next.first (head_of x).total, 9)
    ∷ (ltb x.walk.next.at x.told.length, 10)
    ∷ (sum_differs (bit_xor x.come.sum all_ones) (head_of x).checksum, 11)
    ∷ []))

-- 11 has place 24, the others where the chunk begins, or the image ends
abbrev pub arrival_place : ℕ → ℕ → ℕ
arrival_place n at = cond (eqb n 11) 24 at

-- all bytes before have come, so these tests run
unfoldable pub arrived : Pass → Pass
arrived x = stop_or (arrival x) (arrival_place (arrival x) x.walk.next.at) x x

-- where that is so
abbrev pub arrive_if : Bool → Pass → Pass
arrive_if true x = arrived x
arrive_if false x = x

-- after some bytes: they may have come up to there
unfoldable pub settled : Pass → Pass
settled x = arrive_if (eqb x.come.bytes x.walk.next.at) x

-- ---- the file header

-- refusals 1 to 6, as far as their bytes have come
unfoldable pub header_number : List ℕ → ℕ → ℕ → ℕ → ℕ
header_number file came len room = tested_number (tested came header_ends (header_tests file len room))

-- test 1 reads no byte: the first call makes it
unfoldable pub opened : Pass → Pass
opened x = stop_or (cond (eqb x.come.bytes 0) (header_number x.kept.file 0 x.told.length x.told.room) 0) 0 x x

-- a byte of the known fields is kept
abbrev pub head_kept : Pass → ℕ → Pass
head_kept x b =
    moved (keeping x (record { file = set x.kept.file x.come.bytes b; chunk = x.kept.chunk; word = x.kept.word })) 1 x.come.sum

-- all of them have come: the first chunk stands after the file header
abbrev pub ready : Pass → Pass
ready x =
    walking x
    (record {
      next = record { at = (head_of x).start; first = x.walk.next.first };
      left = (head_of x).chunks;
      counts = x.walk.counts;
    })

-- where they have
abbrev pub ready_if : Bool → Pass → Pass
ready_if true x = settled (ready x)
ready_if false x = x

-- a byte of the known fields
unfoldable pub headed : Pass → ℕ → Pass
headed x b =
    stop_or (header_number (set x.kept.file x.come.bytes b) (x.come.bytes + 1) x.told.length x.told.room) 0 (head_kept x b)
    (ready_if (eqb (x.come.bytes + 1) 28) (head_kept x b))

-- ---- a chunk's header

-- refusals 8, 7 and 9 of the chunk whose header has come
unfoldable pub chunk_number : Pass → ℕ
chunk_number x =
    first
    ((not (size_right (head_of x) (kind_now x) (blocks_now x) (size_now x)), 8)
    ∷ (ltb x.told.length (x.walk.next.at + size_now x), 7)
    ∷ (ltb (head_of x).total (x.walk.next.first + blocks_now x), 9)
    ∷ [])

-- the checksum's state after a chunk's header: blocks that are skipped count as zeros at once
abbrev pub skip_sum : Bool → Header → ℕ → ℕ → ℕ
skip_sum true h n sum = sum
skip_sum false h n sum = sum_on h sum (replicate n 0)

-- past the chunk's size and its blocks, which are counted
abbrev pub chunk_read : Pass → Pass
chunk_read x =
    record {
      told = x.told;
      refusal = x.refusal;
      come = record { bytes = x.come.bytes; sum = skip_sum (writes (kind_now x)) (head_of x) (span_now x) x.come.sum };
      walk = record {
        next = record { at = x.walk.next.at + size_now x; first = x.walk.next.first + blocks_now x };
        left = x.walk.left - 1;
        counts = counted_on x.walk.counts (kind_now x) (blocks_now x);
      };
      kept = x.kept;
    }

-- the chunk whose header has come, refused or read
unfoldable pub chunk_taken : Pass → Pass
chunk_taken x = stop_or (chunk_number x) x.walk.next.at x (settled (chunk_read x))

-- a byte of the known fields is kept
abbrev pub chunk_kept : Pass → ℕ → Pass
chunk_kept x b =
    moved
    (keeping x
    (record { file = x.kept.file; chunk = set x.kept.chunk (x.come.bytes - x.walk.next.at) b; word = x.kept.word }))
    1 x.come.sum

-- where all of them have come
abbrev pub taken_if : Bool → Pass → Pass
taken_if true x = chunk_taken x
taken_if false x = x

-- a byte of the known fields
unfoldable pub gathered : Pass → ℕ → Pass
gathered x b = taken_if (eqb (x.come.bytes - x.walk.next.at) 11) (chunk_kept x b)

-- ---- a chunk's data

-- the checksum's state after a byte of a fill word: the last one counts the whole chunk
abbrev pub fill_sum : Bool → Pass → ℕ
fill_sum true x = sum_on (head_of x) x.come.sum (repeated (span_now x / 4) (bytes 4 (number_at x.kept.word 0 4)))
fill_sum false x = x.come.sum

-- a byte of a fill word is kept
abbrev pub word_kept : Pass → ℕ → Pass
word_kept x b = keeping x (record { file = x.kept.file; chunk = x.kept.chunk; word = set x.kept.word (4 - gap x) b })

-- a byte of a fill word
unfoldable pub worded : Pass → ℕ → Pass
worded x b = moved (word_kept x b) 1 (fill_sum (eqb (gap x) 1) (word_kept x b))

-- a byte of a kind's data
abbrev pub data_taken : Kind → Pass → ℕ → Pass
data_taken Raw x b = moved x 1 (sum_on (head_of x) x.come.sum (b ∷ []))
data_taken Fill x b = worded x b
data_taken DontCare x b = moved x 1 x.come.sum
data_taken Unknown x b = moved x 1 x.come.sum

-- a byte after a chunk's known fields: passed over, or one of its data
unfoldable pub carried : Pass → ℕ → Pass
carried x b = settled (cond (ltb (data_by (kind_now x) x) (gap x)) (moved x 1 x.come.sum) (data_taken (kind_now x) x b))

-- ---- bytes

-- the next byte
unfoldable pub stepped : Pass → ℕ → Pass
stepped x b =
    cond (stuck x) x
    (cond (ltb x.come.bytes 28) (headed x b) (cond (ltb x.come.bytes x.walk.next.at) (carried x b) (gathered x b)))

-- bytes, one after the other
unfoldable pub fed : Pass → List ℕ → Pass
fed x [] = x
fed x (b ∷ bs) = fed (stepped x b) bs
