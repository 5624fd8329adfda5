-- What is known of an image of an announced length once its first bytes have come, and which cells are due.
-- Assumes nothing.
use Rattle.std.specs.Prelude.{Bool, cond, List, [], ◌∷◌, ◌++◌, ℕ, zero, suc, ◌+◌, ◌-◌, ◌*◌, min, leb, ltb, length}
use Rattle.std.proofs.Math.Option.{Option}
use Rattle.rules.specs.First.{first}
use Rattle.sparse_rules.specs.declared.Header.{Header}
use Rattle.sparse_rules.specs.declared.Cursor.{Cursor}
use Rattle.sparse_rules.specs.declared.Kind.{Kind}
use Rattle.sparse_rules.specs.declared.Kind.TheVariants.{Raw, Fill, DontCare, Unknown}
use Rattle.sparse_rules.specs.declared.Chunk.{Chunk}
use Rattle.sparse_rules.specs.Header.{header_of, header_tests, total_chunks, block_size}
use Rattle.sparse_rules.specs.Chunks.{chunk_tests, chunk_at, next_cursor}
use Rattle.sparse_rules.specs.Walk.{end_tests, origin}
use Rattle.sparse_rules.specs.Cells.{cells_by}
use Rattle.sparse_rules.specs.Judge.{sum_tests}

-- what tests say once so many bytes have come: all ran and none applies, the next one waits for bytes, or one refuses
pub data Tested : Type 0 where
  passes : Tested
  waits : Tested
  refuses : ℕ → Tested

-- "each of 01's tests runs, in order, as soon as the bytes it reads .. have come": beside each test, where those bytes end
abbrev pub tested : ℕ → List ℕ → List (Bool × ℕ) → Tested
tested came ends [] = passes
tested came [] (t ∷ ts) = passes
tested came (e ∷ ends) (t ∷ ts) = cond (ltb came e) waits (cond t.0 (refuses t.1) (tested came ends ts))

-- the number of the refusal, 0 where there is none
abbrev pub tested_number : Tested → ℕ
tested_number passes = 0
tested_number waits = 0
tested_number (refuses n) = n

-- 1 reads no byte, 2 the magic, 3 the major, 4 both header sizes, 5 the block size, 6 the total blocks
abbrev pub header_ends : List ℕ
header_ends = 0 ∷ 4 ∷ 6 ∷ 12 ∷ 16 ∷ 20 ∷ []

-- the first 7 wants what stands before the chunk; 8, the second 7 and 9 read the 12 known bytes of its header
abbrev pub chunk_ends : Cursor → List ℕ
chunk_ends c = c.at ∷ (c.at + 12) ∷ (c.at + 12) ∷ (c.at + 12) ∷ []

-- 9 and 10 after the last chunk want all that stands before
abbrev pub end_ends : Cursor → List ℕ
end_ends c = c.at ∷ c.at ∷ []

-- what is known: the chunks whose tests have passed, with a refusal's number and place, or with more to come; or a whole image's
pub data Known : Type 0 where
  stopped : List Chunk → ℕ → ℕ → Known
  waiting : List Chunk → Known
  whole : List Chunk → Known

-- as tests say: a refusal at a place, waiting, or what is known further on
abbrev pub when_tested : Tested → ℕ → Known → Known
when_tested passes place v = v
when_tested waits place v = waiting []
when_tested (refuses n) place v = stopped [] n place

-- a chunk before those that are known
abbrev pub more_known : Chunk → Known → Known
more_known k (stopped ks n place) = stopped (k ∷ ks) n place
more_known k (waiting ks) = waiting (k ∷ ks)
more_known k (whole ks) = whole (k ∷ ks)

-- so many chunks from a cursor on, of which the first bytes s have come; the announced length counts as the input's
unfoldable pub known_from : List ℕ → ℕ → Header → ℕ → Cursor → Known
known_from s len h zero c = when_tested (tested (length s) (end_ends c) (end_tests len h c)) c.at (whole [])
known_from s len h (suc n) c =
    let rest : Known = more_known (chunk_at s h c) (known_from s len h n (next_cursor s c)) in
    when_tested (tested (length s) (chunk_ends c) (chunk_tests s len h c)) c.at rest

-- refused by a number that is not 0, at 24
abbrev pub sum_known : ℕ → List Chunk → Known
sum_known zero ks = whole ks
sum_known (suc n) ks = stopped ks (suc n) 24

-- 11 once all has come
unfoldable pub known_sum : List ℕ → Known → Known
known_sum s (stopped ks n place) = stopped ks n place
known_sum s (waiting ks) = waiting ks
known_sum s (whole ks) = sum_known (first (sum_tests s ks)) ks

-- the first bytes s of an image of so many bytes have come, for a partition with so much room
unfoldable pub known : List ℕ → ℕ → ℕ → Known
known s len room =
    let rest : Known = known_sum s (known_from s len (header_of s) (total_chunks s) (origin (header_of s))) in
    when_tested (tested (length s) header_ends (header_tests s len room)) 0 rest

-- the chunks whose tests have passed
abbrev pub passed : Known → List Chunk
passed (stopped ks n place) = ks
passed (waiting ks) = ks
passed (whole ks) = ks

-- the cells of a kind of chunk that are due: "fill chunks whole and a raw block as far as it came"
unfoldable pub due_by : List ℕ → Kind → ℕ → ℕ → List (Option ℕ)
due_by s Raw at n = cells_by s Raw at (min n (length s - at))
due_by s Fill at n = cond (leb (at + 4) (length s)) (cells_by s Fill at n) []
due_by s DontCare at n = cells_by s DontCare at n
due_by s Unknown at n = cells_by s Unknown at n

-- of chunks, in order from byte 0
unfoldable pub due_from : List ℕ → ℕ → List Chunk → List (Option ℕ)
due_from s b [] = []
due_from s b (k ∷ ks) = due_by s k.kind k.body (k.blocks * b) ++ due_from s b ks

-- "the bytes that have come due", once the first bytes s have come
unfoldable pub due : List ℕ → ℕ → ℕ → List (Option ℕ)
due s len room = due_from s (block_size s) (passed (known s len room))
