-- The state of a pass as 112 bytes: its numbers, low byte first, one after the other, then the bytes that it keeps.
-- Assumes nothing.
use Rattle.std.specs.Prelude.{List, [], ◌∷◌, ◌++◌, ℕ, take, drop}
use Rattle.fields_rules.specs.Number.{number_at, packed}
use Rattle.sparse_stream_rules.specs.declared.Walk.{Walk}
use Rattle.sparse_stream_rules.specs.declared.Kept.{Kept}
use Rattle.sparse_stream_rules.specs.declared.Pass.{Pass}

-- numbers, each with its width: the lengths of image and partition, a refusal's number and place, how many bytes have come,
-- the checksum's state
abbrev pub start_numbers : ℕ → ℕ → ℕ → ℕ → ℕ → ℕ → List (ℕ × ℕ)
start_numbers len room number place came sum = (8, len) ∷ (8, room) ∷ (4, number) ∷ (8, place) ∷ (8, came) ∷ (4, sum) ∷ []

-- those of the walk over the chunks: where the next one begins, its first block, how many are left, the three counts of blocks
abbrev pub walk_numbers : ℕ → ℕ → ℕ → ℕ → ℕ → ℕ → List (ℕ × ℕ)
walk_numbers at first left written dont_care_of unknown =
    (8, at) ∷ (4, first) ∷ (4, left) ∷ (4, written) ∷ (4, dont_care_of) ∷ (4, unknown) ∷ []

-- the numbers of a state
abbrev pub start_of : Pass → List (ℕ × ℕ)
start_of x = start_numbers x.told.length x.told.room x.refusal.number x.refusal.place x.come.bytes x.come.sum

-- and those of its walk
abbrev pub walk_by : Pass → List (ℕ × ℕ)
walk_by x =
    walk_numbers x.walk.next.at x.walk.next.first x.walk.left x.walk.counts.written x.walk.counts.dont_care
    x.walk.counts.unknown

-- the bytes that are kept
abbrev pub kept_bytes : Kept → List ℕ
kept_bytes k = k.file ++ (k.chunk ++ k.word)

-- a state's bytes
unfoldable pub pass_bytes : Pass → List ℕ
pass_bytes x = packed (start_of x) ++ (packed (walk_by x) ++ kept_bytes x.kept)

-- so many bytes from a place on
abbrev pub part : List ℕ → ℕ → ℕ → List ℕ
part s at n = take n (drop at s)

-- the walk that bytes say
abbrev pub walk_of : List ℕ → Walk
walk_of s =
    record {
      next = record { at = number_at s 40 8; first = number_at s 48 4 };
      left = number_at s 52 4;
      counts = record { written = number_at s 56 4; dont_care = number_at s 60 4; unknown = number_at s 64 4 };
    }

-- the bytes that they keep
abbrev pub kept_of : List ℕ → Kept
kept_of s = record { file = part s 68 28; chunk = part s 96 12; word = part s 108 4 }

-- the state that bytes say
unfoldable pub pass_of : List ℕ → Pass
pass_of s =
    record {
      told = record { length = number_at s 0 8; room = number_at s 8 8 };
      refusal = record { number = number_at s 16 4; place = number_at s 20 8 };
      come = record { bytes = number_at s 28 8; sum = number_at s 36 4 };
      walk = walk_of s;
      kept = kept_of s;
    }
