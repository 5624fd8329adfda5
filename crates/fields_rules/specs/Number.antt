-- Fields of a few bytes, low byte first, in a list of bytes.
-- Assumes nothing.
use Rattle.std.specs.Prelude.{cond, List, [], ◌∷◌, ◌++◌, ℕ, zero, suc, ◌+◌, ◌*◌, ◌/◌, ◌%◌, ◌<◌, leb, get_or, length}
use Rattle.std.proofs.lemmas.List.Edits.{sets}

-- "All fields are unsigned, low byte first": the number in w bytes from a place on, a byte past the end counting as 0
unfoldable pub number_at : List ℕ → ℕ → ℕ → ℕ
number_at s at zero = 0
number_at s at (suc w) = get_or s at 0 + 256 * number_at s (suc at) w

-- the w low bytes of a number, low byte first
abbrev pub bytes : ℕ → ℕ → List ℕ
bytes zero v = []
bytes (suc w) v = v % 256 ∷ bytes w (v / 256)

-- fields one after the other, each a width and a value
unfoldable pub packed : List (ℕ × ℕ) → List ℕ
packed [] = []
packed (f ∷ fs) = bytes f.0 f.1 ++ packed fs

-- a list of bytes: each number is below 256
abbrev pub Bytes : List ℕ → Type 0
Bytes s = (i : ℕ) → get_or s i 0 < 256

-- bytes stored from a place on; where they do not fit whole, nothing changes
unfoldable pub placed : List ℕ → ℕ → List ℕ → List ℕ
placed s at xs = cond (leb (at + length xs) (length s)) (sets s at xs) s
