-- Words and numbers as bytes.
-- Assumes nothing.
use Rattle.std.specs.Prelude.{cond, List, [], ◌∷◌, ◌++◌, ℕ, zero, suc, ◌+◌, ◌/◌, ◌%◌, ltb}
use Prim.Native.Char.{code}
use Prim.Native.String.{String}
use Prim.Native.String as string

-- a text by the codes of its characters
abbrev pub ascii : String → List ℕ
ascii string.[] = []
ascii (string.◌∷◌ c s) = code c ∷ ascii s

-- a number by its decimal digits, at most so many: those of its tenth part, where there are any, then the last one
unfoldable pub digits_up_to : ℕ → ℕ → List ℕ
digits_up_to zero n = []
digits_up_to (suc k) n =
    let front : List ℕ = digits_up_to k (n / 10) in
    cond (ltb n 10) [] front ++ ((48 + n % 10) ∷ [])

-- a number by its decimal digits: 20 hold every number of 64 bits
unfoldable pub decimal : ℕ → List ℕ
decimal n = digits_up_to 20 n

-- a word and a number after it
unfoldable pub labelled : List ℕ → ℕ → List ℕ
labelled word n = word ++ decimal n

-- a line: its parts one after the other, and a newline
abbrev pub line : List (List ℕ) → List ℕ
line [] = ascii "\n"
line (part ∷ parts) = part ++ line parts
