-- Blocks compared where they stand in their images.
-- Assumes nothing.
use Rattle.std.specs.Prelude.{Bool, true, false, ◌&&◌, cond, List, [], ◌∷◌, ℕ, ◌+◌, ◌-◌, leb, eqb, length}
use Rattle.sparse_rules.specs.declared.Kind.{Kind}
use Rattle.sparse_rules.specs.declared.Kind.TheVariants.{Raw, Fill, DontCare, Unknown}
use Rattle.sparse_rules.specs.declared.Chunk.{Chunk}
use Rattle.sparse_rules.specs.Cells.{tab, raw_byte}

-- lists of bytes that are the same
unfoldable pub alike : List ℕ → List ℕ → Bool
alike [] [] = true
alike [] (y ∷ ys) = false
alike (x ∷ xs) [] = false
alike (x ∷ xs) (y ∷ ys) = eqb x y && alike xs ys

-- two images have n bytes each from a place on, and these are the same
unfoldable pub same_bytes_at : List ℕ → ℕ → List ℕ → ℕ → ℕ → Bool
same_bytes_at s i t j n = leb (i + n) (length s) && leb (j + n) (length t) && alike (tab (raw_byte s i) 0 n) (tab (raw_byte t j) 0 n)

-- b bytes of s are 4 bytes of t repeated: the first 4 are these, and each later one is as the byte 4 before it
unfoldable pub repeats_word : List ℕ → ℕ → List ℕ → ℕ → ℕ → Bool
repeats_word s i t j b = same_bytes_at s i t j 4 && same_bytes_at s (i + 4) s i (b - 4)

-- a chunk whose blocks have their data one after the other
abbrev pub is_raw : Kind → Bool
is_raw Raw = true
is_raw Fill = false
is_raw DontCare = false
is_raw Unknown = false

-- whether the first blocks of two chunks that write hold the same b bytes: "Raw and fill that give the same bytes are equal"
unfoldable pub same_block : List ℕ → Chunk → List ℕ → Chunk → ℕ → Bool
same_block s x t y b =
    cond (is_raw x.kind)
    (cond (is_raw y.kind) (same_bytes_at s x.body t y.body b) (repeats_word s x.body t y.body b))
    (cond (is_raw y.kind) (repeats_word t y.body s x.body b) (same_bytes_at s x.body t y.body 4))
