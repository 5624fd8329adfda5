-- Storing an image on a partition: whole, or cut after a number of stored blocks.
-- Assumes nothing.
use Rattle.std.proofs.Math.Option.{Option, none, some, get_or}
use Rattle.std.specs.Prelude.{List, [], ◌∷◌, ◌++◌, ℕ, zero, suc, ◌*◌, length, replicate}
use Rattle.sparse_rules.specs.Header.{block_size}
use Rattle.sparse_rules.specs.Judge.{effect}

-- cells laid over a partition from byte 0: a stored byte is the cell's, every other byte is as before
abbrev pub over : List (Option ℕ) → List ℕ → List ℕ
over [] p = p
over (c ∷ cs) [] = []
over (c ∷ cs) (x ∷ xs) = get_or c x ∷ over cs xs

-- cells laid over a partition from a byte on
abbrev pub laid : ℕ → List (Option ℕ) → List ℕ → List ℕ
laid from cs p = over (replicate from none ++ cs) p

-- cells cut after k stored ones: the first k are new, the next hold the bytes js, and none is stored after those
abbrev pub torn : ℕ → List ℕ → List (Option ℕ) → List (Option ℕ)
torn k js [] = []
torn k js (none ∷ cs) = none ∷ torn k js cs
torn (suc k) js (some b ∷ cs) = some b ∷ torn k js cs
torn zero (j ∷ js) (some b ∷ cs) = some j ∷ torn zero js cs
torn zero [] (some b ∷ cs) = none ∷ torn zero [] cs

-- the plain store: "An accepted image stores exactly the bytes of its raw and fill blocks"; a refused one stores nothing
unfoldable pub store : List ℕ → List ℕ → List ℕ
store s p = over (effect s (length p)) p

-- the *cut state* after n blocks: those are new, the next one holds the bytes js, "every other byte is as before this image"
unfoldable pub cut_store : ℕ → List ℕ → List ℕ → List ℕ → List ℕ
cut_store n js s p = over (torn (n * block_size s) js (effect s (length p))) p

-- the cut form, "what a limit of n leaves": the next block is as before too
unfoldable pub store_up_to : ℕ → List ℕ → List ℕ → List ℕ
store_up_to n s p = cut_store n [] s p
