-- What the judge finds of an image.
-- Assumes nothing.
use Rattle.std.specs.Prelude.{Bool, not, ◌&&◌, List, [], ◌∷◌, ℕ, eqb, length}
use Rattle.std.proofs.Math.Option.{Option}
use Rattle.rules.specs.First.{first}
use Rattle.sparse_rules.specs.declared.Chunk.{Chunk}
use Rattle.sparse_rules.specs.Header.{header_tests, header_of, block_size, total_chunks, stated_checksum}
use Rattle.sparse_rules.specs.Walk.{Finding, walk, origin}
use Rattle.rules.specs.Answer.{refused, accepted, unless, onward}
use Rattle.sparse_rules.specs.Cells.{cells, checksum_of}

-- 02, request 2: "0 means that none is stated"
abbrev pub sum_stated : ℕ → Bool
sum_stated stated = not (eqb stated 0)

-- a checksum that is stated "must equal the header field"
abbrev pub sum_differs : ℕ → ℕ → Bool
sum_differs sum stated = sum_stated stated && not (eqb sum stated)

-- refusal 11
unfoldable pub sum_tests : List ℕ → List Chunk → List (Bool × ℕ)
sum_tests s ks = (sum_differs (checksum_of s (block_size s) ks) (stated_checksum s), 11) ∷ []

-- where the structure holds, the checksum decides; its refusal's place is 24
unfoldable pub summed : List ℕ → Finding → Finding
summed s f = onward f (λ ks. unless (first (sum_tests s ks)) 24 (accepted ks))

-- the structure of an image: its chunks, tested in order from the first
unfoldable pub structure : List ℕ → ℕ → Finding
structure s len = walk s len (header_of s) (total_chunks s) (origin (header_of s))

-- an image of so many bytes, for a partition with so much room: header, then structure, then checksum; place 0 for 1 to 6
unfoldable pub judged : List ℕ → ℕ → ℕ → Finding
judged s len room =
    let rest : Finding = summed s (structure s len) in
    unless (first (header_tests s len room)) 0 rest

-- what a finding gives each byte from byte 0 on; a refused image stores nothing
unfoldable pub effect_of : List ℕ → Finding → List (Option ℕ)
effect_of s (refused n place) = []
effect_of s (accepted ks) = cells s (block_size s) ks

-- what an image gives each byte of a partition with so much room
unfoldable pub effect : List ℕ → ℕ → List (Option ℕ)
effect s room = effect_of s (judged s (length s) room)
