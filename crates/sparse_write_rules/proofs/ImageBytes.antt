-- An encoded image is bytes.
-- Assumes nothing.
use mathlib.Core.Option.{none, some}
use mathlib.Core.List.{List, [], ◌∷◌, map}
use Prim.Native.Nat.{ℕ, zero, suc, ◌+◌, ◌*◌, ◌<◌}
use native.Mathlib.Omega.{arith}
use lib.ListN.{length, get_or, replicate}
use Rattle.fields_rules.specs.Number.{packed, Bytes}
use Rattle.fields_rules.proofs.Laws.{bytes_number, bytes_append}
use Rattle.fields_rules.proofs.Packed.{bytes_packed}
use Rattle.sparse_rules.specs.Cells.{tab, raw_byte, zeroed}
use Rattle.sparse_rules.proofs.Cells.{zeroed_append, zeroed_some, zeroed_none}
use Rattle.sparse_write_rules.specs.Blocks.{Block, block_cells, AllFit}
use Rattle.sparse_write_rules.specs.Kinds.{BlockKind, kept, raw, fill, same_kind, block_kind}
use Rattle.sparse_write_rules.specs.Runs.{Run, runs}
use Rattle.sparse_write_rules.specs.Encode.{chunk_type, chunk_size, chunk_data, chunk_header, chunk, chunks, version, header, image, encode}

bytes_zeros : (n i : ℕ) → get_or (replicate n 0) i 0 < 256
bytes_zeros zero i = omega arith
bytes_zeros (suc n) zero = omega arith
bytes_zeros (suc n) (suc i) = bytes_zeros n i

-- what the checksum counts of blocks are bytes
pub bytes_blocks : (b : ℕ) (xs : List Block) → AllFit b xs → Bytes (zeroed (block_cells b xs))
unfolding block_cells zeroed
bytes_blocks b [] f i = omega arith
bytes_blocks b (none ∷ xs) f i =
    rw (zeroed_append, zeroed_none) (bytes_append (replicate b 0) (zeroed (block_cells b xs)) (bytes_zeros b) (bytes_blocks b xs f.1) i)
bytes_blocks b (some ys ∷ xs) f i =
    rw (zeroed_append, zeroed_some) (bytes_append ys (zeroed (block_cells b xs)) f.0.1 (bytes_blocks b xs f.1) i)

-- and so is a table of bytes
pub bytes_tab : (f : ℕ → ℕ) → ((i : ℕ) → f i < 256) → (i n : ℕ) → Bytes (tab f i n)
bytes_tab f small i zero j = omega arith
bytes_tab f small i (suc n) zero = small i
bytes_tab f small i (suc n) (suc j) = bytes_tab f small (suc i) n j

bytes_data : (kind : BlockKind) (xs : List ℕ) → Bytes xs → Bytes (chunk_data kind xs)
bytes_data kept xs small i = omega arith
bytes_data raw xs small i = small i
bytes_data (fill w) xs small i = bytes_number 4 w i

bytes_chunks : (b : ℕ) (d : List ℕ) → Bytes d → (at : ℕ) (rs : List (Run BlockKind)) → Bytes (chunks b d at rs)
unfolding chunks chunk chunk_header
bytes_chunks b d small at [] i = omega arith
bytes_chunks b d small at (r ∷ rs) i =
    let xs : List ℕ = tab (raw_byte d at) 0 (r.many * b) in
    bytes_append (chunk r.kind r.many xs) (chunks b d (at + r.many * b) rs)
    (bytes_append (chunk_header (chunk_type r.kind) r.many (chunk_size r.kind (length xs))) (chunk_data r.kind xs)
    (bytes_packed ((2, chunk_type r.kind) ∷ (2, 0) ∷ (4, r.many) ∷ (4, chunk_size r.kind (length xs)) ∷ []))
    (bytes_data r.kind xs (bytes_tab (raw_byte d at) (λ i. small (at + i)) 0 (r.many * b))))
    (bytes_chunks b d small (at + r.many * b) rs) i

bytes_header : (b n k c : ℕ) → Bytes (header b n k c)
unfolding header version
bytes_header b n k c =
    bytes_append version (packed ((4, b) ∷ (4, n) ∷ (4, k) ∷ (4, c) ∷ [])) (bytes_packed _) (bytes_packed ((4, b) ∷ (4, n) ∷ (4, k) ∷ (4, c) ∷ []))

-- the image of blocks is bytes
pub encode_bytes : (b : ℕ) (xs : List Block) → AllFit b xs → Bytes (encode b xs)
unfolding encode image
encode_bytes b xs f =
    bytes_append (header b _ _ _) (chunks b _ 0 _) (bytes_header b _ _ _)
    (bytes_chunks b (zeroed (block_cells b xs)) (bytes_blocks b xs f) 0 (runs same_kind (map (block_kind b) xs)))
