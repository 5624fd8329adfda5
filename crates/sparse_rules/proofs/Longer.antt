-- Images that agree on some of their bytes: an image of which more has come is read as before.
-- Assumes nothing.
use mathlib.Core.Path.{◌≡◌, refl, ap, ◌∙◌}
use mathlib.Core.List.{List, ◌++◌, map, map-append}
use mathlib.Core.Option.{some}
use Prim.Native.Nat.{ℕ, zero, suc, ◌+◌, ◌%◌, ◌≤◌, ◌<◌}
use native.Mathlib.Nat.{zero-add, zero-lt-suc}
use native.Mathlib.Numerals.{sub-one}
use native.Mathlib.Omega.{arith}
use lib.ListN.{length, get_or}
use Rattle.rules.specs.Answer.{accepted}
use Rattle.fields_rules.specs.Number.{number_at}
use Rattle.fields_rules.proofs.Laws.{number_same, number_append}
use Rattle.sparse_rules.specs.declared.Header.{Header}
use Rattle.sparse_rules.specs.declared.Cursor.{Cursor}
use Rattle.sparse_rules.specs.declared.Kind.{Kind}
use Rattle.sparse_rules.specs.declared.Kind.TheVariants.{Raw, Fill, DontCare, Unknown}
use Rattle.sparse_rules.specs.declared.Chunk.{Chunk}
use Rattle.sparse_rules.specs.Header.{header_of, header_tests}
use Rattle.sparse_rules.specs.Walk.{walk}
use Rattle.sparse_rules.specs.Cells.{tab, raw_byte, fill_byte, cells_by}
use Rattle.sparse_rules.specs.Facts.{data_bytes, Complete}
use Rattle.sparse_rules.proofs.Walk.{stepped, ended}
use Rattle.sparse_rules.proofs.Facts.{chunk_facts}
use Rattle.sparse_rules.proofs.Cells.{tab_same, tab-append}

-- ---- the header

-- images that agree on the first 28 bytes have one header
pub header_same : (s t : List ℕ) → ((i : ℕ) → i < 28 → get_or s i 0 ≡ get_or t i 0) → header_of s ≡ header_of t
header_same s t g = rw (f 8 2 (omega arith), f 10 2 (omega arith), f 12 4 (omega arith), f 16 4 (omega arith), f 20 4 (omega arith), f 24 4 (omega arith))
  where
    f : (at w : ℕ) → at + w ≤ 28 → number_at s at w ≡ number_at t at w
    f at w p = number_same s t at at w (λ i l. g (at + i) (omega arith))

-- where the known fields stand, the tests of the header do not change with what comes after
pub tests_stay : (s t : List ℕ) (len room : ℕ) → 28 ≤ length s → header_tests (s ++ t) len room ≡ header_tests s len room
unfolding header_tests
tests_stay s t len room l =
    rw (f 0 4 (omega arith), f 4 2 (omega arith), f 8 2 (omega arith), f 10 2 (omega arith), f 12 4 (omega arith), f 16 4 (omega arith))
  where
    f : (at w : ℕ) → at + w ≤ 28 → number_at (s ++ t) at w ≡ number_at s at w
    f at w p = number_append s t at w (omega arith)

-- ---- the chunks

-- the data of an accepted walk's chunks lie in the image
pub complete_walk : (s : List ℕ) (h : Header) (n : ℕ) (c : Cursor) (ks : List Chunk) → walk s (length s) h n c ≡ accepted ks → Complete s h.block ks
complete_walk s h zero c ks e = rw (ended s (length s) h zero c ks e refl).none tt
complete_walk s h (suc n) c ks e =
    let d = stepped s (length s) h (suc n) c ks e (zero-lt-suc n) in
    let f = chunk_facts s (length s) h c d.here d.next d.read in
    let r = complete_walk s h n d.next d.rest (rw sub-one at d.walked) in
    rw d.found (omega (arith, f.data_inside, f.inside), r)

-- ---- the cells

-- cells of one kind over data that agree
pub cells_same : (s t : List ℕ) (k : Kind) (at n : ℕ) → ((i : ℕ) → i < data_bytes k 1 n → get_or s (at + i) 0 ≡ get_or t (at + i) 0) → cells_by s k at n ≡ cells_by t k at n
unfolding cells_by
cells_same s t Raw at n h = ap (map some) (tab_same (raw_byte s at) (raw_byte t at) 0 0 n (λ j p. h (0 + j) (omega arith)))
cells_same s t Fill at n h = ap (map some) (tab_same (fill_byte s at) (fill_byte t at) 0 0 n (λ j p. h ((0 + j) % 4) (omega arith)))
cells_same s t DontCare at n h = refl
cells_same s t Unknown at n h = refl

-- raw cells in two parts
pub raw_append : (s : List ℕ) (at m n : ℕ) → cells_by s Raw at (m + n) ≡ cells_by s Raw at m ++ map some (tab (raw_byte s at) m n)
unfolding cells_by
raw_append s at m n = ap (map some) (tab-append (raw_byte s at) 0 m n) ∙ rw (zero-add m) (map-append some (tab (raw_byte s at) 0 m) (tab (raw_byte s at) m n))
