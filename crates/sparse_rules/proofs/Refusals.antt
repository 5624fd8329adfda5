-- The exits of the header's tests, and the tests of a header and of a chunk by what was read in their place.
-- Assumes nothing.
use mathlib.Core.Path.{◌≡◌, refl, sym, ◌∙◌}
use mathlib.Core.Bool.{Bool, true, false, ◌&&◌}
use mathlib.Core.List.{List}
use Prim.Native.Nat.{ℕ, zero, suc, ◌+◌, ◌*◌, ◌≤◌, ◌<◌}
use native.Mathlib.Nat.{le_trans, mul-le-mul_left, mul-le-mul_right}
use native.Mathlib.Omega.{arith}
use lib.Dec.{leb}
use lib.ListN.{length, get_or-eq_default}
use borrow.Author.Tests.{lt-ltb, le-ltb, eq-eqb, ne_eqb}
use Rattle.rules.specs.First.{first}
use Rattle.fields_rules.specs.Number.{number_at}
use Rattle.sparse_rules.specs.declared.Header.{Header}
use Rattle.sparse_rules.specs.declared.Cursor.{Cursor}
use Rattle.sparse_rules.specs.declared.Kind.{Kind}
use Rattle.sparse_rules.specs.Header.{header_of, magic, major, file_header_size, chunk_header_size, block_size, total_blocks, total_chunks, stated_checksum, header_size_right, block_size_right, header_tests}
use Rattle.sparse_rules.specs.Chunks.{type_at, blocks_at, size_at, kind_of, size_right, chunk, chunk_at, next_cursor}

-- the product of two numbers of 32 bits, so that a third may be added in 64 bits
pub wide_product : (a b : ℕ) → a < 4294967296 → b < 4294967296 → a * b ≤ 4294967295 * 4294967295
wide_product a b h g = le_trans (mul-le-mul_right {n = 4294967295} b (omega arith)) (mul-le-mul_left {n = 4294967295} 4294967295 (omega arith))

-- a field past the end is 0
pub number_outside : (s : List ℕ) (at w : ℕ) → length s ≤ at → number_at s at w ≡ 0
unfolding number_at
number_outside s at zero h = refl
number_outside s at (suc w) h = rw (get_or-eq_default s 0 h, number_outside s (suc at) w (omega arith))

-- refusals 1 to 6
module _ (s : List ℕ) (len room : ℕ) where
  pub header_short : len < 28 → 1 ≡ first (header_tests s len room)
  unfolding header_tests
  header_short h = rw (lt-ltb _ _ h)

  module _ (long : 28 ≤ len) where
    pub header_magic : (magic s ≡ 0xED26FF3A → ⊥) → 2 ≡ first (header_tests s len room)
    unfolding header_tests
    header_magic h = rw (le-ltb _ _ long, ne_eqb _ _ h)

    module _ (m : magic s ≡ 0xED26FF3A) where
      pub header_major : (major s ≡ 1 → ⊥) → 3 ≡ first (header_tests s len room)
      unfolding header_tests
      header_major h = rw (le-ltb _ _ long, eq-eqb _ _ m, ne_eqb _ _ h)

      module _ (v : major s ≡ 1) where
        pub header_sizes : (header_size_right 28 (file_header_size s) && header_size_right 12 (chunk_header_size s) && leb (file_header_size s) len) ≡ false
            → 4 ≡ first (header_tests s len room)
        unfolding header_tests
        header_sizes h = rw (le-ltb _ _ long, eq-eqb _ _ m, eq-eqb _ _ v, h)

        module _ (z : (header_size_right 28 (file_header_size s) && header_size_right 12 (chunk_header_size s) && leb (file_header_size s) len) ≡ true) where
          pub header_block : block_size_right (block_size s) ≡ false → 5 ≡ first (header_tests s len room)
          unfolding header_tests
          header_block h = rw (le-ltb _ _ long, eq-eqb _ _ m, eq-eqb _ _ v, z, h)

          module _ (b : block_size_right (block_size s) ≡ true) where
            pub header_room : room < total_blocks s * block_size s → 6 ≡ first (header_tests s len room)
            unfolding header_tests
            header_room h = rw (le-ltb _ _ long, eq-eqb _ _ m, eq-eqb _ _ v, z, b, lt-ltb _ _ h)

            pub header_passes : total_blocks s * block_size s ≤ room → 0 ≡ first (header_tests s len room)
            unfolding header_tests
            header_passes h = rw (le-ltb _ _ long, eq-eqb _ _ m, eq-eqb _ _ v, z, b, le-ltb _ _ h)

-- the chunk of what was read in its place
pub chunk_is : (s : List ℕ) (h : Header) (c : Cursor) {k : Kind} {t n z : ℕ} → k ≡ kind_of t → t ≡ type_at s c.at → n ≡ blocks_at s c.at → z ≡ size_at s c.at
    → chunk (record { kind = k; blocks = n; body = c.at + h.head }) (record { at = c.at + z; first = c.first + n }) ≡ chunk (chunk_at s h c) (next_cursor s c)
unfolding chunk_at
chunk_is s h c e p q u = rw (e, p, q, u)

-- a total size that is tested by what was read in its place
pub size_is : (h : Header) {k k' : Kind} {n z n' z' : ℕ} {r x : Bool} → r ≡ size_right h k n z → k ≡ k' → n ≡ n' → z ≡ z' → r ≡ x → size_right h k' n' z' ≡ x
size_is h e p q u f = cc

-- the header's sizes and its block size, tested by what was read of it
pub sizes_is : (s : List ℕ) (len : ℕ) (h : Header) {r x : Bool} → h ≡ header_of s
    → r ≡ (header_size_right 28 h.start && header_size_right 12 h.head && leb h.start len) → r ≡ x
    → (header_size_right 28 (file_header_size s) && header_size_right 12 (chunk_header_size s) && leb (file_header_size s) len) ≡ x
sizes_is s len h e q f = sym (rw e at q) ∙ f

pub block_is : (s : List ℕ) (h : Header) {r x : Bool} → h ≡ header_of s → r ≡ block_size_right h.block → r ≡ x → block_size_right (block_size s) ≡ x
block_is s h e q f = sym (rw e at q) ∙ f

-- and the bytes of all blocks, by what was read of it
pub bytes_are : (s : List ℕ) (h : Header) {n : ℕ} → h ≡ header_of s → n ≡ h.total * h.block → n ≡ total_blocks s * block_size s
bytes_are s h e q = rw e at q

-- the header, field by field
pub six : (s : List ℕ) (b t n k a h : ℕ) → b ≡ block_size s → t ≡ total_blocks s → n ≡ total_chunks s → k ≡ stated_checksum s → a ≡ file_header_size s → h ≡ chunk_header_size s → ◌≡◌ {A = Header} (record { block = b; total = t; chunks = n; checksum = k; start = a; head = h }) (header_of s)
six s b t n k a h eb et en ek ea eh = rw (eb, et, en, ek, ea, eh)
