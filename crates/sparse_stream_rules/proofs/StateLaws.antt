-- The exits of the inner functions: what each returns, from what the tests before it left.
-- Assumes nothing.
use mathlib.Core.Path.{◌≡◌, refl, sym, ◌∙◌}
use mathlib.Core.Bool.{Bool, true, false, not, cond, ◌&&◌}
use mathlib.Core.List.{List, [], ◌∷◌}
use Prim.Native.Nat.{ℕ, zero, suc, ◌+◌, ◌-◌, ◌*◌, ◌≤◌, ◌<◌, zero-le}
use native.Mathlib.Omega.{arith}
use lib.Bits.{bit_xor}
use lib.Dec.{leb, ltb}
use borrow.Author.Tests.{ltb-false, lt-ltb, le-ltb, eq-eqb, ne_eqb}
use Rattle.rules.specs.First.{first}
use Rattle.rules.proofs.Tests.{all_fail}
use Rattle.crc32_rules.specs.Crc.{all_ones}
use Rattle.sparse_rules.specs.declared.Header.{Header}
use Rattle.sparse_rules.specs.declared.Kind.{Kind}
use Rattle.sparse_rules.specs.Header.{magic, major, file_header_size, chunk_header_size, block_size, total_blocks, header_size_right, block_size_right, header_tests}
use Rattle.sparse_rules.specs.Chunks.{size_right}
use Rattle.sparse_rules.specs.Judge.{sum_differs}
use Rattle.sparse_stream_rules.specs.declared.Pass.{Pass}
use Rattle.sparse_stream_rules.specs.Known.{passes, refuses, tested_number}
use Rattle.sparse_stream_rules.specs.State.{head_of, kind_now, blocks_now, size_now, stop_or}
use Rattle.sparse_stream_rules.specs.Steps.{arrival, arrived, arrive_if, settled, header_number, chunk_number}

-- refusals 1 to 6, as far as their bytes have come
module _ (s : List ℕ) (came len room : ℕ) where
  pub number_short : len < 28 → 1 ≡ header_number s came len room
  unfolding header_number header_tests
  number_short h = rw (le-ltb came 0 zero-le, lt-ltb _ _ h)

  module _ (long : 28 ≤ len) where
    pub number_none : came < 4 → 0 ≡ header_number s came len room
    unfolding header_number header_tests
    number_none h = rw (le-ltb came 0 zero-le, le-ltb _ _ long, lt-ltb _ _ h)

    module _ (four : 4 ≤ came) where
      pub number_magic : (magic s ≡ 0xED26FF3A → ⊥) → 2 ≡ header_number s came len room
      unfolding header_number header_tests
      number_magic h = rw (le-ltb came 0 zero-le, le-ltb _ _ long, le-ltb _ _ four, ne_eqb _ _ h)

      module _ (m : magic s ≡ 0xED26FF3A) where
        pub number_six : came < 6 → 0 ≡ header_number s came len room
        unfolding header_number header_tests
        number_six h = rw (le-ltb came 0 zero-le, le-ltb _ _ long, le-ltb _ _ four, eq-eqb _ _ m, lt-ltb _ _ h)

        module _ (six : 6 ≤ came) where
          pub number_major : (major s ≡ 1 → ⊥) → 3 ≡ header_number s came len room
          unfolding header_number header_tests
          number_major h = rw (le-ltb came 0 zero-le, le-ltb _ _ long, le-ltb _ _ four, eq-eqb _ _ m, le-ltb _ _ six, ne_eqb _ _ h)

          module _ (v : major s ≡ 1) where
            pub number_twelve : came < 12 → 0 ≡ header_number s came len room
            unfolding header_number header_tests
            number_twelve h =
                rw (le-ltb came 0 zero-le, le-ltb _ _ long, le-ltb _ _ four, eq-eqb _ _ m, le-ltb _ _ six, eq-eqb _ _ v, lt-ltb _ _ h)

            module _ (twelve : 12 ≤ came) where
              pub number_sizes : (header_size_right 28 (file_header_size s) && header_size_right 12 (chunk_header_size s) && leb (file_header_size s) len) ≡ false
                  → 4 ≡ header_number s came len room
              unfolding header_number header_tests
              number_sizes h =
                  rw
                  (le-ltb came 0 zero-le, le-ltb _ _ long, le-ltb _ _ four, eq-eqb _ _ m, le-ltb _ _ six, eq-eqb _ _ v, le-ltb _ _ twelve, h)

              module _ (z : (header_size_right 28 (file_header_size s) && header_size_right 12 (chunk_header_size s) && leb (file_header_size s) len) ≡ true) where
                pub number_sixteen : came < 16 → 0 ≡ header_number s came len room
                unfolding header_number header_tests
                number_sixteen h =
                    rw
                    (le-ltb came 0 zero-le, le-ltb _ _ long, le-ltb _ _ four, eq-eqb _ _ m, le-ltb _ _ six, eq-eqb _ _ v, le-ltb _ _ twelve, z, lt-ltb _ _ h)

                module _ (sixteen : 16 ≤ came) where
                  pub number_block : block_size_right (block_size s) ≡ false → 5 ≡ header_number s came len room
                  unfolding header_number header_tests
                  number_block h =
                      rw
                      (le-ltb came 0 zero-le, le-ltb _ _ long, le-ltb _ _ four, eq-eqb _ _ m, le-ltb _ _ six, eq-eqb _ _ v, le-ltb _ _ twelve, z, le-ltb _ _ sixteen, h)

                  module _ (b : block_size_right (block_size s) ≡ true) where
                    pub number_twenty : came < 20 → 0 ≡ header_number s came len room
                    unfolding header_number header_tests
                    number_twenty h =
                        rw
                        (le-ltb came 0 zero-le, le-ltb _ _ long, le-ltb _ _ four, eq-eqb _ _ m, le-ltb _ _ six, eq-eqb _ _ v, le-ltb _ _ twelve, z, le-ltb _ _ sixteen, b, lt-ltb _ _ h)

                    module _ (twenty : 20 ≤ came) where
                      pub number_last : header_number s came len room ≡ cond (ltb room (total_blocks s * block_size s)) 6 0
                      unfolding header_number header_tests
                      number_last =
                          rw
                          (le-ltb came 0 zero-le, le-ltb _ _ long, le-ltb _ _ four, eq-eqb _ _ m, le-ltb _ _ six, eq-eqb _ _ v, le-ltb _ _ twelve, z, le-ltb _ _ sixteen, b, le-ltb _ _ twenty)
                          (by (ltb room (total_blocks s * block_size s)))
                        where
                          by : (t : Bool) → tested_number (cond t (refuses 6) passes) ≡ cond t 6 0
                          by true = refl
                          by false = refl

-- a refusal by a number
pub stop_number : (n place : ℕ) (x y : Pass) → (n ≡ 0 → ⊥)
    → stop_or n place x y ≡ record { told = x.told; refusal = record { number = n; place = place }; come = x.come; walk = x.walk; kept = x.kept }
stop_number zero place x y h = absurd (h refl)
stop_number (suc n) place x y h = refl

-- a number that is not 0 refuses the state whatever else was meant
pub stop_same : (n place : ℕ) (x y z : Pass) → (n ≡ 0 → ⊥) → stop_or n place x y ≡ stop_or n place x z
stop_same zero place x y z h = absurd (h refl)
stop_same (suc n) place x y z h = refl

-- 0 refuses nothing
pub stop_none : (n place : ℕ) (x y : Pass) → n ≡ 0 → stop_or n place x y ≡ y
stop_none n place x y e = rw e

-- ---- where a chunk begins

module _ (x : Pass) where
  pub arrival_past : (h : Header) → h ≡ head_of x → 0 < x.walk.left → x.told.length < x.walk.next.at → 7 ≡ arrival x
  unfolding arrival
  arrival_past h e l p = let q : x.told.length < x.walk.next.at + (head_of x).head = omega arith in rw (lt-ltb _ _ l, lt-ltb _ _ q)

  -- the header does not fit
  pub arrival_short : (h : Header) → h ≡ head_of x → 0 < x.walk.left → x.walk.next.at ≤ x.told.length
      → x.told.length - x.walk.next.at < h.head → 7 ≡ arrival x
  unfolding arrival
  arrival_short h e l p q =
      let r : x.told.length - x.walk.next.at < (head_of x).head = rw e at q in
      let o : x.told.length < x.walk.next.at + (head_of x).head = omega arith in rw (lt-ltb _ _ l, lt-ltb _ _ o)

  -- it does
  pub arrival_chunk : (h : Header) → h ≡ head_of x → 0 < x.walk.left → x.walk.next.at ≤ x.told.length
      → h.head ≤ x.told.length - x.walk.next.at → 0 ≡ arrival x
  unfolding arrival
  arrival_chunk h e l p q =
      let r : (head_of x).head ≤ x.told.length - x.walk.next.at = rw e at q in
      let o : x.walk.next.at + (head_of x).head ≤ x.told.length = omega arith in rw (lt-ltb _ _ l, le-ltb _ _ o)

  module _ (h : Header) (e : h ≡ head_of x) (l : x.walk.left ≤ 0) where
    pub arrival_fell : x.walk.next.first < h.total → 9 ≡ arrival x
    unfolding arrival
    arrival_fell p = let q : x.walk.next.first < (head_of x).total = rw e at p in rw (le-ltb _ _ l, lt-ltb _ _ q)

    module _ (t : h.total ≤ x.walk.next.first) where
      pub arrival_more : x.walk.next.at < x.told.length → 10 ≡ arrival x
      unfolding arrival
      arrival_more p = let q : (head_of x).total ≤ x.walk.next.first = rw e at t in rw (le-ltb _ _ l, le-ltb _ _ q, lt-ltb _ _ p)

      -- all has come: the checksum decides
      pub arrival_last : x.told.length ≤ x.walk.next.at → (f : ℕ) → f ≡ bit_xor x.come.sum all_ones
          → arrival x ≡ cond (sum_differs f h.checksum) 11 0
      unfolding arrival
      arrival_last p f g =
          let q : (head_of x).total ≤ x.walk.next.first = rw e at t in
          rw (le-ltb _ _ l, le-ltb _ _ q, le-ltb _ _ p, g, e)

-- ---- a chunk's header

module _ (x : Pass) (h : Header) (k : Kind) (n z : ℕ) (eh : h ≡ head_of x) (ek : k ≡ kind_now x) (en : n ≡ blocks_now x) (ez : z ≡ size_now x) where
  pub chunk_wrong : (r : Bool) → r ≡ size_right h k n z → r ≡ false → 8 ≡ chunk_number x
  unfolding chunk_number
  chunk_wrong r e f =
      let q : size_right (head_of x) (kind_now x) (blocks_now x) (size_now x) ≡ false = rw (← eh, ← ek, ← en, ← ez) (sym e ∙ f) in
      rw q

  module _ (r : Bool) (e : r ≡ size_right h k n z) (f : r ≡ true) where
    right : size_right (head_of x) (kind_now x) (blocks_now x) (size_now x) ≡ true
    right = rw (← eh, ← ek, ← en, ← ez) (sym e ∙ f)

    pub chunk_past : x.told.length < x.walk.next.at → 7 ≡ chunk_number x
    unfolding chunk_number
    chunk_past p = let q : x.told.length < x.walk.next.at + size_now x = omega arith in rw (right, lt-ltb _ _ q)

    pub chunk_short : x.walk.next.at ≤ x.told.length → x.told.length - x.walk.next.at < z → 7 ≡ chunk_number x
    unfolding chunk_number
    chunk_short p o =
        let w : x.told.length - x.walk.next.at < size_now x = rw ez at o in
        let q : x.told.length < x.walk.next.at + size_now x = omega arith in rw (right, lt-ltb _ _ q)

    module _ (p : x.walk.next.at ≤ x.told.length) (o : z ≤ x.told.length - x.walk.next.at) where
      inside : x.walk.next.at + size_now x ≤ x.told.length
      inside = let w : size_now x ≤ x.told.length - x.walk.next.at = rw ez at o in omega arith

      pub chunk_last : chunk_number x ≡ cond (ltb h.total (x.walk.next.first + n)) 9 0
      unfolding chunk_number
      chunk_last = rw (right, le-ltb _ _ inside, eh, en)

-- what a chunk that is not refused is known by
pub chunk_fits : (x : Pass) → chunk_number x ≡ 0
    → (x.walk.next.at + size_now x ≤ x.told.length) × (x.walk.next.first + blocks_now x ≤ (head_of x).total)
unfolding chunk_number
chunk_fits x e =
    let t =
    all_fail
    ((not (size_right (head_of x) (kind_now x) (blocks_now x) (size_now x)), 8)
    ∷ (ltb x.told.length (x.walk.next.at + size_now x), 7)
    ∷ (ltb (head_of x).total (x.walk.next.first + blocks_now x), 9)
    ∷ []) (tt, (tt, (tt, tt))) e in
    (ltb-false _ _ t.1.0, ltb-false _ _ t.1.1.0)

-- ---- a state that has come up to the next chunk

-- the bytes have come up to there
pub settled_there : (x : Pass) → x.come.bytes ≡ x.walk.next.at → settled x ≡ arrived x
unfolding settled
settled_there x e = so _ (eq-eqb _ _ e)
  where
    so : (t : Bool) → t ≡ true → arrive_if t x ≡ arrived x
    so t q = rw q

-- they have not
pub settled_before : (x : Pass) → (x.come.bytes ≡ x.walk.next.at → ⊥) → settled x ≡ x
unfolding settled
settled_before x h = rw (ne_eqb _ _ h)
