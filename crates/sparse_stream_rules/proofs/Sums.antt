-- The checksum's state as bytes come, where one is stated and where none is.
-- Assumes nothing.
use mathlib.Core.Path.{◌≡◌, refl, sym}
use mathlib.Core.Bool.{Bool, true, false, cond, ◌&&◌, not}
use mathlib.Core.List.{List, [], ◌++◌}
use Prim.Native.Nat.{ℕ}
use lib.Bits.{bit_xor}
use lib.Dec.{eqb}
use borrow.Author.Tests.{eq-eqb}
use Rattle.crc32_rules.specs.Crc.{crc_from, all_ones}
use Rattle.crc32_rules.proofs.Laws.{crc_nil, crc-append}
use Rattle.sparse_rules.specs.declared.Header.{Header}
use Rattle.sparse_rules.specs.Judge.{sum_stated, sum_differs}
use Rattle.sparse_stream_rules.specs.Steps.{sum_on}

module _ (h : Header) (sum : ℕ) where
  -- where one is stated, bytes are summed
  pub sum_on_stated : (t : Bool) → t ≡ sum_stated h.checksum → t ≡ true → (xs : List ℕ) → sum_on h sum xs ≡ crc_from sum xs
  unfolding sum_on
  sum_on_stated t e f xs = rw (← e, f)

  -- and where none is, they are not
  pub sum_on_none : (t : Bool) → t ≡ sum_stated h.checksum → t ≡ false → (xs : List ℕ) → sum_on h sum xs ≡ sum
  unfolding sum_on
  sum_on_none t e f xs = rw (← e, f)

  -- which is where 0 stands
  pub sum_on-zero : h.checksum ≡ 0 → (xs : List ℕ) → sum_on h sum xs ≡ sum
  sum_on-zero e = sum_on_none false (sym (rw (eq-eqb h.checksum 0 e))) refl

  -- no bytes leave it
  pub sum_on_nil : sum_on h sum [] ≡ sum
  unfolding sum_on
  sum_on_nil = go (sum_stated h.checksum)
    where
      go : (t : Bool) → cond t (crc_from sum []) sum ≡ sum
      go true = crc_nil sum
      go false = refl

  -- bytes in two parts
  pub sum_on-append : (xs ys : List ℕ) → sum_on h sum (xs ++ ys) ≡ sum_on h (sum_on h sum xs) ys
  unfolding sum_on
  sum_on-append xs ys = go (sum_stated h.checksum)
    where
      go : (t : Bool) → cond t (crc_from sum (xs ++ ys)) sum ≡ cond t (crc_from (cond t (crc_from sum xs) sum) ys) (cond t (crc_from sum xs) sum)
      go true = crc-append sum xs ys
      go false = refl

  -- the checksum differs or not as if it were worked out everywhere
  pub sum_on_differs : (xs : List ℕ) → sum_differs (bit_xor (sum_on h sum xs) all_ones) h.checksum ≡ sum_differs (bit_xor (crc_from sum xs) all_ones) h.checksum
  unfolding sum_on
  sum_on_differs xs = go (sum_stated h.checksum)
    where
      go : (t : Bool) → (t && not (eqb (bit_xor (cond t (crc_from sum xs) sum) all_ones) h.checksum)) ≡ (t && not (eqb (bit_xor (crc_from sum xs) all_ones) h.checksum))
      go true = refl
      go false = refl
