-- A header of an image, as numbers.
-- Assumes nothing.
use mathlib.Core.Path.{◌≡◌, refl, ap, ◌∙◌}
use mathlib.Core.List.{List}
use Prim.Native.Nat.{ℕ, zero, suc}
use native.Mathlib.Omega.{arith}
use lib.ListN.{replicate}
use borrow.Author.Tests.{ne_eqb}
use Rattle.rules.specs.Answer.{refused, accepted, unless}
use Rattle.sparse_rules.specs.declared.Header.{Header}
use Rattle.sparse_rules.specs.Header.{header_of}
use Rattle.tarpaulark_numbers.specs.Numbers.{header_numbers, header_numbers_by}

-- a header that is refused gives zeros
pub header_refused : (s : List ℕ) (m n place : ℕ) → refused n place ≡ unless m 0 (accepted (header_of s))
    → (n ≡ m) × (replicate 6 0 ≡ header_numbers_by n (header_of s))
header_refused s zero n place e = cc
header_refused s (suc m) n place e = let q : n ≡ suc m = cc in (q, rw (ne_eqb n 0 (λ z. omega arith)))

-- one that passes gives its fields
pub header_passed : (s : List ℕ) (m : ℕ) (h : Header) (a : List ℕ) → accepted h ≡ unless m 0 (accepted (header_of s)) → a ≡ header_numbers h
    → (0 ≡ m) × (a ≡ header_numbers_by 0 (header_of s))
header_passed s zero h a e q = let i : h ≡ header_of s = cc in (refl, q ∙ ap header_numbers i)
header_passed s (suc m) h a e q = cc
