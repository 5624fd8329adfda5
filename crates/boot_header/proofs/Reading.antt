-- Laws of the fields that the table places, read as numbers: what stands for one that the version lacks.
-- Assumes nothing.
use mathlib.Core.Path.{◌≡◌, sym, ap, ◌∙◌}
use mathlib.Core.Bool.{Bool, true, false, ◌&&◌, not, cond}
use mathlib.Core.List.{List}
use Prim.Native.Nat.{ℕ}
use lib.Dec.{eqb}
use Rattle.std.specs.Prelude.{Option, Some, None, MatchOption, unwrap_or}
use Rattle.boot_rules.specs.declared.Row.{Row}
use Rattle.boot_rules.specs.Sections.{row_in, page_by, page_in, os_in, offset_in}
use Rattle.boot_rules.specs.Table.{has, number, read_at, header_size, page_size, os_version, recovery_offset}
use Rattle.boot_rules.specs.Tests.{missized}
use Rattle.boot_rules.proofs.Reading.{number_read, stated_or, stated_or_0}
use Rattle.boot_rules.proofs.Widths.{numbers}

-- a test of a number that may be stated, and false where it is not
tested : (b : Bool) (x h : ℕ) (n : Option ℕ) (t : Bool) → n ≡ cond b (Some x) None → MatchOption n (t ≡ false) (λ k. not (eqb k h) ≡ t) → t ≡ (b && not (eqb x h))
tested true x h (Some k) t e m = let q : k ≡ x = cc in sym m ∙ ap (λ (y : ℕ). not (eqb y h)) q
tested true x h None t e m = cc
tested false x h (Some k) t e m = cc
tested false x h None t e m = m

module _ (s : List ℕ) (r : Row) (e : r ≡ row_in s) (n : Option ℕ) where
  -- the page size, stated or not
  pub page_read : n ≡ read_at 4 s r.page → unwrap_or n 4096 ≡ page_in s
  page_read q =
      ap (λ (x : Option ℕ). unwrap_or x 4096) (q ∙ number_read s (page_size r) 4 (numbers r _ e).page)
      ∙ stated_or s (page_size r) 4096 ∙ ap (page_by s) e

  -- the os version
  pub os_read : n ≡ read_at 4 s r.os → unwrap_or n 0 ≡ os_in s
  os_read q =
      ap (λ (x : Option ℕ). unwrap_or x 0) (q ∙ number_read s (os_version r) 4 (numbers r _ e).os)
      ∙ stated_or_0 s (os_version r) ∙ ap (λ (x : Row). number s (os_version x)) e

  -- the recovery offset, stated or not
  pub offset_read : n ≡ read_at 8 s r.offset → unwrap_or n 0 ≡ offset_in s
  offset_read q =
      ap (λ (x : Option ℕ). unwrap_or x 0) (q ∙ number_read s (recovery_offset r) 8 (numbers r _ e).offset)
      ∙ stated_or_0 s (recovery_offset r) ∙ ap (λ (x : Row). number s (recovery_offset x)) e

  -- whether the header size, where it is stated, is not the header length
  pub size_tested : n ≡ read_at 4 s r.headersize → (t : Bool) → MatchOption n (t ≡ false) (λ k. not (eqb k r.header) ≡ t) → t ≡ missized s (row_in s)
  size_tested q t m =
      tested (has (header_size r)) (number s (header_size r)) r.header n t (q ∙ number_read s (header_size r) 4 (numbers r _ e).headersize) m
      ∙ ap (missized s) e
