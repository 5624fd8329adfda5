-- The widths of the fields that are read as numbers, four or eight bytes: tests over the table. Assumes nothing.
use mathlib.Core.Path.{◌≡◌, refl, sym, subst}
use mathlib.Core.Bool.{true}
use mathlib.Core.List.{List, [], ◌∷◌}
use Prim.Native.Nat.{ℕ, zero, suc}
use lib.ListN.{get_or}
use Rattle.boot_rules.specs.declared.Field.{Field}
use Rattle.boot_rules.specs.declared.Row.{Row}
use Rattle.boot_rules.specs.Table.{is_word, is_double, lacking, row_of, header_size, page_size, os_version, recovery_offset, size_fields}
use Rattle.boot_rules.proofs.Rule.{everywhere}
use Rattle.rules.specs.Every.{every}
use Rattle.rules.proofs.Tests.{both}

-- where all size fields have four bytes or none, each has
words : (fs : List Field) (k : ℕ) → every (λ _ f. is_word f) k fs ≡ true → (i : ℕ) → is_word (get_or fs i lacking) ≡ true
words [] k t i = refl
words (f ∷ fs) k t zero = (both (is_word f) (every (λ _ g. is_word g) (suc k) fs) t).0
words (f ∷ fs) k t (suc i) = words fs (suc k) (both (is_word f) (every (λ _ g. is_word g) (suc k) fs) t).1 i

-- the fields of a row that are read as numbers: four or eight bytes, where the version has them
pub record Numbers (r : Row) : Type 0 where
  pub headersize : is_word (header_size r) ≡ true
  pub page : is_word (page_size r) ≡ true
  pub os : is_word (os_version r) ≡ true
  pub offset : is_double (recovery_offset r) ≡ true
  pub sizes : (i : ℕ) → is_word (get_or (size_fields r) i lacking) ≡ true

numbers_at : (v : ℕ) → Numbers (row_of v)
numbers_at v =
    record {
      headersize = everywhere (λ r. is_word (header_size r)) tt tt v;
      page = everywhere (λ r. is_word (page_size r)) tt tt v;
      os = everywhere (λ r. is_word (os_version r)) tt tt v;
      offset = everywhere (λ r. is_double (recovery_offset r)) tt tt v;
      sizes = words (size_fields (row_of v)) 0 (everywhere (λ r. every (λ _ f. is_word f) 0 (size_fields r)) tt tt v);
    }

pub numbers : (r : Row) (v : ℕ) → r ≡ row_of v → Numbers r
numbers r v e = subst Numbers (sym e) (numbers_at v)
