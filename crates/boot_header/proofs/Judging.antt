-- What the code finds of the tests of the header. Assumes nothing.
use mathlib.Core.Path.{◌≡◌, refl, sym, ◌∙◌}
use mathlib.Core.Bool.{Bool, true, false, not}
use mathlib.Core.List.{List}
use Prim.Native.Nat.{ℕ, ◌≤◌}
use native.Mathlib.Omega.{arith}
use lib.ListN.{length}
use borrow.Author.Tests.{le-ltb, eq-eqb, not-true, not-false}
use Rattle.boot_rules.specs.declared.Row.{Row}
use Rattle.boot_rules.specs.Pages.{is_page}
use Rattle.boot_rules.specs.Sections.{row_in, page_in}
use Rattle.boot_rules.specs.Tests.{magic, missized, head_tests}
use Rattle.boot_rules.proofs.Tests.{head_25, head_none}
use Rattle.fields_rules.specs.Number.{number_at}
use Rattle.rules.specs.First.{first}

pub magic_number : number_at magic 0 8 ≡ 0x2144494F52444E41
unfolding number_at
magic_number = refl

-- the last test, where all others pass
module _ (s : List ℕ) (m v : ℕ) (r : Row) (z w : Bool) (long : 44 ≤ length s) (me : m ≡ number_at s 0 8) (mm : m ≡ 0x2144494F52444E41) (ve : v ≡ number_at s 40 4) (known : v ≤ 4) (re : r ≡ row_in s) (fits : r.header ≤ length s) (ze : z ≡ missized s (row_in s)) (sized : z ≡ false) (we : w ≡ not (is_page (page_in s))) where
  pub page_wrong : w ≡ true → 25 ≡ first (head_tests s)
  page_wrong h =
      head_25 s (le-ltb _ _ long) (rw (eq-eqb _ _ (sym me ∙ mm ∙ sym magic_number))) (le-ltb _ _ (omega arith)) (le-ltb _ _ (rw re at fits)) (sym ze ∙ sized)
      (not-true _ (sym we ∙ h))

  pub page_right : w ≡ false → 0 ≡ first (head_tests s)
  page_right h =
      head_none s (le-ltb _ _ long) (rw (eq-eqb _ _ (sym me ∙ mm ∙ sym magic_number))) (le-ltb _ _ (omega arith)) (le-ltb _ _ (rw re at fits)) (sym ze ∙ sized)
      (not-false _ (sym we ∙ h))
