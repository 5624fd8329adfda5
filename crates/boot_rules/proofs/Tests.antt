-- Laws of the tests of a boot image, one for each way out of them. Assumes nothing.
use mathlib.Core.Path.{◌≡◌}
use mathlib.Core.Bool.{true, false, not}
use mathlib.Core.List.{List}
use Prim.Native.Nat.{ℕ}
use lib.Dec.{ltb, eqb}
use lib.ListN.{length, get_or}
use borrow.Author.Tests.{not-false}
use Rattle.boot_rules.specs.Pages.{is_page}
use Rattle.boot_rules.specs.Sections.{version_in, row_in, page_in, offset_in, no_section, sections_of, any_of}
use Rattle.boot_rules.specs.Tests.{magic, misplaced, overruns, missized, head_tests, section_tests}
use Rattle.fields_rules.specs.Number.{number_at}
use Rattle.rules.specs.First.{first}
use Rattle.rules.proofs.Tests.{all_fail}

module _ (s : List ℕ) where
  -- the tests of the header
  pub head_21 : ltb (length s) 44 ≡ true → 21 ≡ first (head_tests s)
  unfolding head_tests
  head_21 h = rw h

  module _ (a : ltb (length s) 44 ≡ false) where
    pub head_22 : not (eqb (number_at s 0 8) (number_at magic 0 8)) ≡ true → 22 ≡ first (head_tests s)
    unfolding head_tests
    head_22 h = rw (a, h)

    module _ (b : not (eqb (number_at s 0 8) (number_at magic 0 8)) ≡ false) where
      pub head_23 : ltb 4 (version_in s) ≡ true → 23 ≡ first (head_tests s)
      unfolding head_tests
      head_23 h = rw (a, b, h)

      module _ (c : ltb 4 (version_in s) ≡ false) where
        pub head_21_header : ltb (length s) (row_in s).header ≡ true → 21 ≡ first (head_tests s)
        unfolding head_tests
        head_21_header h = rw (a, b, c, h)

        module _ (d : ltb (length s) (row_in s).header ≡ false) where
          pub head_24 : missized s (row_in s) ≡ true → 24 ≡ first (head_tests s)
          unfolding head_tests
          head_24 h = rw (a, b, c, d, h)

          module _ (e : missized s (row_in s) ≡ false) where
            pub head_25 : is_page (page_in s) ≡ false → 25 ≡ first (head_tests s)
            unfolding head_tests
            head_25 h = rw (a, b, c, d, e, h)

            pub head_none : is_page (page_in s) ≡ true → 0 ≡ first (head_tests s)
            unfolding head_tests
            head_none h = rw (a, b, c, d, e, h)

  -- the tests of the sections
  pub sections_27 : misplaced (offset_in s) (get_or (sections_of s) 3 no_section) ≡ true → 27 ≡ first (section_tests s)
  unfolding section_tests
  sections_27 h = rw h

  module _ (a : misplaced (offset_in s) (get_or (sections_of s) 3 no_section) ≡ false) where
    pub sections_26 : any_of (overruns (length s)) (sections_of s) ≡ true → 26 ≡ first (section_tests s)
    unfolding section_tests
    sections_26 h = rw (a, h)

    pub sections_none : any_of (overruns (length s)) (sections_of s) ≡ false → 0 ≡ first (section_tests s)
    unfolding section_tests
    sections_none h = rw (a, h)

  -- what a header and sections that no test refuses say
  pub head_page : first (head_tests s) ≡ 0 → is_page (page_in s) ≡ true
  unfolding head_tests
  head_page e =
      let t = all_fail (head_tests s) (tt, (tt, (tt, (tt, (tt, (tt, tt)))))) e in
      not-false _ t.1.1.1.1.1.0

  pub sections_end : first (section_tests s) ≡ 0 → any_of (overruns (length s)) (sections_of s) ≡ false
  unfolding section_tests
  sections_end e = (all_fail (section_tests s) (tt, (tt, tt)) e).1.0
