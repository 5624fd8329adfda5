-- No section of any input begins at the bound or after: the widths of a row's size and page fields say how far the
-- sections of its version can reach, and that is computed over the table. Assumes nothing.
use mathlib.Core.Path.{◌≡◌, refl}
use mathlib.Core.Bool.{Bool, true, false}
use mathlib.Core.List.{List, [], ◌∷◌}
use Prim.Native.Nat.{ℕ, zero, suc, ◌+◌, ◌^◌, ◌≤◌, ◌<◌}
use native.Mathlib.Nat.{le_refl, le_trans}
use native.Mathlib.Omega.{arith}
use lib.Dec.{ltb}
use lib.ListN.{get_or}
use borrow.Author.Tests.{ltb-true, ltb-false}
use Rattle.boot_rules.specs.declared.Field.{Field}
use Rattle.boot_rules.specs.declared.Row.{Row}
use Rattle.boot_rules.specs.Pages.{round_up}
use Rattle.boot_rules.specs.Positions.{position_bound, Near}
use Rattle.boot_rules.specs.Sections.{version_in, row_in, page_by, page_in, position_of, no_section, section_at, starts, starts_of, place, sections_of}
use Rattle.boot_rules.specs.Table.{has, number, row_of, size_fields}
use Rattle.boot_rules.proofs.Reading.{page_stated, page_fixed}
use Rattle.boot_rules.proofs.Rounding.{round_most}
use Rattle.boot_rules.proofs.Rule.{everywhere}
use Rattle.fields_rules.specs.Number.{Bytes}
use Rattle.fields_rules.proofs.Laws.{number_bound}

-- how far the sections of these size fields can reach, the first of them at p at most, with a page of x at most
far : ℕ → ℕ → List Field → ℕ
far p x [] = p
far p x (f ∷ fs) = far (p + 256 ^ f.width + x) x fs

far_least : (fs : List Field) (p x : ℕ) → p ≤ far p x fs
unfolding far
far_least [] p x = le_refl p
far_least (f ∷ fs) p x = le_trans (let t : p ≤ p + 256 ^ f.width + x = omega arith in t) (far_least fs (p + 256 ^ f.width + x) x)

-- more than the page of a row can be, stated or not
most_page : Row → ℕ
most_page r = 256 ^ r.page.width + 4096

-- and how far its sections can reach
reach : Row → ℕ
reach r = far (most_page r) (most_page r) (size_fields r)

-- no row reaches the bound
reached : (v : ℕ) → ltb (reach (row_of v)) position_bound ≡ true
unfolding far most_page reach
reached v = everywhere (λ r. ltb (reach r) position_bound) tt tt v

module _ (s : List ℕ) (b : Bytes s) where
  starts_far : (fs : List Field) (page p x q i : ℕ) → page ≤ x → p ≤ q → get_or (starts s page p fs) i 0 ≤ far q x fs
  unfolding far
  starts_far [] page p x q i hx hq = omega arith
  starts_far (f ∷ fs) page p x q zero hx hq = le_trans hq (far_least (f ∷ fs) q x)
  starts_far (f ∷ fs) page p x q (suc i) hx hq =
      let n = number_bound s b f.at f.width in
      let u = round_most (p + number s f) page in
      starts_far fs page (round_up (p + number s f) page) x (q + 256 ^ f.width + x) i hx (omega (arith, n, u))

  page_most : (r : Row) → page_by s r ≤ most_page r
  unfolding most_page
  page_most r = go (ltb 0 r.page.width) refl
    where
      go : (h : Bool) → ltb 0 r.page.width ≡ h → page_by s r ≤ most_page r
      go true e =
          let p = page_stated s r (ltb-true 0 r.page.width e) in
          let n = number_bound s b r.page.at r.page.width in
          omega (arith, p, n)
      go false e = let p = page_fixed s r (ltb-false 0 r.page.width e) in omega (arith, p)

  starts_near : (i : ℕ) → get_or (starts_of s) i 0 < position_bound
  unfolding starts_of reach
  starts_near i =
      let l = ltb-true (reach (row_in s)) position_bound (reached (version_in s)) in
      let m = page_most (row_in s) in
      let f = starts_far (size_fields (row_in s)) (page_in s) (page_in s) (most_page (row_in s)) (most_page (row_in s)) i m m in
      omega (arith, l, f)

-- a section begins where it is placed, and one that the version lacks at 0
there : (here : Bool) (p n : ℕ) → position_of (section_at here p n) ≤ p
there true p n = le_refl p
there false p n = omega arith

place_starts : (s ps : List ℕ) (fs : List Field) (i : ℕ) → position_of (get_or (place s ps fs) i no_section) ≤ get_or ps i 0
place_starts s [] fs i = omega arith
place_starts s (p ∷ ps) [] i = omega arith
place_starts s (p ∷ ps) (f ∷ fs) zero = there (has f) p (number s f)
place_starts s (p ∷ ps) (f ∷ fs) (suc i) = place_starts s ps fs i

-- so every position is near
pub near : Near
unfolding sections_of
near s b =
    record {
      starts = starts_near s b;
      positions = below;
      fits = λ i. let l = below i in omega (arith, l);
    }
  where
    below : (i : ℕ) → position_of (get_or (place s (starts_of s) (size_fields (row_in s))) i no_section) < position_bound
    below i = let l = place_starts s (starts_of s) (size_fields (row_in s)) i in let n = starts_near s b i in omega (arith, l, n)
