-- The table's rule, proved once over all rows by tests that antt computes: the fields of each version are packed without
-- gaps; and any test of a row, at every version. Assumes nothing.
use mathlib.Core.Path.{◌≡◌, refl, ap, ◌∙◌}
use mathlib.Core.Bool.{Bool, true, false, ◌&&◌, ◌||◌}
use mathlib.Core.List.{List, [], ◌∷◌}
use Prim.Native.Nat.{ℕ, zero, suc, ◌+◌, ◌<◌}
use native.Mathlib.Nat.{le_of_suc-le-suc}
use native.Mathlib.Omega.{arith}
use lib.Dec.{T, leb, ltb, eqb, leb→le, eqb→eq}
use lib.ListN.{get_or, get_or-eq_default}
use borrow.Author.Tests.{ltb-true, ltb-false}
use Rattle.boot_rules.specs.declared.Field.{Field}
use Rattle.boot_rules.specs.declared.Row.{Row}
use Rattle.boot_rules.specs.Table.{field, lacking, no_row, table, row_of, columns, last_end, widths, Within, Packed}
use Rattle.rules.specs.Every.{every}
use Rattle.rules.proofs.Table.{both_left, both_right, at}

-- one of two fields ends before the other begins
clear : Field → Field → Bool
clear f g = leb (f.at + f.width) g.at || leb (g.at + g.width) f.at

clear_of : (f g : Field) (k : ℕ) → T (clear f g) → Within f.at f.width k → Within g.at g.width k → ⊥
unfolding clear
clear_of f g k t a b = go (leb (f.at + f.width) g.at) refl t
  where
    go : (l : Bool) → leb (f.at + f.width) g.at ≡ l → T (l || leb (g.at + g.width) f.at) → ⊥
    go true e u = let h = leb→le (f.at + f.width) g.at (rw e tt) in omega arith
    go false e u = let h = leb→le (g.at + g.width) f.at u in omega arith

-- a field that the version lacks holds no byte
empty : (k : ℕ) → Within 0 0 k → ⊥
empty k h = let t = h.to in omega arith

all_clear : List Field → Bool
all_clear [] = true
all_clear (f ∷ fs) = every (λ _ g. clear f g) 0 fs && all_clear fs

one_clear : (f : Field) (gs : List Field) (i : ℕ) → T (every (λ _ g. clear f g) i gs) → (j k : ℕ) → Within f.at f.width k → Within (get_or gs j lacking).at (get_or gs j lacking).width k → ⊥
one_clear f [] i t j k a b = empty k b
one_clear f (g ∷ gs) i t zero k a b = clear_of f g k (both_left (clear f g) (every (λ _ x. clear f x) (suc i) gs) t) a b
one_clear f (g ∷ gs) i t (suc j) k a b = one_clear f gs (suc i) (both_right (clear f g) (every (λ _ x. clear f x) (suc i) gs) t) j k a b

all-clear : (fs : List Field) → T (all_clear fs) → (i j k : ℕ) → i < j → Within (get_or fs i lacking).at (get_or fs i lacking).width k → Within (get_or fs j lacking).at (get_or fs j lacking).width k → ⊥
unfolding all_clear
all-clear [] t i j k h a b = empty k a
all-clear (f ∷ fs) t i zero k h a b = absurd (omega arith)
all-clear (f ∷ fs) t zero (suc j) k h a b = one_clear f fs 0 (both_left (every (λ _ g. clear f g) 0 fs) (all_clear fs) t) j k a b
all-clear (f ∷ fs) t (suc i) (suc j) k h a b =
    all-clear fs (both_right (every (λ _ g. clear f g) 0 fs) (all_clear fs) t) i j k (le_of_suc-le-suc h) a b

packed : ℕ → Row → Bool
packed v r = all_clear (columns r) && (eqb (last_end (columns r)) r.header && eqb (widths (columns r)) r.header)

stands : ℕ → ℕ → Field → Bool
stands p n f = eqb f.at p && eqb f.width n

stands_at : (p n : ℕ) (f : Field) → T (stands p n f) → f ≡ field p n
unfolding stands
stands_at p n f t =
    let a = eqb→eq f.at p (both_left (eqb f.at p) (eqb f.width n) t) in
    let w = eqb→eq f.width n (both_right (eqb f.at p) (eqb f.width n) t) in
    ap (λ (x : ℕ). field x f.width) a ∙ ap (λ (x : ℕ). field p x) w

-- the fields of every version are packed without gaps
pub rule : Packed
unfolding row_of clear all_clear packed stands
rule v l =
    let h : v < 5 = omega arith in
    let t : T (packed v (row_of v)) = at no_row packed table tt v h in
    let a : Bool = all_clear (columns (row_of v)) in
    let b : Bool = eqb (last_end (columns (row_of v))) (row_of v).header in
    let c : Bool = eqb (widths (columns (row_of v))) (row_of v).header in
    let u = both_right a (b && c) t in
    record {
      magic = stands_at 0 8 (row_of v).magic (at no_row (λ _ r. stands 0 8 r.magic) table tt v h);
      version = stands_at 40 4 (row_of v).version (at no_row (λ _ r. stands 40 4 r.version) table tt v h);
      apart = all-clear (columns (row_of v)) (both_left a (b && c) t);
      last = eqb→eq (last_end (columns (row_of v))) (row_of v).header (both_left b c u);
      full = eqb→eq (widths (columns (row_of v))) (row_of v).header (both_right b c u);
    }

holds_true : (b : Bool) → T b → b ≡ true
holds_true true t = refl
holds_true false t = absurd t

-- a test that passes over the table and at no row passes at every version
pub everywhere : (f : Row → Bool) → T (every (λ _ r. f r) 0 table) → T (f no_row) → (v : ℕ) → f (row_of v) ≡ true
unfolding row_of
everywhere f t z v = go (ltb v 5) refl
  where
    go : (b : Bool) → ltb v 5 ≡ b → f (get_or table v no_row) ≡ true
    go true e = holds_true (f (get_or table v no_row)) (at no_row (λ _ r. f r) table t v (ltb-true v 5 e))
    go false e = ap f (get_or-eq_default table no_row (ltb-false v 5 e)) ∙ holds_true (f no_row) z
