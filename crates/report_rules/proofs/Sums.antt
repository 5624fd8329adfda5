-- Laws of totals and of reports added: in either order, in any grouping, and over lists that are joined.
-- Assumes nothing.
use mathlib.Core.Path.{◌≡◌, refl, ap, ◌∙◌}
use mathlib.Core.Bool.{Bool, true, false, ◌&&◌}
use mathlib.Core.List.{List, [], ◌∷◌, ◌++◌}
use Prim.Native.Nat.{ℕ, max, ◌+◌, ◌<◌, ◌≤◌, ◌^◌}
use native.Mathlib.Nat.{zero-add, add_comm, add_assoc, max_comm, zero-max}
use native.Mathlib.Omega.{arith}
use lib.Dec.{ltb}
use lib.ListN.{length, get_or, get_or-eq_default}
use borrow.Author.Tests.{ltb-true, ltb-false}
use Rattle.sparse_rules.specs.Cells.{tab}
use Rattle.sparse_rules.proofs.Cells.{get_or-tab, tab_same, length-tab}
use Rattle.report_rules.specs.declared.Report.{Report}
use Rattle.report_rules.specs.Images.{Item, answer_to, accepted_by, blocks_by, bytes_by, skipped_by, extent_by, refused_by}
use Rattle.report_rules.specs.Reports.{total, greatest, refusals, report_of, counts_at, sum, small, all_small, fits}
use Rattle.report_rules.specs.Theorems.{Fits}

-- reports with the same parts
pub same_parts : {a a' b b' c c' d d' e e' : ℕ} {l l' : List ℕ}
    → a ≡ a' → b ≡ b' → c ≡ c' → d ≡ d' → e ≡ e' → l ≡ l'
    → ◌≡◌ {A = Report} (record { accepted = a; blocks = b; bytes = c; skipped = d; largest = e; refused = l })
    (record { accepted = a'; blocks = b'; bytes = c'; skipped = d'; largest = e'; refused = l' })
same_parts p q r s t u = rw (p, q, r, s, t, u)

-- ---- sums over lists

pub total_append : (f : Item → ℕ) (xs ys : List Item) → total f xs + total f ys ≡ total f (xs ++ ys)
unfolding total
total_append f [] ys = zero-add _
total_append f (x ∷ xs) ys = add_assoc (f x) (total f xs) (total f ys) ∙ ap (λ (n : ℕ). f x + n) (total_append f xs ys)

max_assoc : (a b c : ℕ) → max (max a b) c ≡ max a (max b c)
max_assoc a b c = omega arith

pub greatest_append : (f : Item → ℕ) (xs ys : List Item) → max (greatest f xs) (greatest f ys) ≡ greatest f (xs ++ ys)
unfolding greatest
greatest_append f [] ys = zero-max _
greatest_append f (x ∷ xs) ys = max_assoc (f x) (greatest f xs) (greatest f ys) ∙ ap (λ (n : ℕ). max (f x) n) (greatest_append f xs ys)

-- ---- reports

-- a count of the report of a list
pub count_at : (xs : List Item) (j : ℕ) → j < 11 → get_or (report_of xs).refused j 0 ≡ refusals xs (1 + j)
unfolding report_of
count_at xs j h = get_or-tab (refusals xs) 1 11 j h

-- a count of a sum
pub sum_at : (a b : Report) (j : ℕ) → j < 11 → get_or (sum a b).refused j 0 ≡ counts_at a.refused b.refused j
unfolding sum
sum_at a b j h = get_or-tab (counts_at a.refused b.refused) 0 11 j h ∙ ap (counts_at a.refused b.refused) (zero-add j)

-- the test of a sum, part by part
pub sum_fits : (a b : Report)
    → fits (sum a b)
    ≡ (small (a.accepted + b.accepted) && small (a.blocks + b.blocks) && small (a.bytes + b.bytes) && small (a.skipped + b.skipped) && all_small (tab (counts_at a.refused b.refused) 0 11))
unfolding fits sum
sum_fits a b = refl

-- a sum of these parts
pub sum_is : (a b : Report) {c d e f g : ℕ} {l : List ℕ} → c ≡ a.accepted + b.accepted → d ≡ a.blocks + b.blocks → e ≡ a.bytes + b.bytes
    → f ≡ a.skipped + b.skipped → g ≡ max a.largest b.largest → l ≡ tab (counts_at a.refused b.refused) 0 11
    → ◌≡◌ {A = Report} (record { accepted = c; blocks = d; bytes = e; skipped = f; largest = g; refused = l }) (sum a b)
unfolding sum
sum_is a b p q r s t u = same_parts p q r s t u

-- the reports of two lists, added, are that of the joined list
pub joined : (xs ys : List Item) → sum (report_of xs) (report_of ys) ≡ report_of (xs ++ ys)
unfolding sum report_of
joined xs ys =
    same_parts
    (total_append (λ x. accepted_by (answer_to x)) xs ys)
    (total_append (λ x. blocks_by (answer_to x)) xs ys)
    (total_append (λ x. bytes_by x.image (answer_to x)) xs ys)
    (total_append (λ x. skipped_by (answer_to x)) xs ys)
    (greatest_append (λ x. extent_by x.image (answer_to x)) xs ys)
    (tab_same (counts_at (report_of xs).refused (report_of ys).refused) (refusals (xs ++ ys)) 0 1 11
    (λ j l.
    ap (counts_at (report_of xs).refused (report_of ys).refused) (zero-add j)
    ∙ rw (count_at xs j l, count_at ys j l) (total_append (λ x. refused_by (1 + j) (answer_to x)) xs ys)))

-- past the last count there is none
pub count_past : (xs : List Item) (i : ℕ) → 11 ≤ i → get_or (report_of xs).refused i 0 ≡ 0
unfolding report_of
count_past xs i h = get_or-eq_default (tab (refusals xs) 1 11) 0 h

-- ---- in any order and grouping

pub sum_either : (a b : Report) → sum a b ≡ sum b a
unfolding sum
sum_either a b =
    same_parts
    (add_comm a.accepted b.accepted)
    (add_comm a.blocks b.blocks)
    (add_comm a.bytes b.bytes)
    (add_comm a.skipped b.skipped)
    (max_comm a.largest b.largest)
    (tab_same (counts_at a.refused b.refused) (counts_at b.refused a.refused) 0 0 11 (λ j l. add_comm (get_or a.refused (0 + j) 0) (get_or b.refused (0 + j) 0)))

pub sum_grouped : (a b c : Report) → sum (sum a b) c ≡ sum a (sum b c)
unfolding sum
sum_grouped a b c =
    same_parts
    (add_assoc a.accepted b.accepted c.accepted)
    (add_assoc a.blocks b.blocks c.blocks)
    (add_assoc a.bytes b.bytes c.bytes)
    (add_assoc a.skipped b.skipped c.skipped)
    (max_assoc a.largest b.largest c.largest)
    (tab_same (counts_at (sum a b).refused c.refused) (counts_at a.refused (sum b c).refused) 0 0 11
    (λ j l. let e : 0 + j ≡ j = zero-add j in rw (e, sum_at a b j l, sum_at b c j l) (add_assoc (get_or a.refused j 0) (get_or b.refused j 0) (get_or c.refused j 0))))

-- ---- parts of what fits

-- where a sum fits, so does its first part, if it has eleven counts
pub left_fits : (a b : Report) → length a.refused ≡ 11 → Fits (sum a b) → Fits a
unfolding sum
left_fits a b e f =
    record {
      accepted = omega (arith, f.accepted);
      blocks = omega (arith, f.blocks);
      bytes = omega (arith, f.bytes);
      skipped = omega (arith, f.skipped);
      refused = λ i. at i (ltb i 11) refl;
    }
  where
    at : (i : ℕ) (t : Bool) → ltb i 11 ≡ t → get_or a.refused i 0 < 2 ^ 64
    at i true q = omega (arith, f.refused i, sum_at a b i (ltb-true i 11 q))
    at i false q = let h = ltb-false i 11 q in omega (arith, get_or-eq_default a.refused 0 {n = i} (omega (arith, e)))

-- a sum has eleven counts, and so has the report of a list
pub sum_counts : (a b : Report) → length (sum a b).refused ≡ 11
unfolding sum
sum_counts a b = length-tab (counts_at a.refused b.refused) 0 11

list_counts : (xs : List Item) → length (report_of xs).refused ≡ 11
unfolding report_of
list_counts xs = length-tab (refusals xs) 1 11

-- where the report of a list fits, so do those of its parts
pub parts_fit : (xs ys : List Item) → Fits (report_of (xs ++ ys)) → Fits (report_of xs) × Fits (report_of ys)
parts_fit xs ys f =
    let both : Fits (sum (report_of xs) (report_of ys)) = rw (joined xs ys) f in
    (left_fits (report_of xs) (report_of ys) (list_counts xs) both, left_fits (report_of ys) (report_of xs) (list_counts ys) (rw (sum_either (report_of xs) (report_of ys)) at both))
