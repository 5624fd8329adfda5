-- What holds of the report of a list: each image is counted once, and what its totals are of.
-- Assumes nothing.
use mathlib.Core.Path.{◌≡◌, refl, sym, ap, ◌∙◌}
use mathlib.Core.Bool.{Bool, true, false, cond}
use mathlib.Core.List.{List, [], ◌∷◌, Memᴰ}
use Prim.Native.Nat.{ℕ, zero, suc, max, ◌+◌, ◌*◌, ◌≤◌, ◌<◌}
use native.Mathlib.Nat.{zero-add, zero-mul, one-mul}
use native.Mathlib.Omega.{arith}
use lib.Dec.{leb, eqb}
use lib.ListN.{length}
use borrow.Author.Tests.{eqb-true, eqb-false, ne_eqb, leb-true, leb-false}
use Rattle.rules.specs.Answer.{Answer, accepted, refused, number_of, HasNumber}
use Rattle.sparse_rules.specs.declared.Counts.{Counts}
use Rattle.sparse_rules.specs.Header.{block_size, total_blocks}
use Rattle.sparse_rules.specs.Counts.{written, dont_care_of, unknown}
use Rattle.sparse_rules.specs.Cells.{tab, count}
use Rattle.sparse_rules.specs.Judge.{effect}
use Rattle.sparse_rules.proofs.Cells.{count_cells}
use Rattle.sparse_rules.proofs.Image.{answer_accepted, answer_refused, effect_accepted, effect_refused}
use Rattle.sparse_rules.proofs.Theorems as judge
use Rattle.report_rules.specs.Images.{Item, answer_to, accepted_by, blocks_by, bytes_by, skipped_by, extent_by, refused_by}
use Rattle.report_rules.specs.Reports.{total, greatest, refusals, report_of}
use Rattle.report_rules.specs.Theorems.{sum_of, Extent, EachTotals}

-- sums of sums
sum_tab : (f g : ℕ → ℕ) (i n : ℕ) → sum_of (tab (λ m. f m + g m) i n) ≡ sum_of (tab f i n) + sum_of (tab g i n)
sum_tab f g i zero = refl
sum_tab f g i (suc n) = omega (arith, sum_tab f g (suc i) n)

-- a number is not counted past it
never : (m i n : ℕ) → m < i → sum_of (tab (λ k. cond (eqb m k) 1 0) i n) ≡ 0
never m i zero h = refl
never m i (suc n) h = rw (ne_eqb m i (λ e. omega arith)) (zero-add _ ∙ never m (suc i) n (omega arith))

-- and once where it stands
counted_once : (m i n : ℕ) → i ≤ m → m < i + n → sum_of (tab (λ k. cond (eqb m k) 1 0) i n) ≡ 1
counted_once m i zero h l = absurd (omega arith)
counted_once m i (suc n) h l = go (eqb m i) refl (λ p. counted_once m (suc i) n p (omega arith))
  where
    go : (b : Bool) → eqb m i ≡ b → (suc i ≤ m → sum_of (tab (λ k. cond (eqb m k) 1 0) (suc i) n) ≡ 1) → cond b 1 0 + sum_of (tab (λ k. cond (eqb m k) 1 0) (suc i) n) ≡ 1
    go true e rest = let same = eqb-true m i e in ap (λ (k : ℕ). 1 + k) (never m (suc i) n (omega arith))
    go false e rest = zero-add _ ∙ rest (omega (arith, eqb-false m i e))

-- an image is accepted, or counted under one number
one_image : (a : Answer Counts) → HasNumber a → number_of a ≤ 11 → accepted_by a + sum_of (tab (λ n. refused_by n a) 1 11) ≡ 1
unfolding accepted_by refused_by
one_image (accepted c) h l = refl
one_image (refused m place) h l = zero-add _ ∙ counted_once m 1 11 h (omega arith)

-- the judge's refusals are numbered 1 to 11
numbers : (x : Item) → HasNumber (answer_to x) × (number_of (answer_to x) ≤ 11)
unfolding answer_to
numbers x =
    ((judge.refusal_numbers).answers x.image (length x.image) x.room, judge.last_number x.image (length x.image) x.room)

-- so of a list each is counted once
each_image : (xs : List Item) → (report_of xs).accepted + sum_of (report_of xs).refused ≡ length xs
unfolding report_of total
each_image [] = refl
each_image (x ∷ xs) =
    let a : Answer Counts = answer_to x in
    let one = one_image a (numbers x).0 (numbers x).1 in
    let parts = sum_tab (λ n. refused_by n a) (refusals xs) 1 11 in
    let rest = each_image xs in
    omega arith

-- ---- the bytes written

-- those of an image are the bytes that storing it stores
image_stored : (x : Item) (a : Answer Counts) → a ≡ answer_to x → bytes_by x.image a ≡ count (effect x.image x.room)
unfolding answer_to bytes_by blocks_by
image_stored x (accepted c) e =
    let s = x.image in
    let t = answer_accepted s (length s) x.room c e in
    ap (λ (k : Counts). k.written * block_size s) t.counts
    ∙ sym (ap count (effect_accepted s x.room t.ks t.found) ∙ count_cells s (block_size s) t.ks)
image_stored x (refused n place) e =
    let s = x.image in
    rw (effect_refused s x.room n place (answer_refused s (length s) x.room n place e)) (zero-mul _)

-- sums of equal numbers
total_same : (f g : Item → ℕ) → ((x : Item) → f x ≡ g x) → (xs : List Item) → total f xs ≡ total g xs
unfolding total
total_same f g h [] = refl
total_same f g h (x ∷ xs) = rw (h x, total_same f g h xs)

-- ---- the blocks

-- those of an image, written and skipped, are all that it has
image_blocks : (x : Item) (a : Answer Counts) → a ≡ answer_to x → blocks_by a + skipped_by a ≡ accepted_by a * total_blocks x.image
unfolding answer_to blocks_by skipped_by accepted_by
image_blocks x (accepted c) e =
    let s = x.image in
    let t = answer_accepted s (length s) x.room c e in
    let w : c.written ≡ written t.ks = ap (λ (k : Counts). k.written) t.counts in
    let d : c.dont_care ≡ dont_care_of t.ks = ap (λ (k : Counts). k.dont_care) t.counts in
    let u : c.unknown ≡ unknown t.ks = ap (λ (k : Counts). k.unknown) t.counts in
    omega (arith, (judge.sums s (length s) x.room t.ks t.found).total)
image_blocks x (refused n place) e = sym (zero-mul _)

-- two sums over the same images
total_both : (f g : Item → ℕ) (xs : List Item) → total f xs + total g xs ≡ total (λ x. f x + g x) xs
unfolding total
total_both f g [] = refl
total_both f g (x ∷ xs) = omega (arith, total_both f g xs)

-- ---- the largest

-- an accepted image's total × block size
extent_of : (x : Item) (n : ℕ) → Extent x n → extent_by x.image (answer_to x) ≡ n
unfolding extent_by accepted_by
extent_of x n e = rw e.accepts (one-mul _ ∙ sym e.product)

-- one that is not 0 is an accepted image's
extent_there : (x : Item) (a : Answer Counts) → a ≡ answer_to x → 0 < extent_by x.image a → Extent x (extent_by x.image a)
unfolding extent_by accepted_by
extent_there x (accepted c) e h = record { counts = c; accepts = sym e; product = one-mul _ }
extent_there x (refused n place) e h = absurd (omega (arith, h, zero-mul (total_blocks x.image * block_size x.image)))

-- none has more
greatest_most : (f : Item → ℕ) {x : Item} {xs : List Item} → Memᴰ x xs → f x ≤ greatest f xs
unfolding greatest
greatest_most f (Memᴰ.head e) = let q = ap f e in omega arith
greatest_most f (Memᴰ.tail m) = let q = greatest_most f m in omega arith

-- and one has it
greatest_reached : (f : Item → ℕ) (xs : List Item) → 0 < greatest f xs → (x : Item) × Memᴰ x xs × (f x ≡ greatest f xs)
unfolding greatest
greatest_reached f [] h = absurd (omega arith)
greatest_reached f (x ∷ xs) h = go (leb (greatest f xs) (f x)) refl (greatest_reached f xs)
  where
    go : (b : Bool) → leb (greatest f xs) (f x) ≡ b → (0 < greatest f xs → (y : Item) × Memᴰ y xs × (f y ≡ greatest f xs))
        → (y : Item) × Memᴰ y (x ∷ xs) × (f y ≡ max (f x) (greatest f xs))
    go true e rest = let l = leb-true (greatest f xs) (f x) e in (x, Memᴰ.head refl, omega arith)
    go false e rest =
        let l = leb-false (greatest f xs) (f x) e in
        let r = rest (omega arith) in
        (r.0, Memᴰ.tail r.1, r.2 ∙ (let m : greatest f xs ≡ max (f x) (greatest f xs) = omega arith in m))

pub each_totals : EachTotals
unfolding report_of
each_totals xs =
    record {
      images = each_image xs;
      blocks =
          total_both (λ x. blocks_by (answer_to x)) (λ x. skipped_by (answer_to x)) xs
          ∙ total_same (λ x. blocks_by (answer_to x) + skipped_by (answer_to x)) (λ x. accepted_by (answer_to x) * total_blocks x.image) (λ x. image_blocks x (answer_to x) refl) xs;
      stored = total_same (λ x. bytes_by x.image (answer_to x)) (λ x. count (effect x.image x.room)) (λ x. image_stored x (answer_to x) refl) xs;
      most = λ x m n e. rw (extent_of x n e) at (greatest_most (λ y. extent_by y.image (answer_to y)) m);
      reached = λ h.
          let r = greatest_reached (λ y. extent_by y.image (answer_to y)) xs h in
          (r.0, r.1, rw r.2 at (extent_there r.0 (answer_to r.0) refl (rw r.2 h)));
    }
