-- Every tree of counting and adding gives the sums over its images, in any order and grouping.
-- Assumes nothing.
use mathlib.Core.Path.{◌≡◌, refl, sym, ap, ◌∙◌}
use mathlib.Core.Bool.{Bool, true, false}
use mathlib.Core.List.{List, [], ◌∷◌, ◌++◌, append_assoc, append-nil, Permᴰ}
use Prim.Native.Nat.{ℕ, ◌+◌}
use native.Mathlib.Omega.{arith}
use Rattle.sparse_rules.proofs.Cells.{tab_same}
use Rattle.report_rules.specs.declared.Report.{Report}
use Rattle.report_rules.specs.Images.{Item, answer_to, accepted_by, blocks_by, bytes_by, skipped_by, extent_by, refused_by}
use Rattle.report_rules.specs.Reports.{Counted, total, greatest, refusals, report_of, all_small, fits, added, counted}
use Rattle.report_rules.specs.Theorems.{Fits, Way, none, count_next, add_both, images, carried_on, made, in_turn, EveryWay}
use Rattle.report_rules.proofs.Fitting.{fits_facts, pass_facts}
use Rattle.report_rules.proofs.Sums.{same_parts, joined, parts_fit}
use Rattle.report_rules.proofs.Adding.{each_adding}

-- an answer for a list of images: its report where that fits, and else 61
record Right (xs : List Item) (c : Counted) : Type 0 where
  fitting : Fits (report_of xs) → c ≡ record { number = 0; report = report_of xs }
  passing : (Fits (report_of xs) → ⊥) → c.number ≡ 61

-- two reports added are right for the joined list
added_right : (xs ys : List Item) → Right (xs ++ ys) (added (report_of xs) (report_of ys))
added_right xs ys =
    let both = each_adding (report_of xs) (report_of ys) in
    record {
      fitting = λ f. both.fitting (rw (joined xs ys) f) ∙ rw (joined xs ys);
      passing = λ h. ap (λ (c : Counted). c.number) (both.passing (λ f. h (rw (joined xs ys) at f)));
    }

-- a refusal is right where the list does not fit
stays : (xs : List Item) (c : Counted) → (Fits (report_of xs) → ⊥) → c.number ≡ 61 → Right xs c
stays xs c h e = record { fitting = λ f. absurd (h f); passing = λ _. e }

-- a way that goes on from an answer which is right for a part of its images
carried_right : (zs ys : List Item) → (Fits (report_of zs) → Fits (report_of ys)) → (c : Counted) (go : Report → Counted) (b : Bool) → fits (report_of ys) ≡ b
    → Right ys c → Right zs (go (report_of ys)) → Right zs (carried_on c go)
carried_right zs ys part c go true e r next = rw (r.fitting (fits_facts (report_of ys) e)) next
carried_right zs ys part c go false e r next =
    let p = r.passing (pass_facts (report_of ys) e) in
    let same : carried_on c go ≡ c = rw p in
    rw same (stays zs c (λ f. pass_facts (report_of ys) e (part f)) p)

-- the empty report fits
none_fits : Fits (report_of [])
unfolding report_of total greatest fits all_small
none_fits = fits_facts (report_of []) refl

-- every way is right for its images
right : (w : Way) → Right (images w) (made w)
unfolding made counted
right none = record { fitting = λ f. refl; passing = λ h. absurd (h none_fits) }
right (count_next w x) =
    let xs = images w in
    carried_right (xs ++ (x ∷ [])) xs (λ f. (parts_fit xs (x ∷ []) f).0) (made w) (λ r. counted r x) (fits (report_of xs)) refl (right w) (added_right xs (x ∷ []))
right (add_both v w) =
    let xs = images v in
    let ys = images w in
    carried_right (xs ++ ys) xs (λ f. (parts_fit xs ys f).0) (made v) (λ r. carried_on (made w) (λ q. added r q)) (fits (report_of xs)) refl (right v)
    (carried_right (xs ++ ys) ys (λ f. (parts_fit xs ys f).1) (made w) (λ q. added (report_of xs) q) (fits (report_of ys)) refl (right w) (added_right xs ys))

-- the images of a list, counted in turn
turn_images : (w : Way) (xs : List Item) → images (in_turn w xs) ≡ images w ++ xs
turn_images w [] = sym (append-nil (images w))
turn_images w (x ∷ xs) = turn_images (count_next w x) xs ∙ append_assoc (images w) (x ∷ []) xs

-- sums over the same images in another order
total_order : (f : Item → ℕ) {xs ys : List Item} → Permᴰ xs ys → total f xs ≡ total f ys
unfolding total
total_order f Permᴰ.nil = refl
total_order f (Permᴰ.cons e p) = rw (e, total_order f p)
total_order f (Permᴰ.swap e g) = let a = ap f e in let b = ap f g in omega arith
total_order f (Permᴰ.trans p q) = total_order f p ∙ total_order f q

greatest_order : (f : Item → ℕ) {xs ys : List Item} → Permᴰ xs ys → greatest f xs ≡ greatest f ys
unfolding greatest
greatest_order f Permᴰ.nil = refl
greatest_order f (Permᴰ.cons e p) = rw (e, greatest_order f p)
greatest_order f (Permᴰ.swap e g) = let a = ap f e in let b = ap f g in omega arith
greatest_order f (Permᴰ.trans p q) = greatest_order f p ∙ greatest_order f q

-- and the report of them
reordered : {xs ys : List Item} → Permᴰ xs ys → report_of xs ≡ report_of ys
unfolding report_of
reordered {xs} {ys} p =
    same_parts
    (total_order (λ x. accepted_by (answer_to x)) p)
    (total_order (λ x. blocks_by (answer_to x)) p)
    (total_order (λ x. bytes_by x.image (answer_to x)) p)
    (total_order (λ x. skipped_by (answer_to x)) p)
    (greatest_order (λ x. extent_by x.image (answer_to x)) p)
    (tab_same (refusals xs) (refusals ys) 1 1 11 (λ j l. total_order (λ x. refused_by (1 + j) (answer_to x)) p))

pub every_way : EveryWay
every_way =
    record {
      fitting = λ w. (right w).fitting;
      passing = λ w. (right w).passing;
      counted_in_turn = λ xs f. let e : images (in_turn none xs) ≡ xs = turn_images none xs in (right (in_turn none xs)).fitting (rw e f) ∙ rw e;
      halves = λ xs ys. (added_right xs ys).fitting;
      regrouped = λ v w p f.
          let e = reordered p in
          (right v).fitting f ∙ ap (λ (r : Report). record { number = 0; report = r }) e ∙ sym ((right w).fitting (rw e at f));
    }
