-- The report of no image and of one, by the judge's answer, and the counts of one refusal.
-- Assumes nothing.
use mathlib.Core.Path.{◌≡◌, refl, sym, ◌∙◌}
use mathlib.Core.Bool.{Bool, true, false, cond}
use mathlib.Core.List.{List, [], ◌∷◌}
use Prim.Native.Nat.{ℕ, ◌+◌, ◌-◌, ◌*◌, ◌≤◌, ◌<◌}
use native.Mathlib.Nat.{add-zero, one-mul, zero-mul, max-zero}
use native.Mathlib.Omega.{arith}
use lib.Dec.{eqb}
use lib.ListN.{get_or, set, replicate, length-set, get_or-replicate}
use lib.Seq.{ext_get_or, get_or-set_same, get_or-set_other}
use borrow.Author.Tests.{eqb-true, eqb-false, ne_eqb}
use Rattle.rules.specs.Answer.{accepted, refused}
use Rattle.sparse_rules.specs.declared.Counts.{Counts}
use Rattle.sparse_rules.specs.Header.{block_size, total_blocks}
use Rattle.sparse_rules.specs.Cells.{tab}
use Rattle.sparse_rules.proofs.Cells.{get_or-tab, tab_same}
use Rattle.report_rules.specs.declared.Report.{Report}
use Rattle.report_rules.specs.Images.{Item, answer_to, accepted_by, blocks_by, bytes_by, skipped_by, extent_by, refused_by}
use Rattle.report_rules.specs.Reports.{total, greatest, report_of, added, counted}
use Rattle.report_rules.proofs.Sums.{same_parts}

-- the counts of one refusal with a number
abbrev pub once : ℕ → ℕ → ℕ
once n m = refused_by m (refused n 0)

-- no counts at all
none : List ℕ
none = replicate 11 0

-- a number that is none of 1 to 11 counts nowhere
pub once_outside : (n : ℕ) → (1 ≤ n → n ≤ 11 → ⊥) → replicate 11 0 ≡ tab (once n) 1 11
unfolding refused_by none
once_outside n h =
    ext_get_or 0 none (tab (once n) 1 11) refl
    (λ k l. get_or-replicate 11 k 0 0 l ∙ sym (get_or-tab (once n) 1 11 k l ∙ rw (ne_eqb n (1 + k) (λ e. h (omega arith) (omega arith)))))

-- any other counts at its place
pub once_inside : (n : ℕ) → 1 ≤ n → n ≤ 11 → set (replicate 11 0) (n - 1) 1 ≡ tab (once n) 1 11
unfolding refused_by none
once_inside n p q =
    ext_get_or 0 (set none (n - 1) 1) (tab (once n) 1 11) (length-set none (n - 1) 1)
    (λ k l. let m : k < 11 = omega (arith, length-set none (n - 1) 1) in at k m (eqb n (1 + k)) refl ∙ sym (get_or-tab (once n) 1 11 k m))
  where
    at : (k : ℕ) → k < 11 → (b : Bool) → eqb n (1 + k) ≡ b → ◌≡◌ {A = ℕ} (get_or (set none (n - 1) 1) k 0) (cond b 1 0)
    at k m true e =
        let same : n ≡ 1 + k = eqb-true n (1 + k) e in
        let d : n - 1 ≡ k = omega arith in
        rw d (get_or-set_same none k 1 0 m)
    at k m false e =
        get_or-set_other none (n - 1) k 1 0 (λ z. eqb-false n (1 + k) e (omega arith)) ∙ get_or-replicate 11 k 0 0 m

-- the report of no images
pub no_images : ◌≡◌ {A = Report} (record { accepted = 0; blocks = 0; bytes = 0; skipped = 0; largest = 0; refused = replicate 11 0 }) (report_of [])
unfolding report_of total greatest
no_images = refl

-- counting an image adds its report
pub counted_one : (r : Report) (x : Item) {q : Report} → q ≡ report_of (x ∷ []) → added r q ≡ counted r x
unfolding counted
counted_one r x e = rw e

module _ (x : Item) where
  -- the report of a refused image
  pub refused_one : (n place : ℕ) → refused n place ≡ answer_to x
      → ◌≡◌ {A = Report}
      (record { accepted = 0; blocks = 0; bytes = 0; skipped = 0; largest = 0; refused = tab (once n) 1 11 })
      (report_of (x ∷ []))
  unfolding report_of total greatest accepted_by blocks_by bytes_by skipped_by extent_by refused_by
  refused_one n place e =
      rw (sym e)
      (same_parts refl refl (sym (add-zero _ ∙ zero-mul _)) refl (sym (max-zero _ ∙ zero-mul _))
      (tab_same (once n) (λ m. once n m + 0) 1 1 11 (λ j l. sym (add-zero _))))

  -- the report of an accepted one
  pub accepted_one : (c : Counts) → accepted c ≡ answer_to x
      → ◌≡◌ {A = Report}
      (record {
        accepted = 1;
        blocks = c.written;
        bytes = c.written * block_size x.image;
        skipped = c.dont_care + c.unknown;
        largest = total_blocks x.image * block_size x.image;
        refused = replicate 11 0;
      })
      (report_of (x ∷ []))
  unfolding report_of total greatest accepted_by blocks_by bytes_by skipped_by extent_by refused_by
  accepted_one c e =
      rw (sym e)
      (same_parts refl (sym (add-zero _)) (sym (add-zero _)) (sym (add-zero _)) (sym (max-zero _ ∙ one-mul _)) refl)
