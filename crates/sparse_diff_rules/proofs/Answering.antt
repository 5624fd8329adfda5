-- The answers to two images one by one, and what each leaves in the space.
-- Assumes nothing.
use mathlib.Core.Path.{◌≡◌, sym, ap, ◌∙◌}
use mathlib.Core.Bool.{true, false}
use mathlib.Core.List.{List, []}
use Prim.Native.Nat.{ℕ, ◌*◌, ◌≤◌, ◌<◌}
use native.Mathlib.Omega.{arith}
use borrow.Author.Tests.{leb-true, leb-false, le-leb, lt-ltb, le-ltb}
use lib.Dec.{leb}
use lib.ListN.{length}
use Rattle.rules.specs.Answer.{accepted, refused}
use Rattle.fields_rules.proofs.Sets.{sets_whole}
use Rattle.sparse_rules.specs.declared.Header.{Header}
use Rattle.sparse_rules.specs.Header.{header_of, total_blocks}
use Rattle.sparse_blocks_rules.specs.Pairs.{pair_answer, refused_image, Matched}
use Rattle.sparse_blocks_rules.proofs.Pairing.{pair_refused, pair_passed}
use Rattle.sparse_diff_rules.specs.Diff.{diff, numbers, space_tests, answer, listed}
use Rattle.sparse_diff_rules.specs.Laid.{laid}
use Rattle.sparse_diff_rules.proofs.Laying.{length_numbers, laid_whole}
use Rattle.sparse_diff_rules.proofs.Lists.{lists_start}

-- no more runs than blocks
pub runs_few : {s t : List ℕ} → Matched s t → length (diff s t) ≤ total_blocks s
runs_few m = (lists_start [] m).few

-- so there is room where there is for a run of each block
pub room_enough : {s t : List ℕ} {h : Header} {room : ℕ} → Matched s t → h ≡ header_of s → 3 * h.total ≤ room → true ≡ leb (3 * length (diff s t)) room
room_enough {s} {t} {h} {room} m e p =
    let total : h.total ≡ total_blocks s = ap (λ (x : Header). x.total) e in
    sym (le-leb (3 * length (diff s t)) room (omega (arith, runs_few m)))

module _ (s t space : List ℕ) where
  -- a refusal of the two images
  pub answers_refusal : {n place : ℕ} → refused n place ≡ pair_answer s t [] 0 → (refused n place ≡ answer s t (length space)) × (space ≡ listed s t space)
  unfolding answer listed
  answers_refusal {n} {place} e =
      let a = pair_refused s t (space_tests s t (length space)) (length (diff s t)) n place e in
      (a, rw (← a))

  module _ (m : Matched s t) where
    -- 18
    pub answers_short : leb (3 * length (diff s t)) (length space) ≡ false → (refused 18 0 ≡ answer s t (length space)) × (0 ≡ refused_image s t) × (space ≡ listed s t space)
    unfolding answer listed
    answers_short e =
        let short : length space < length (numbers 0 (diff s t)) = omega (arith, leb-false (3 * length (diff s t)) (length space) e, length_numbers 0 (diff s t)) in
        let p = pair_passed s t (space_tests s t (length space)) (length (diff s t)) m in
        let a : refused 18 0 ≡ pair_answer s t (space_tests s t (length space)) (length (diff s t)) =
        sym (p.0 ∙ rw (lt-ltb (length space) (length (numbers 0 (diff s t))) short)) in
        (a, sym p.1, rw (← a))

    -- the runs are listed
    pub answers_listed : {n : ℕ} {space' : List ℕ} → leb (3 * length (diff s t)) (length space) ≡ true → n ≡ length (diff s t) → space' ≡ laid space 0 0 (diff s t)
        → (accepted n ≡ answer s t (length space)) × (0 ≡ refused_image s t) × (space' ≡ listed s t space)
    unfolding answer listed
    answers_listed e f g =
        let fits = leb-true (3 * length (diff s t)) (length space) e in
        let long : length (numbers 0 (diff s t)) ≤ length space = omega (arith, length_numbers 0 (diff s t)) in
        let p = pair_passed s t (space_tests s t (length space)) (length (diff s t)) m in
        let a : accepted (length (diff s t)) ≡ pair_answer s t (space_tests s t (length space)) (length (diff s t)) =
        sym (p.0 ∙ rw (le-ltb (length space) (length (numbers 0 (diff s t))) long)) in
        (ap accepted f ∙ a, sym p.1, g ∙ laid_whole space 0 0 (diff s t) (omega arith) ∙ sets_whole (numbers 0 (diff s t)) space long ∙ rw (← a))
