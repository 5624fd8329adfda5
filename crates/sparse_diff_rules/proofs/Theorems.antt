-- What the list of changes says of two images, and where it stands in the space.
-- Assumes nothing.
use mathlib.Core.Path.{◌≡◌, refl, sym, ap, ◌∙◌}
use mathlib.Core.List.{List, [], ◌∷◌, ◌++◌}
use Prim.Native.Nat.{ℕ, zero, suc, ◌+◌, ◌*◌, ◌≤◌, ◌<◌}
use native.Mathlib.Nat.{zero-lt-suc, not-suc-le-zero, le_of_suc-le-suc}
use native.Mathlib.Omega.{arith}
use borrow.Author.Tests.{ltb-false, lt-leb, le-leb}
use lib.Dec.{ltb, eqb}
use lib.ListN.{length, get_or, take, drop, length-append, length-drop, length-replicate}
use Rattle.rules.specs.First.{first}
use Rattle.rules.specs.Answer.{Answer, accepted, refused}
use Rattle.rules.proofs.First.{first_none}
use Rattle.rules.proofs.Answer.{unless_accepted, unless_number, onward_number}
use Rattle.sparse_rules.proofs.Theorems as images
use Rattle.sparse_write_rules.specs.Runs.{Run, spread}
use Rattle.sparse_write_rules.proofs.Runs.{tells_numbers, differ, longest, spread_runs}
use Rattle.sparse_blocks_rules.specs.Blocks.{needed, found, blocks}
use Rattle.sparse_blocks_rules.specs.Same.{alike}
use Rattle.sparse_blocks_rules.specs.Pairs.{pair_answer, pair_tests}
use Rattle.sparse_blocks_rules.proofs.Comparing.{tells_bytes}
use Rattle.sparse_blocks_rules.proofs.Giving.{gives}
use Rattle.sparse_blocks_rules.proofs.SideBySide.{length_each, each_at, as_many}
use Rattle.sparse_blocks_rules.proofs.Pairing.{pair_refused, pair_accepted, pair_passed, leaves}
use Rattle.sparse_diff_rules.specs.Diff.{change, changes, diff, numbers, space_tests, answer, listed}
use Rattle.sparse_diff_rules.specs.Theorems.{Listings, Kinds, ThreeNumbers, Answered, Kept, Refusals, RefusalNumbers}
use Rattle.sparse_diff_rules.proofs.Laying.{length_numbers}
use Rattle.sparse_diff_rules.proofs.Answering.{runs_few, answers_short, answers_listed}

-- ---- the runs

-- two accepted images of equal block size and total
pub listings : Listings
unfolding diff changes
listings s t m =
    record {
      covers = spread_runs eqb tells_numbers (changes s t);
      every = length_each change (blocks s) (blocks t) (as_many m) ∙ (gives m.first).many;
      longest = longest eqb tells_numbers (changes s t);
      kind = λ k h. each_at change (blocks s) (blocks t) k 0 (omega (arith, (gives m.first).many)) (as_many m);
      first = gives m.first;
      second = gives m.second;
    }

-- the five kinds
pub kinds : Kinds
kinds =
    record {
      neither = refl;
      only_first = λ xs. refl;
      only_second = λ ys. refl;
      equal = λ xs ys e. rw (tells_bytes.complete xs ys e);
      different = λ xs ys d. rw (differ alike tells_bytes xs ys d);
    }

-- ---- the numbers

numbers_at : (first : ℕ) (rs : List (Run ℕ)) (i : ℕ) (d : Run ℕ) → i < length rs
    → (get_or (numbers first rs) (3 * i) 0 ≡ first + length (spread (take i rs))) × (get_or (numbers first rs) (3 * i + 1) 0 ≡ (get_or rs i d).many)
    × (get_or (numbers first rs) (3 * i + 2) 0 ≡ (get_or rs i d).kind)
unfolding numbers spread
numbers_at first [] i d h = absurd (not-suc-le-zero h)
numbers_at first (r ∷ rs) zero d h = (omega arith, refl, refl)
numbers_at first (r ∷ rs) (suc i) d h =
    let p : 3 * suc i ≡ suc (suc (suc (3 * i))) = omega arith in
    let q : 3 * suc i + 1 ≡ suc (suc (suc (3 * i + 1))) = omega arith in
    let u : 3 * suc i + 2 ≡ suc (suc (suc (3 * i + 2))) = omega arith in
    let on = numbers_at (first + r.many) rs i d (le_of_suc-le-suc h) in
    (rw p (on.0 ∙ rw (length-append, length-replicate) (omega arith)), rw q on.1, rw u on.2)

-- three numbers a run
pub three_numbers : ThreeNumbers
three_numbers =
    record {
      long = length_numbers 0;
      stand = λ rs i d h.
          let n = numbers_at 0 rs i d h in
          record { first = n.0 ∙ omega arith; many = n.1; kind = n.2 };
    }

-- ---- the answers

-- images that match
pub answered : Answered
answered s t space m =
    let fits : 3 * length (diff s t) ≤ length space → answer s t (length space) ≡ accepted (length (diff s t)) =
    λ h. sym (answers_listed s t space m (le-leb (3 * length (diff s t)) (length space) h) refl refl).0 in
    record {
      short = λ h. sym (answers_short s t space m (lt-leb (3 * length (diff s t)) (length space) h)).0;
      fits = fits;
      image = (pair_passed s t [] 0 m).1;
      enough = λ h. fits (omega (arith, runs_few m));
    }

-- a refusal of the two images comes whatever the space is
pub refusals : Refusals
unfolding answer
refusals s t space n place e = sym (pair_refused s t (space_tests s t space) (length (diff s t)) n place (sym e))

-- no refusal has the number 0
pub refusal_numbers : RefusalNumbers
unfolding answer pair_answer found
refusal_numbers s t space =
    onward_number (found s) _ ((images.refusal_numbers).images s (length s) (needed s))
    (λ ks. onward_number (found t) _ ((images.refusal_numbers).images t (length t) (needed t))
    (λ ls. unless_number (first (pair_tests s t (space_tests s t space))) 0 (accepted (length (diff s t))) tt))

-- ---- the space

-- where runs are answered, they have room
has_room : (s t : List ℕ) (space n : ℕ) → answer s t space ≡ accepted n → (length (numbers 0 (diff s t)) ≤ space) × (length (numbers 0 (diff s t)) ≡ 3 * n)
unfolding answer
has_room s t space n e =
    let m = pair_accepted s t (space_tests s t space) (length (diff s t)) n e in
    let p = pair_passed s t (space_tests s t space) (length (diff s t)) m.0 in
    let u = unless_accepted (first (space_tests s t space)) 0 (accepted (length (diff s t))) n (sym p.0 ∙ e) in
    let f = first_none (ltb space (length (numbers 0 (diff s t)))) 18 [] (zero-lt-suc 17) u.0 in
    (ltb-false space (length (numbers 0 (diff s t))) f, omega (arith, length_numbers 0 (diff s t), m.1))

module _ (s t space : List ℕ) where
  kept_refusal : (n place : ℕ) → answer s t (length space) ≡ refused n place → listed s t space ≡ space
  unfolding listed
  kept_refusal n place e = rw e

  kept_runs : (n : ℕ) → answer s t (length space) ≡ accepted n → listed s t space ≡ numbers 0 (diff s t) ++ drop (length (numbers 0 (diff s t))) space
  unfolding listed
  kept_runs n e = rw e

  kept_long : length (listed s t space) ≡ length space
  kept_long = go (answer s t (length space)) refl
    where
      go : (a : Answer ℕ) → answer s t (length space) ≡ a → length (listed s t space) ≡ length space
      go (refused n place) e = ap length (kept_refusal n place e)
      go (accepted n) e =
          let put : List ℕ = numbers 0 (diff s t) in
          let room = has_room s t (length space) n e in
          ap length (kept_runs n e) ∙ length-append put (drop (length put) space) ∙ omega (arith, room.0, length-drop (length put) space)

  kept_start : (n : ℕ) → answer s t (length space) ≡ accepted n → take (3 * n) (listed s t space) ≡ numbers 0 (diff s t)
  kept_start n e = rw (kept_runs n e, ← (has_room s t (length space) n e).1) (leaves.start n (numbers 0 (diff s t)) space)

  kept_past : (n i : ℕ) → answer s t (length space) ≡ accepted n → 3 * n ≤ i → get_or (listed s t space) i 0 ≡ get_or space i 0
  kept_past n i e h =
      ap (λ (l : List ℕ). get_or l i 0) (kept_runs n e) ∙ leaves.past n (numbers 0 (diff s t)) space i (omega (arith, (has_room s t (length space) n e).1))

-- the lent space
pub kept : Kept
kept = record { long = kept_long; refusal = kept_refusal; start = kept_start; past = kept_past }
