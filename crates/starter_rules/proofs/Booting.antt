-- Laws of what follows Start, one for each way out.
-- Assumes nothing.
use mathlib.Core.Path.{◌≡◌, refl, sym, ap, ◌∙◌}
use mathlib.Core.Bool.{Bool, true, false, ◌||◌, or-true}
use mathlib.Core.List.{List, ◌++◌}
use Prim.Native.Nat.{ℕ, ◌≤◌}
use native.Mathlib.Omega.{arith}
use lib.Dec.{ltb}
use lib.ListN.{length, drop}
use borrow.Author.Tests.{ltb-true, ltb-false, lt-ltb, le-ltb}
use Rattle.rules.specs.Answer.{Answer, accepted, refused}
use Rattle.rules.proofs.Tests.{or_left, or_right}
use Rattle.fields_rules.proofs.Sets.{sets_whole}
use Rattle.text_rules.specs.Put.{Put}
use Rattle.slot_rules.specs.Answers as slots
use Rattle.boot_rules.specs.declared.Layout.{Layout}
use Rattle.starter_rules.specs.Starter.{starts, recovery, leaving, needs_more, booted, booted_from, after_start}

-- a slot whose image is refused
pub booted_refused : (k n place : ℕ) (a : Answer Layout) (l space : List ℕ) → refused n place ≡ a → leaving (refused n place) space ≡ booted k a l space
unfolding booted
booted_refused k n place a l space e = ap (λ (x : Answer Layout). booted k x l space) e

-- one whose image is accepted
pub booted_accepted : (k : ℕ) (layout : Layout) (a : Answer Layout) (l space : List ℕ) → accepted layout ≡ a → booted k a l space ≡ booted k (accepted layout) l space
booted_accepted k layout a l space e = ap (λ (x : Answer Layout). booted k x l space) (sym e)

-- its line is too long, or has room
module _ (k : ℕ) (layout : Layout) (l space : List ℕ) where
  pub line_long : needs_more l (length space) ≡ true → leaving (refused 52 0) space ≡ booted k (accepted layout) l space
  unfolding booted
  line_long e = rw e

  pub line_fits : length l ≤ length space → length l ≤ 4096 → leaving (accepted (starts k layout (length l))) (l ++ drop (length l) space) ≡ booted k (accepted layout) l space
  unfolding booted
  line_fits h m = rw (le-ltb (length space) (length l) h, le-ltb 4096 (length l) m)

-- so where the line was counted, in any buffer
module _ (k : ℕ) (layout : Layout) (l space : List ℕ) (n : ℕ) {a b : List ℕ} (counted : Put a 0 l b n) where
  -- a count that is more than another number is so of the line
  longer : (m : ℕ) → ltb m n ≡ true → ltb m (length l) ≡ true
  longer m e = lt-ltb m (length l) (omega (arith, ltb-true m n e, counted.past))

  too_long : (s t : Bool) → ltb (length space) n ≡ s → ltb 4096 n ≡ t → (s || t) ≡ true → needs_more l (length space) ≡ true
  too_long true t e f h = rw (longer (length space) e)
  too_long false true e f h = ap (λ (x : Bool). ltb (length space) (length l) || x) (longer 4096 f) ∙ or-true (ltb (length space) (length l))
  too_long false false e f h = absurd (let z : ◌≡◌ {A = ℕ} 0 1 = cc in omega arith)

  pub booted_long : (ltb (length space) n || ltb 4096 n) ≡ true → leaving (refused 52 0) space ≡ booted k (accepted layout) l space
  booted_long h = line_long k layout l space (too_long (ltb (length space) n) (ltb 4096 n) refl refl h)

  -- where it is not, it is put into the space as it was counted
  module _ (h : (ltb (length space) n || ltb 4096 n) ≡ false) where
    fits : n ≤ length space
    fits = ltb-false (length space) n (or_left (ltb (length space) n) (ltb 4096 n) h)

    short : n ≤ 4096
    short = ltb-false 4096 n (or_right (ltb (length space) n) (ltb 4096 n) h)

    same : n ≡ length l
    same = omega (arith, counted.past, short)

    pub booted_starts : {after : List ℕ} {m : ℕ} → Put space 0 l after m → leaving (accepted (starts k layout n)) after ≡ booted k (accepted layout) l space
    booted_starts {after} p =
        (λ i. leaving (accepted (starts k layout (same i))) ((p.stored ∙ sets_whole l space (omega (arith, same, fits))) i))
        ∙ line_fits k layout l space (omega (arith, same, fits)) (omega (arith, same, short))

-- what follows Start, by its answer
module _ (a : Answer slots.Deed) (images : List (List ℕ)) (asked : Bool) (loader space : List ℕ) where
  pub follows_starts : (k : ℕ) → a ≡ accepted (slots.starts k) → after_start a images asked loader space ≡ booted_from images asked loader space k
  unfolding after_start
  follows_starts k e = rw e

  pub follows_recovery : a ≡ accepted slots.recovery → leaving (accepted recovery) space ≡ after_start a images asked loader space
  unfolding after_start
  follows_recovery e = rw e
