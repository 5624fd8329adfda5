-- Numbers of 64 bits: the test of a report says exactly that each of its totals is one.
-- Assumes nothing.
use mathlib.Core.Path.{◌≡◌, refl}
use mathlib.Core.Bool.{Bool, true, false, ◌&&◌}
use mathlib.Core.List.{List, [], ◌∷◌}
use Prim.Native.Nat.{ℕ, zero, suc, ◌+◌, ◌-◌, ◌<◌, ◌^◌}
use native.Mathlib.Numerals.{add-one}
use native.Mathlib.Omega.{arith}
use lib.ListN.{get_or}
use borrow.Author.Tests.{ltb-true, lt-ltb}
use Rattle.rules.proofs.Tests.{both}
use Rattle.sparse_rules.specs.Cells.{tab}
use Rattle.report_rules.specs.declared.Report.{Report}
use Rattle.report_rules.specs.Reports.{small, all_small, fits}
use Rattle.report_rules.specs.Theorems.{Fits}

-- each number of a list that passes the test has 64 bits
pub all_below : (ns : List ℕ) → all_small ns ≡ true → (i : ℕ) → get_or ns i 0 < 2 ^ 64
unfolding all_small
all_below [] e i = omega arith
all_below (n ∷ ns) e zero = ltb-true n (2 ^ 64) (both (small n) (all_small ns) e).0
all_below (n ∷ ns) e (suc i) = all_below ns (both (small n) (all_small ns) e).1 i

-- and a list of such numbers passes it
pub below_all : (ns : List ℕ) → ((i : ℕ) → get_or ns i 0 < 2 ^ 64) → all_small ns ≡ true
unfolding all_small
below_all [] h = refl
below_all (n ∷ ns) h = rw (lt-ltb n (2 ^ 64) (h 0)) (below_all ns (λ i. h (suc i)))

-- no numbers pass it
pub small_none : all_small [] ≡ true
unfolding all_small
small_none = refl

-- the test of numbers of a table from one on, by the first of them
pub small_next : (f : ℕ → ℕ) (i n : ℕ) → i < n → all_small (tab f i (n - i)) ≡ (small (f i) && all_small (tab f (i + 1) (n - (i + 1))))
unfolding all_small
small_next f i n h =
    let here : n - i ≡ suc (n - (i + 1)) = omega arith in
    rw (here, add-one i)

-- a report whose totals have 64 bits passes the test
pub facts_fit : (r : Report) → Fits r → fits r ≡ true
unfolding fits
facts_fit r f =
    rw (
      lt-ltb r.accepted (2 ^ 64) f.accepted,
      lt-ltb r.blocks (2 ^ 64) f.blocks,
      lt-ltb r.bytes (2 ^ 64) f.bytes,
      lt-ltb r.skipped (2 ^ 64) f.skipped,
      below_all r.refused f.refused,
    )

-- and the totals of one that passes it have 64 bits
pub fits_facts : (r : Report) → fits r ≡ true → Fits r
unfolding fits
fits_facts r e =
    let d = both (small r.accepted && small r.blocks && small r.bytes && small r.skipped) (all_small r.refused) e in
    let c = both (small r.accepted && small r.blocks && small r.bytes) (small r.skipped) d.0 in
    let b = both (small r.accepted && small r.blocks) (small r.bytes) c.0 in
    let a = both (small r.accepted) (small r.blocks) b.0 in
    record {
      accepted = ltb-true r.accepted (2 ^ 64) a.0;
      blocks = ltb-true r.blocks (2 ^ 64) a.1;
      bytes = ltb-true r.bytes (2 ^ 64) b.1;
      skipped = ltb-true r.skipped (2 ^ 64) c.1;
      refused = all_below r.refused d.1;
    }

-- a report whose totals do not all have 64 bits fails it
pub facts_pass : (r : Report) → (Fits r → ⊥) → fits r ≡ false
facts_pass r h = go (fits r) refl
  where
    go : (b : Bool) → fits r ≡ b → b ≡ false
    go true e = absurd (h (fits_facts r e))
    go false e = refl

-- and one that fails it has not all of them
pub pass_facts : (r : Report) → fits r ≡ false → Fits r → ⊥
pass_facts r e f = let z : ◌≡◌ {A = ℕ} 0 1 = cc (facts_fit r f) in omega arith
