-- The rules of all pairs: a table of them, computed over all its rows at once, gives every release and kernel its rule.
-- Assumes nothing.
use mathlib.Core.Path.{◌≡◌, refl, sym, ap, ◌∙◌}
use mathlib.Core.Bool.{Bool, true, false, ◌&&◌, ◌||◌, cond}
use mathlib.Core.List.{List, [], ◌∷◌, map, flatten}
use Prim.Native.Nat.{ℕ, zero, suc, ◌+◌, ◌-◌, ◌*◌, ◌/◌, ◌%◌, ◌≤◌, ◌<◌}
use native.Mathlib.Nat.{le_of_suc-le-suc, not-suc-le-zero}
use native.Mathlib.Omega.{arith}
use lib.Dec.{T, ltb, eqb, eqb→eq}
use lib.ListN.{length, get_or}
use borrow.Author.Tests.{ltb-true, ltb-false, ne_eqb}
use Rattle.std.specs.Prelude.{Option}
use Rattle.rules.proofs.Table.{both_left, both_right, at}
use Rattle.boot_launch_rules.specs.declared.Rule.{Rule}
use Rattle.boot_launch_rules.specs.Rules.{Pair, plain, generic, bad_request, plain_rule, generic_rule, rule_of, pairs, rule_of_pair, RuleTable}
use Rattle.boot_launch_rules.specs.Theorems.{EveryPair, RulesOfAll}

-- what all pairs take
pub rules_of_all : RulesOfAll
unfolding rule_of flatten
rules_of_all = refl

-- a pair that is none
abbrev no_pair : Pair
no_pair = record { release = 0; kernel = 0 }

-- the pair at a place
placed : ℕ → Pair → Bool
placed i p = eqb p.release (8 + i / 2) && eqb p.kernel (i % 2)

-- each pair stands at its place
pair_at : (release kernel : ℕ) → 8 ≤ release → release ≤ 13 → kernel ≤ 1 → get_or pairs (2 * (release - 8) + kernel) no_pair ≡ record { release = release; kernel = kernel }
unfolding placed flatten
pair_at release kernel lo hi k =
    let i : ℕ = 2 * (release - 8) + kernel in
    let p : Pair = get_or pairs i no_pair in
    let t : T (placed i p) = at no_pair placed pairs tt i (omega arith) in
    let a : p.release ≡ 8 + i / 2 = eqb→eq p.release (8 + i / 2) (both_left (eqb p.release (8 + i / 2)) (eqb p.kernel (i % 2)) t) in
    let b : p.kernel ≡ i % 2 = eqb→eq p.kernel (i % 2) (both_right (eqb p.release (8 + i / 2)) (eqb p.kernel (i % 2)) t) in
    ap (λ (x : ℕ). record { release = x; kernel = p.kernel }) (let e : p.release ≡ release = omega arith in e)
    ∙ ap (λ (x : ℕ). record { release = release; kernel = x }) (let e : p.kernel ≡ kernel = omega arith in e)

-- the rule at the place of a pair, whatever stands past the last one
mapped : (ps : List Pair) (i : ℕ) (d : Option Rule) → i < length ps → get_or (map rule_of_pair ps) i d ≡ rule_of_pair (get_or ps i no_pair)
mapped [] i d h = absurd (not-suc-le-zero h)
mapped (p ∷ ps) zero d h = refl
mapped (p ∷ ps) (suc i) d h = mapped ps i d (le_of_suc-le-suc h)

-- so a table has the rule of each pair at its place
pub rule_at : (t : List (Option Rule)) → RuleTable t → (d : Option Rule) (release kernel : ℕ) → 8 ≤ release → release ≤ 13 → kernel ≤ 1 → get_or t (2 * (release - 8) + kernel) d ≡ rule_of release kernel
unfolding flatten
rule_at t h d release kernel lo hi k =
    ap (λ (x : List (Option Rule)). get_or x (2 * (release - 8) + kernel) d) h
    ∙ mapped pairs (2 * (release - 8) + kernel) d (omega arith)
    ∙ ap rule_of_pair (pair_at release kernel lo hi k)

-- one of two that are the same
either : (b : Bool) (x : Option Rule) → cond b x x ≡ x
either true x = refl
either false x = refl

-- a release that is none of the six
module _ (release : ℕ) (far : (r : ℕ) → 8 ≤ r → r ≤ 13 → release ≡ r → ⊥) where
  plain_none : plain_rule release ≡ bad_request
  plain_none =
      rw (
        ne_eqb release 8 (far 8 (omega arith) (omega arith)),
        ne_eqb release 9 (far 9 (omega arith) (omega arith)),
        ne_eqb release 10 (far 10 (omega arith) (omega arith)),
        ne_eqb release 11 (far 11 (omega arith) (omega arith)),
        ne_eqb release 12 (far 12 (omega arith) (omega arith)),
        ne_eqb release 13 (far 13 (omega arith) (omega arith)),
      )

  generic_none : generic_rule release ≡ bad_request
  generic_none =
      rw (
        ne_eqb release 11 (far 11 (omega arith) (omega arith)),
        ne_eqb release 12 (far 12 (omega arith) (omega arith)),
        ne_eqb release 13 (far 13 (omega arith) (omega arith)),
      )

  pub no_release : (kernel : ℕ) → bad_request ≡ rule_of release kernel
  unfolding rule_of
  no_release kernel = sym (rw (plain_none, generic_none) (ap (cond (eqb kernel plain) bad_request) (either (eqb kernel generic) bad_request) ∙ either (eqb kernel plain) bad_request))

-- a kernel that is neither of the two
pub no_kernel : (release kernel : ℕ) → 1 < kernel → bad_request ≡ rule_of release kernel
unfolding rule_of
no_kernel release kernel h = rw (ne_eqb kernel 0 (λ e. omega arith), ne_eqb kernel 1 (λ e. omega arith))

-- every pair of numbers gets its rule from the table
pub every_pair : EveryPair
every_pair t h release kernel = go (ltb release 8) (ltb 13 release) (ltb 1 kernel) refl refl refl
  where
    go : (a b c : Bool) → ltb release 8 ≡ a → ltb 13 release ≡ b → ltb 1 kernel ≡ c → cond (a || b || c) bad_request (get_or t (2 * (release - 8) + kernel) bad_request) ≡ rule_of release kernel
    go true b c e f g = let l = ltb-true release 8 e in no_release release (λ r lo hi q. omega arith) kernel
    go false true c e f g = let l = ltb-true 13 release f in no_release release (λ r lo hi q. omega arith) kernel
    go false false true e f g = no_kernel release kernel (ltb-true 1 kernel g)
    go false false false e f g = rule_at t h bad_request release kernel (ltb-false release 8 e) (ltb-false 13 release f) (ltb-false 1 kernel g)
