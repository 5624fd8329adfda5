-- What holds of every answer: the refusals in their order, what an accepted image is, and that no refusal has the number 0.
-- Assumes nothing.
use mathlib.Core.Path.{◌≡◌, refl, sym, ap, ◌∙◌, subst}
use mathlib.Core.Bool.{Bool, true, false, ◌&&◌, not}
use mathlib.Core.List.{List}
use Prim.Native.Nat.{ℕ, zero, suc, ◌≤◌, ◌<◌}
use native.Mathlib.Omega.{arith}
use lib.Dec.{lit<, ltb, eqb}
use borrow.Author.Tests.{ltb-false, le-ltb, eq-eqb, ne_eqb}
use Rattle.std.specs.Prelude.{Option}
use Rattle.rules.specs.Answer.{accepted, refused, number_of, HasNumber}
use Rattle.rules.proofs.Answer.{unless_accepted, unless_number}
use Rattle.rules.proofs.Tests.{or_left, or_right}
use Rattle.boot_rules.specs.declared.Layout.{Layout}
use Rattle.boot_rules.specs.Sections.{version_in, os_in}
use Rattle.boot_rules.specs.Tests as boot
use Rattle.boot_rules.proofs.Answers as boots
use Rattle.boot_launch_rules.specs.declared.Rule.{Rule}
use Rattle.boot_launch_rules.specs.Rules.{no_rule, lowest_of, highest_of, wants_zero, rule_of}
use Rattle.boot_launch_rules.specs.Tests.{outside, unwanted, launch_refusal, answer}
use Rattle.boot_launch_rules.specs.Theorems.{Takes, EachOrdered, EachTaken, RefusalNumbers}
use Rattle.boot_launch_rules.proofs.Tests.{first_41, first_own, first_42, first_43, first_none}
use Rattle.boot_launch_rules.proofs.Answers.{refuses, passes}

-- an image that the boot part accepts: it has no refusal of its own, and its version is the layout's
module _ (s : List ℕ) (l : Layout) (e : boot.answer s ≡ accepted l) where
  own_none : number_of (boot.answer s) ≤ 0
  own_none = let z : number_of (boot.answer s) ≡ 0 = ap number_of e in omega (arith, z)

  version_of : version_in s ≡ l.version
  version_of = ap (λ (y : Layout). y.version) (boots.passed s l e).layout

-- a test that cannot hold fails, and one that cannot fail holds
fails : (b : Bool) → (b ≡ true → ⊥) → b ≡ false
fails true h = absurd (h refl)
fails false h = refl

holds : (b : Bool) → (b ≡ false → ⊥) → b ≡ true
holds true h = refl
holds false h = absurd (h refl)

clash : true ≡ false → ⊥
clash e = let z : ◌≡◌ {A = ℕ} 0 1 = cc in omega arith

-- what the tests of version and os version say
module _ (r : Option Rule) where
  inside : (v : ℕ) → outside r v ≡ false → Takes r v
  inside v e =
      record {
        least = ltb-false v (lowest_of r) (or_left (ltb v (lowest_of r)) (ltb (highest_of r) v) e);
        most = ltb-false (highest_of r) v (or_right (ltb v (lowest_of r)) (ltb (highest_of r) v) e);
      }

  not_outside : (v : ℕ) → Takes r v → outside r v ≡ false
  not_outside v t = rw (le-ltb v (lowest_of r) t.least, le-ltb (highest_of r) v t.most)

  not_unwanted : (os : ℕ) → ((wants_zero r) ≡ true → os ≡ 0) → unwanted r os ≡ false
  not_unwanted os f = go (wants_zero r) refl
    where
      go : (z : Bool) → (wants_zero r) ≡ z → (z && not (eqb os 0)) ≡ false
      go true e = rw (eq-eqb os 0 (f e))
      go false e = refl

  is_unwanted : (os : ℕ) → (wants_zero r) ≡ true → 0 < os → unwanted r os ≡ true
  is_unwanted os z h = rw (z, ne_eqb os 0 (λ e. omega arith))

-- the refusals in their order
pub each_ordered : EachOrdered
each_ordered release kernel s =
    record {
      bad = λ b. sym (refuses release kernel s 41 (first_41 _ _ _ _ b) (lit< tt));
      own = λ b n place e.
          let h : 0 < n = subst HasNumber e (boots.refusal_numbers s) in
          let z : number_of (boot.answer s) ≡ n = ap number_of e in
          sym (refuses release kernel s n (sym z ∙ first_own _ _ _ _ b (omega (arith, h, z))) h);
      version = λ b l e t. sym (refuses release kernel s 42 (first_42 _ _ _ _ b (own_none s l e) (there l e (holds _ (λ o. t (inside (rule_of release kernel) l.version o))))) (lit< tt));
      os = λ b l e t z h. sym (refuses release kernel s 43 (first_43 _ _ _ _ b (own_none s l e) (there l e (not_outside (rule_of release kernel) l.version t)) (is_unwanted (rule_of release kernel) (os_in s) z h)) (lit< tt));
      same = λ b l e t f. sym (passes release kernel s 0 (first_none _ _ _ _ b (own_none s l e) (there l e (not_outside (rule_of release kernel) l.version t)) (not_unwanted (rule_of release kernel) (os_in s) f)) (omega arith)) ∙ e;
    }
  where
    there : (l : Layout) → boot.answer s ≡ accepted l → {x : Bool} → outside (rule_of release kernel) l.version ≡ x → outside (rule_of release kernel) (version_in s) ≡ x
    there l e v = ap (outside (rule_of release kernel)) (version_of s l e) ∙ v

-- what an accepted image is: in every other case there is a refusal
pub each_taken : EachTaken
unfolding answer
each_taken release kernel s l e =
    record {
      pair = good;
      same = found;
      version = taken;
      os = λ z. none z (os_in s) refl;
    }
  where
    refused_not : (n : ℕ) → 0 < n → answer release kernel s ≡ refused n 0 → ⊥
    refused_not n h q = let z : n ≡ 0 = sym (ap number_of q) ∙ ap number_of e in omega (arith, h, z)

    good : no_rule (rule_of release kernel) ≡ false
    good = fails _ (λ b. refused_not 41 (lit< tt) ((each_ordered release kernel s).bad b))

    found : boot.answer s ≡ accepted l
    found = (unless_accepted (launch_refusal release kernel s) 0 (boot.answer s) l e).1

    taken : Takes (rule_of release kernel) l.version
    taken =
        inside (rule_of release kernel) l.version
        (fails _ (λ o. refused_not 42 (lit< tt) ((each_ordered release kernel s).version good l found (λ t. clash (sym o ∙ not_outside (rule_of release kernel) l.version t)))))

    none : wants_zero (rule_of release kernel) ≡ true → (n : ℕ) → os_in s ≡ n → os_in s ≡ 0
    none z zero q = q
    none z (suc n) q = absurd (refused_not 43 (lit< tt) ((each_ordered release kernel s).os good l found taken z (omega (arith, q))))

-- no refusal has the number 0
pub refusal_numbers : RefusalNumbers
unfolding answer
refusal_numbers release kernel s = unless_number (launch_refusal release kernel s) 0 (boot.answer s) (boots.refusal_numbers s)
