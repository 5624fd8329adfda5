-- Laws of the tests by a rule, one for each way out of them, and what it says where none of them applies.
-- Assumes nothing.
use mathlib.Core.Path.{◌≡◌}
use mathlib.Core.Bool.{true, false}
use Prim.Native.Nat.{ℕ, ◌≤◌, ◌<◌}
use borrow.Author.Tests.{lt-ltb, le-ltb}
use Rattle.std.specs.Prelude.{Option}
use Rattle.rules.specs.First.{first}
use Rattle.boot_launch_rules.specs.declared.Rule.{Rule}
use Rattle.boot_launch_rules.specs.Rules.{no_rule}
use Rattle.boot_launch_rules.specs.Tests.{outside, unwanted, launch_tests}

module _ (r : Option Rule) (own version os : ℕ) where
  pub first_41 : no_rule r ≡ true → 41 ≡ first (launch_tests r own version os)
  unfolding launch_tests
  first_41 h = rw h

  module _ (a : no_rule r ≡ false) where
    pub first_own : 0 < own → own ≡ first (launch_tests r own version os)
    unfolding launch_tests
    first_own h = rw (a, lt-ltb 0 own h)

    module _ (b : own ≤ 0) where
      pub first_42 : outside r version ≡ true → 42 ≡ first (launch_tests r own version os)
      unfolding launch_tests
      first_42 h = rw (a, le-ltb 0 own b, h)

      module _ (c : outside r version ≡ false) where
        pub first_43 : unwanted r os ≡ true → 43 ≡ first (launch_tests r own version os)
        unfolding launch_tests
        first_43 h = rw (a, le-ltb 0 own b, c, h)

        pub first_none : unwanted r os ≡ false → 0 ≡ first (launch_tests r own version os)
        unfolding launch_tests
        first_none h = rw (a, le-ltb 0 own b, c, h)
