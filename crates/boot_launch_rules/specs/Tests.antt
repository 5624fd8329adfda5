-- The tests of a boot image for a launch release in their order, and the answer.
-- Assumes nothing.
use Rattle.std.specs.Prelude.{Bool, ◌&&◌, ◌||◌, not, List, [], ◌∷◌, ℕ, ltb, eqb, Option, Result, Ok, Err}
use Rattle.rules.specs.Answer.{Answer, accepted, refused, unless, number_of}
use Rattle.rules.specs.First.{first}
use Rattle.boot_rules.specs.declared.Layout.{Layout}
use Rattle.boot_rules.specs.Sections.{version_in, os_in}
use Rattle.boot_rules.specs.Tests as boot
use Rattle.boot_launch_rules.specs.declared.Rule.{Rule}
use Rattle.boot_launch_rules.specs.declared.LaunchRefusal.{LaunchRefusal}
use Rattle.boot_launch_rules.specs.declared.LaunchRefusal.TheVariants.{NoRule, Image, Version, OsVersion}
use Rattle.boot_launch_rules.specs.Rules.{no_rule, lowest_of, highest_of, wants_zero, rule_of}

-- "version not allowed"
abbrev pub outside : Option Rule → ℕ → Bool
outside r version = ltb version (lowest_of r) || ltb (highest_of r) version

-- "also wants an os version of 0": it is wanted, and any bit of the field is set
abbrev pub unwanted : Option Rule → ℕ → Bool
unwanted r os = wants_zero r && not (eqb os 0)

-- "Refusals: 41 bad release or pair, then 01's boot refusals, then 42 version not allowed, 43 os version": the tests by a rule of an image with this refusal of its own, 0 where there is none, this version and this os version
unfoldable pub launch_tests : Option Rule → ℕ → ℕ → ℕ → List (Bool × ℕ)
launch_tests r own version os =
    (no_rule r, 41)
    ∷ (ltb 0 own, own)
    ∷ (outside r version, 42)
    ∷ (unwanted r os, 43)
    ∷ []

-- the first refusal of an image for a release and a kernel, 0 where there is none
abbrev pub launch_refusal : ℕ → ℕ → List ℕ → ℕ
launch_refusal release kernel s = first (launch_tests (rule_of release kernel) (number_of (boot.answer s)) (version_in s) (os_in s))

-- the answer for an image: the first refusal, or else what the boot part answers, "sections stay as without the rules"
unfoldable pub answer : ℕ → ℕ → List ℕ → Answer Layout
answer release kernel s = unless (launch_refusal release kernel s) 0 (boot.answer s)

-- the number of each refusal
abbrev pub refusal_number : LaunchRefusal → ℕ
refusal_number NoRule = 41
refusal_number (Image own) = boot.refusal_number own
refusal_number Version = 42
refusal_number OsVersion = 43

-- "All other refusals carry 0": each case of the code's answer, with its number and place or its layout
abbrev pub answer_of : Result Layout LaunchRefusal → Answer Layout
answer_of (Ok l) = accepted l
answer_of (Err r) = refused (refusal_number r) 0
