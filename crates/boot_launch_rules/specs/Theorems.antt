-- What holds of the rules and of every answer.
-- Assumes nothing.
use Rattle.std.specs.Prelude.{◌≡◌, Bool, true, false, cond, List, [], ◌∷◌, map, ℕ, ◌≤◌, ◌<◌, Option}
use Rattle.rules.specs.Answer.{accepted, refused, HasNumber}
use Rattle.boot_rules.specs.declared.Layout.{Layout}
use Rattle.boot_rules.specs.Sections.{os_in}
use Rattle.boot_rules.specs.Tests as boot
use Rattle.boot_launch_rules.specs.declared.Rule.{Rule}
use Rattle.boot_launch_rules.specs.Rules.{no_rule, lowest_of, highest_of, wants_zero, Pair, pairs, rule_of, rule_of_pair, rule_in, RuleTable}
use Rattle.boot_launch_rules.specs.Tests.{outside, answer}

-- "one statement over every pair of release and kernel": a table with a row for every pair gives every release and every kernel, any numbers at all, the rule of the two
abbrev pub EveryPair : Type 0
EveryPair = (t : List (Option Rule)) → RuleTable t → (release kernel : ℕ) → rule_in t release kernel ≡ rule_of release kernel

-- of header versions, those that a rule takes
abbrev pub among : Option Rule → List ℕ → List ℕ
among r [] = []
among r (v ∷ vs) = cond (outside r v) (among r vs) (v ∷ among r vs)

-- the header versions that a pair takes, none where it is a bad request, and whether it wants an os version of 0
abbrev pub taken_by : Pair → List ℕ × Bool
taken_by p = (cond (no_rule (rule_of_pair p)) [] (among (rule_of_pair p) (0 ∷ 1 ∷ 2 ∷ 3 ∷ 4 ∷ [])), wants_zero (rule_of_pair p))

-- what the releases from 8 to 13 take, plain and then generic
abbrev pub RulesOfAll : Type 0
RulesOfAll =
    map taken_by pairs
    ≡ (0 ∷ [], false) ∷ ([], false)
    ∷ (1 ∷ [], false) ∷ ([], false)
    ∷ (2 ∷ [], false) ∷ ([], false)
    ∷ (3 ∷ [], false) ∷ (3 ∷ [], false)
    ∷ (3 ∷ 4 ∷ [], false) ∷ (4 ∷ [], false)
    ∷ (3 ∷ 4 ∷ [], false) ∷ (4 ∷ [], true)
    ∷ []

-- a header version that a rule takes
pub record Takes (r : Option Rule) (version : ℕ) : Type 0 where
  pub least : lowest_of r ≤ version
  pub most : version ≤ highest_of r

-- the answer for an image, in each case: the refusals in their order, or else what the boot part answers
pub record Ordered (release kernel : ℕ) (s : List ℕ) : Type 0 where
  -- a bad request, whatever the image
  pub bad : no_rule (rule_of release kernel) ≡ true → answer release kernel s ≡ refused 41 0
  -- any other: the image's own refusal
  pub own : no_rule (rule_of release kernel) ≡ false → (n place : ℕ) → boot.answer s ≡ refused n place → answer release kernel s ≡ refused n 0
  -- an image that the boot part accepts, of a version that is not taken, whatever its os version
  pub version : no_rule (rule_of release kernel) ≡ false → (l : Layout) → boot.answer s ≡ accepted l → (Takes (rule_of release kernel) l.version → ⊥) → answer release kernel s ≡ refused 42 0
  -- one of a version that is taken, with an os version that is not 0 where 0 is wanted
  pub os : no_rule (rule_of release kernel) ≡ false → (l : Layout) → boot.answer s ≡ accepted l → Takes (rule_of release kernel) l.version → wants_zero (rule_of release kernel) ≡ true → 0 < os_in s → answer release kernel s ≡ refused 43 0
  -- and any other is accepted: "sections stay as without the rules"
  pub same : no_rule (rule_of release kernel) ≡ false → (l : Layout) → boot.answer s ≡ accepted l → Takes (rule_of release kernel) l.version → (wants_zero (rule_of release kernel) ≡ true → os_in s ≡ 0) → answer release kernel s ≡ accepted l

-- for every release, kernel and image
abbrev pub EachOrdered : Type 0
EachOrdered = (release kernel : ℕ) (s : List ℕ) → Ordered release kernel s

-- an image that is taken with a layout: the boot part accepts it with that layout, the version is one of the rule's, and the os version is 0 where that is wanted
pub record Taken (release kernel : ℕ) (s : List ℕ) (l : Layout) : Type 0 where
  pub pair : no_rule (rule_of release kernel) ≡ false
  pub same : boot.answer s ≡ accepted l
  pub version : Takes (rule_of release kernel) l.version
  pub os : wants_zero (rule_of release kernel) ≡ true → os_in s ≡ 0

-- every image that is accepted
abbrev pub EachTaken : Type 0
EachTaken = (release kernel : ℕ) (s : List ℕ) (l : Layout) → answer release kernel s ≡ accepted l → Taken release kernel s l

-- no refusal has the number 0
abbrev pub RefusalNumbers : Type 0
RefusalNumbers = (release kernel : ℕ) (s : List ℕ) → HasNumber (answer release kernel s)
