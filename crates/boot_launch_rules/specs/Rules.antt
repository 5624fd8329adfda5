-- The rules by launch release: what each release takes with each kernel, and the table of them.
-- Assumes nothing.
use Rattle.std.specs.Prelude.{◌≡◌, Bool, true, false, ◌||◌, cond, ℕ, ◌+◌, ◌-◌, ◌*◌, ltb, eqb, get_or, Option, Some, None}
use mathlib.Core.List.{List, [], ◌∷◌, map, flatten}
use Rattle.boot_launch_rules.specs.declared.Rule.{Rule}

-- without the generic kernel, as a number
abbrev pub plain : ℕ
plain = 0

-- with "the generic kernel", as a number
abbrev pub generic : ℕ
generic = 1

-- "a bad request"
abbrev pub bad_request : Option Rule
bad_request = None

-- whether there is no rule
abbrev pub no_rule : Option Rule → Bool
no_rule None = true
no_rule (Some r) = false

-- the lowest version that is taken; 0 where there is no rule
abbrev pub lowest_of : Option Rule → ℕ
lowest_of None = 0
lowest_of (Some r) = r.lowest

-- the highest; 0 where there is no rule
abbrev pub highest_of : Option Rule → ℕ
highest_of None = 0
highest_of (Some r) = r.highest

-- whether an os version of 0 is wanted; not where there is no rule
abbrev pub wants_zero : Option Rule → Bool
wants_zero None = false
wants_zero (Some r) = r.zero

-- header versions from one to another, whatever the os version
abbrev pub versions : ℕ → ℕ → Option Rule
versions lowest highest = Some (record { lowest = lowest; highest = highest; zero = false })

-- one version "only", whatever the os version
abbrev pub only : ℕ → Option Rule
only v = versions v v

-- one version only, and it "also wants an os version of 0"
abbrev pub only_with_zero : ℕ → Option Rule
only_with_zero v = Some (record { lowest = v; highest = v; zero = true })

-- "8 only 0; 9 only 1; 10 only 2; 11 only 3; 12 and 13 versions 3 and 4 without the generic kernel"
abbrev pub plain_rule : ℕ → Option Rule
plain_rule release =
    cond (eqb release 8) (only 0)
    (cond (eqb release 9) (only 1)
    (cond (eqb release 10) (only 2)
    (cond (eqb release 11) (only 3)
    (cond (eqb release 12 || eqb release 13) (versions 3 4)
    bad_request))))

-- 11 only 3, "12 and 13 .. only 4 with it"; "Release 13 with the generic kernel also wants an os version of 0"; "The generic kernel before 11 is a bad request"
abbrev pub generic_rule : ℕ → Option Rule
generic_rule release =
    cond (eqb release 11) (only 3)
    (cond (eqb release 12) (only 4)
    (cond (eqb release 13) (only_with_zero 4)
    bad_request))

-- "Given release 8 to 13 and generic kernel or not", what it takes; any other numbers are a bad request
unfoldable pub rule_of : ℕ → ℕ → Option Rule
rule_of release kernel = cond (eqb kernel plain) (plain_rule release) (cond (eqb kernel generic) (generic_rule release) bad_request)

-- a release and a kernel
pub record Pair : Type 0 where
  pub release : ℕ
  pub kernel : ℕ

-- a release with each kernel, "plain first"
abbrev pub with_each : ℕ → List Pair
with_each release = record { release = release; kernel = plain } ∷ record { release = release; kernel = generic } ∷ []

-- "release 8 to 13"
abbrev pub releases : List ℕ
releases = 8 ∷ 9 ∷ 10 ∷ 11 ∷ 12 ∷ 13 ∷ []

-- the pairs of some releases, "in order of release, plain first"
abbrev pub pairs_of : List ℕ → List Pair
pairs_of rs = flatten (map with_each rs)

-- every pair
abbrev pub pairs : List Pair
pairs = pairs_of releases

-- the rule of a pair
abbrev pub rule_of_pair : Pair → Option Rule
rule_of_pair p = rule_of p.release p.kernel

-- "One rule table": a row for every pair, in their order
abbrev pub RuleTable : List (Option Rule) → Type 0
RuleTable t = t ≡ map rule_of_pair pairs

-- the rule that a table has for a release and a kernel, whatever their numbers: the row of the pair, and a bad request where there is no such pair
abbrev pub rule_in : List (Option Rule) → ℕ → ℕ → Option Rule
rule_in t release kernel =
    cond (ltb release 8 || ltb 13 release || ltb 1 kernel) bad_request (get_or t (2 * (release - 8) + kernel) bad_request)
