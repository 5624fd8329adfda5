-- Laws of the answer for an image, a release and a kernel: by the first refusal; and that it tells the cases of the code's
-- answer apart.
-- Assumes nothing.
use mathlib.Core.Path.{◌≡◌, refl, sym, ap, ◌∙◌}
use mathlib.Core.List.{List}
use mathlib.Core.Bool.{cond}
use Prim.Native.Nat.{ℕ, ◌≤◌, ◌<◌}
use native.Mathlib.Omega.{arith}
use lib.Dec.{eqb}
use Rattle.std.specs.Prelude.{Option, Result, Ok, Err}
use Rattle.rules.specs.Answer.{Answer, accepted, refused, number_of}
use Rattle.rules.specs.First.{first}
use Rattle.rules.proofs.Answer.{unless_refused, unless_passed}
use Rattle.boot_rules.specs.Sections.{version_in, os_in}
use Rattle.boot_rules.specs.Tests as boot
use Rattle.boot_rules.specs.declared.Layout.{Layout}
use Rattle.boot_rules.specs.declared.Refusal.TheVariants.{TooShort, Magic, HeaderSize, PageSize, SectionEnd, RecoveryOffset}
use Rattle.boot_rules.specs.declared.Refusal.TheVariants as own
use Rattle.boot_rules.proofs.Answers.{refusal_at}
use Rattle.boot_launch_rules.specs.declared.LaunchRefusal.{LaunchRefusal}
use Rattle.boot_launch_rules.specs.declared.LaunchRefusal.TheVariants.{NoRule, Image, Version, OsVersion}
use Rattle.boot_launch_rules.specs.declared.Rule.{Rule}
use Rattle.boot_launch_rules.specs.Rules.{rule_of}
use Rattle.boot_launch_rules.specs.Tests.{launch_tests, launch_refusal, answer, refusal_number, answer_of}

module _ (release kernel : ℕ) (s : List ℕ) where
  -- the first refusal, by what was found of rule, image and header
  pub refusal_found : (n own version os : ℕ) (r : Option Rule) → n ≡ first (launch_tests r own version os) → r ≡ rule_of release kernel
      → own ≡ number_of (boot.answer s) → version ≡ version_in s → os ≡ os_in s → n ≡ launch_refusal release kernel s
  refusal_found n own version os r h a b c d = h ∙ rw (a, b, c, d)

  -- a refusal is the answer
  pub refuses : (n : ℕ) → n ≡ launch_refusal release kernel s → 0 < n → refused n 0 ≡ answer release kernel s
  unfolding answer
  refuses n e h = ap (λ (k : ℕ). refused k 0) e ∙ sym (unless_refused (launch_refusal release kernel s) 0 (boot.answer s) (omega (arith, e)))

  -- where there is none, it is what the boot part answers
  pub passes : (n : ℕ) → n ≡ launch_refusal release kernel s → n ≤ 0 → boot.answer s ≡ answer release kernel s
  unfolding answer
  passes n e h = sym (unless_passed (launch_refusal release kernel s) 0 (boot.answer s) (omega (arith, e)))

-- the refusal that has a number
refusal_with : ℕ → LaunchRefusal
refusal_with n = cond (eqb n 41) NoRule (cond (eqb n 42) Version (cond (eqb n 43) OsVersion (Image (refusal_at n))))

refusal_one : (r : LaunchRefusal) → refusal_with (refusal_number r) ≡ r
unfolding refusal_with
refusal_one NoRule = refl
refusal_one (Image TooShort) = refl
refusal_one (Image Magic) = refl
refusal_one (Image own.Version) = refl
refusal_one (Image HeaderSize) = refl
refusal_one (Image PageSize) = refl
refusal_one (Image SectionEnd) = refl
refusal_one (Image RecoveryOffset) = refl
refusal_one Version = refl
refusal_one OsVersion = refl

-- the case of the code's answer that an answer is
case : Answer Layout → Result Layout LaunchRefusal
case (accepted l) = Ok l
case (refused n place) = Err (refusal_with n)

case_answer : (a : Result Layout LaunchRefusal) → case (answer_of a) ≡ a
unfolding case
case_answer (Ok l) = refl
case_answer (Err r) = ap Err (refusal_one r)

-- two cases with the same answer are the same, so a contract that fixes the answer fixes the case
pub answer_one : (a b : Result Layout LaunchRefusal) → answer_of a ≡ answer_of b → a ≡ b
answer_one a b e = sym (case_answer a) ∙ ap case e ∙ case_answer b
