-- An answer tells the results apart, so the contracts, which speak of the answer, determine the result too.
-- Assumes nothing.
use mathlib.Core.Path.{◌≡◌, refl, sym, ap, ◌∙◌}
use mathlib.Core.Bool.{cond}
use Prim.Native.Nat.{ℕ}
use lib.Dec.{eqb}
use Rattle.std.specs.Prelude.{Result, Ok, Err}
use Rattle.rules.specs.Answer.{Answer, accepted, refused}
use Rattle.slot_rules.specs.declared.Refusal.TheVariants.{Invalid, NotInUse, Unsound}
use Rattle.boot_rules.specs.declared.Refusal.TheVariants.{TooShort, Magic, Version, HeaderSize, PageSize, SectionEnd, RecoveryOffset}
use Rattle.starter_rules.specs.declared.Outcome.{Outcome}
use Rattle.starter_rules.specs.declared.Outcome.TheVariants.{Starts, Recovery}
use Rattle.starter_rules.specs.declared.StartRefusal.{StartRefusal}
use Rattle.starter_rules.specs.declared.StartRefusal.TheVariants.{Slots, Image, Misc, Line}
use Rattle.starter_rules.specs.Starter.{Deed, starts, recovery, deed_of, refusal_number, answer_of}

-- the case that says a deed, and the refusal that has a number
abbrev case : Deed → Outcome
case (starts k l n) = Starts k l n
case recovery = Recovery

case_deed : (o : Outcome) → case (deed_of o) ≡ o
case_deed (Starts k l n) = refl
case_deed Recovery = refl

abbrev refusal : ℕ → StartRefusal
refusal n =
    cond (eqb n 51) Misc
    (cond (eqb n 52) Line
    (cond (eqb n 31) (Slots Invalid)
    (cond (eqb n 32) (Slots NotInUse)
    (cond (eqb n 33) (Slots Unsound)
    (cond (eqb n 21) (Image TooShort)
    (cond (eqb n 22) (Image Magic)
    (cond (eqb n 23) (Image Version)
    (cond (eqb n 24) (Image HeaderSize)
    (cond (eqb n 25) (Image PageSize)
    (cond (eqb n 26) (Image SectionEnd)
    (Image RecoveryOffset)))))))))))

of_number : (e : StartRefusal) → refusal (refusal_number e) ≡ e
of_number (Slots Invalid) = refl
of_number (Slots NotInUse) = refl
of_number (Slots Unsound) = refl
of_number (Image TooShort) = refl
of_number (Image Magic) = refl
of_number (Image Version) = refl
of_number (Image HeaderSize) = refl
of_number (Image PageSize) = refl
of_number (Image SectionEnd) = refl
of_number (Image RecoveryOffset) = refl
of_number Misc = refl
of_number Line = refl

-- the result that says an answer
abbrev result : Answer Deed → Result Outcome StartRefusal
result (accepted d) = Ok (case d)
result (refused n place) = Err (refusal n)

result_answer : (a : Result Outcome StartRefusal) → result (answer_of a) ≡ a
result_answer (Ok o) = ap Ok (case_deed o)
result_answer (Err e) = ap Err (of_number e)

-- two results that say the same are the same
pub answer_one : (a b : Result Outcome StartRefusal) → answer_of a ≡ answer_of b → a ≡ b
answer_one a b e = sym (result_answer a) ∙ ap result e ∙ result_answer b
