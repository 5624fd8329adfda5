-- An answer tells the results apart, so the contracts, which speak of the answer, determine the result too; and its deeds differ.
-- Assumes nothing.
use mathlib.Core.Path.{◌≡◌, refl, sym, ap, ◌∙◌}
use mathlib.Core.Bool.{true, false, cond}
use Prim.Native.Nat.{ℕ, zero, suc, ◌<◌}
use native.Mathlib.Omega.{arith}
use lib.Dec.{eqb}
use Rattle.std.specs.Prelude.{Result, Ok, Err}
use borrow.Author.Tests.{eqb-true}
use Rattle.rules.specs.Answer.{Answer, accepted, refused, number_of}
use Rattle.slot_rules.specs.declared.Record.{Record}
use Rattle.slot_rules.specs.declared.Op.{Op}
use Rattle.slot_rules.specs.declared.Op.TheVariants.{Start, SetActive, Modified, Corrupted, Confirm}
use Rattle.slot_rules.specs.declared.Outcome.{Outcome}
use Rattle.slot_rules.specs.declared.Outcome.TheVariants.{Starts, Recovery, Done}
use Rattle.slot_rules.specs.declared.Refusal.{Refusal}
use Rattle.slot_rules.specs.declared.Refusal.TheVariants.{Invalid, NotInUse, Unsound}
use Rattle.slot_rules.specs.Answers.{Deed, starts, recovery, done, deed_of, number, answer_of, count_answer_of, change, refused_or}
use Rattle.slot_rules.specs.Promises.{starts_slot, renews, confirms}
use Rattle.slot_rules.proofs.Tests.{clash}

-- the case that says a deed, and the refusal that has a number
abbrev case : Deed → Outcome
case (starts k) = Starts k
case recovery = Recovery
case done = Done

case_deed : (o : Outcome) → case (deed_of o) ≡ o
case_deed (Starts k) = refl
case_deed Recovery = refl
case_deed Done = refl

abbrev refusal : ℕ → Refusal
refusal n = cond (eqb n 31) Invalid (cond (eqb n 32) NotInUse Unsound)

refusal_number : (e : Refusal) → refusal (number e) ≡ e
refusal_number Invalid = refl
refusal_number NotInUse = refl
refusal_number Unsound = refl

-- a refusal's number is not 0
pub number_some : (e : Refusal) → 0 < number e
number_some Invalid = omega arith
number_some NotInUse = omega arith
number_some Unsound = omega arith

-- the result that says an answer
abbrev result : Answer Deed → Result Outcome Refusal
result (accepted d) = Ok (case d)
result (refused n p) = Err (refusal n)

result_answer : (a : Result Outcome Refusal) → result (answer_of a) ≡ a
result_answer (Ok o) = ap Ok (case_deed o)
result_answer (Err e) = ap Err (refusal_number e)

-- two results that say the same are the same
pub answer_one : (a b : Result Outcome Refusal) → answer_of a ≡ answer_of b → a ≡ b
answer_one a b e = sym (result_answer a) ∙ ap result e ∙ result_answer b

-- and so of the count's answer
abbrev count_result : Answer ℕ → Result ℕ Refusal
count_result (accepted n) = Ok n
count_result (refused n p) = Err (refusal n)

count_result_answer : (a : Result ℕ Refusal) → count_result (count_answer_of a) ≡ a
count_result_answer (Ok n) = refl
count_result_answer (Err e) = ap Err (refusal_number e)

pub count_answer_one : (a b : Result ℕ Refusal) → count_answer_of a ≡ count_answer_of b → a ≡ b
count_answer_one a b e = sym (count_result_answer a) ∙ ap count_result e ∙ count_result_answer b

-- the slot that an answer starts, counted from 1, or 0
abbrev started : Answer Deed → ℕ
started (accepted (starts k)) = suc k
started (accepted recovery) = 0
started (accepted done) = 0
started (refused n p) = 0

-- two answers that start a slot start the same
pub starts_one : (k j : ℕ) → ◌≡◌ {A = Answer Deed} (accepted (starts k)) (accepted (starts j)) → k ≡ j
starts_one k j e = let q : suc k ≡ suc j = ap started e in omega arith

-- an answer that starts no slot is not that one starts
pub starts_none : {A : Type 0} (a : Answer Deed) (j : ℕ) → started a ≡ 0 → a ≡ accepted (starts j) → A
starts_none a j z e = absurd (let q : started a ≡ suc j = ap started e in omega (arith, q, z))

-- the answer that starts slot i
pub starts-slot : (a : Answer Deed) (i : ℕ) → starts_slot a i ≡ true → a ≡ accepted (starts i)
starts-slot (accepted (starts k)) i e = ap (λ (j : ℕ). accepted (starts j)) (sym (eqb-true i k e))
starts-slot (accepted recovery) i e = clash e refl
starts-slot (accepted done) i e = clash e refl
starts-slot (refused n p) i e = clash e refl

-- a deed is no refusal
pub not_refused : {A : Type 0} (d : Deed) (n p : ℕ) → accepted d ≡ refused n p → A
not_refused d n p e = absurd (let z : ◌≡◌ {A = ℕ} 0 1 = cc in omega arith)

-- what is refused, where only a number that is not 0 refuses, has such a number
pub refused_or_numbered : (m : ℕ) (r s : Record) (d : Deed) (n p : ℕ) → (refused_or m r (change d s)).answer ≡ refused n p → 0 < n
refused_or_numbered zero r s d n p e = not_refused d n p e
refused_or_numbered (suc m) r s d n p e = let q : suc m ≡ n = ap number_of e in omega arith

-- a refusal renews no slot, and confirms none
pub refused_renews_none : (o : Op) (n p i : ℕ) → renews o (refused n p) i ≡ false
refused_renews_none Start n p i = refl
refused_renews_none (SetActive k) n p i = refl
refused_renews_none (Modified k) n p i = refl
refused_renews_none (Corrupted k) n p i = refl
refused_renews_none Confirm n p i = refl

pub refused_confirms_none : (o : Op) (n p : ℕ) (r : Record) (i : ℕ) → confirms o (refused n p) r i ≡ false
refused_confirms_none Start n p r i = refl
refused_confirms_none (SetActive k) n p r i = refl
refused_confirms_none (Modified k) n p r i = refl
refused_confirms_none (Corrupted k) n p r i = refl
refused_confirms_none Confirm n p r i = refl
