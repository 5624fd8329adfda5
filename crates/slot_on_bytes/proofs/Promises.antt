-- The operations on bytes: a refusal leaves them as they were, they are refused where Start refuses them, and the count is read from them.
-- Assumes nothing.
use mathlib.Core.Path.{◌≡◌, refl, sym, ap, ◌∙◌}
use mathlib.Core.Bool.{Bool, true, false, not, cond, ◌&&◌}
use mathlib.Core.List.{List}
use Prim.Native.Nat.{ℕ}
use native.Mathlib.Omega.{arith}
use lib.Dec.{leb, eqb}
use lib.ListN.{length, get_or}
use borrow.Author.Tests.{leb-true}
use Rattle.rules.specs.First.{first}
use Rattle.rules.specs.Answer.{Answer, accepted, refused, unless, number_of}
use Rattle.slot_rules.specs.declared.Op.{Op}
use Rattle.slot_rules.specs.declared.Op.TheVariants.{Start}
use Rattle.slot_rules.specs.declared.Record.{Record}
use Rattle.slot_rules.specs.Records.{startable_in, valid, new_record}
use Rattle.slot_rules.specs.Answers.{Deed, Change, refused_or}
use Rattle.slot_rules.specs.Operations.{fresh_of, start_of, startable_of}
use Rattle.slot_rules.specs.Applied.{apply}
use Rattle.slot_rules.proofs.Tests.{and_left, and_right, and_false}
use Rattle.slot_rules.proofs.Laws.{miscounted, start_number, count_invalid, count_told, fresh_made, fresh_none}
use Rattle.slot_rules.proofs.Steps.{invalid_answer}
use Rattle.slot_rules.proofs.Promises as fresh
use Rattle.slot_rules.proofs.Promises.{lawful}
use Rattle.slot_bytes.proofs.Promises.{again, right}
use Rattle.slot_bytes.specs.Record.{record_bytes, record_of, is_record}
use Rattle.slot_on_bytes.specs.OnBytes.{bytes_after, reply_of, bytes_tests, on_bytes, fresh_bytes, bytes_refusal, tally_of, bytes_startable}
use Rattle.slot_on_bytes.specs.Promises.{Promises}

-- an answer whose number is not 0 is a refusal, and that leaves the bytes
left : (b : List ℕ) (c : Change) → ((reply_of b c).number ≡ 0 → ⊥) → (reply_of b c).bytes ≡ b
unfolding reply_of
left b c h = by c.answer h where
  by : (a : Answer Deed) → (number_of a ≡ 0 → ⊥) → bytes_after b a c.after ≡ b
  by (accepted d) g = absurd (g refl)
  by (refused n place) g = refl

kept : (o : Op) (b : List ℕ) → ((on_bytes o b).number ≡ 0 → ⊥) → (on_bytes o b).bytes ≡ b
unfolding on_bytes
kept o b h = left b (refused_or (first (bytes_tests b)) (record_of b) (apply o (record_of b))) h

fresh_kept : (n : ℕ) (b : List ℕ) → ((fresh_bytes n b).number ≡ 0 → ⊥) → (fresh_bytes n b).bytes ≡ b
unfolding fresh_bytes
fresh_kept n b h = left b (fresh_of n) h

-- bytes are refused where Start refuses them
as_start : (b : List ℕ) → bytes_refusal b ≡ (on_bytes Start b).number
unfolding on_bytes bytes_refusal reply_of
as_start b = by (is_record b) where
  by : (t : Bool) → cond (not (t && valid (record_of b))) 31 0 ≡ number_of (refused_or (cond (not t) 31 0) (record_of b) (start_of (record_of b))).answer
  by true = sym (start_number (record_of b))
  by false = refl

-- what each test says of bytes, by whether they are a record and whether that is valid
invalid : (o : Op) (b : List ℕ) → (bytes_refusal b ≡ 0 → ⊥) → (on_bytes o b).number ≡ 31
unfolding on_bytes bytes_refusal reply_of
invalid o b = by (is_record b) (valid (record_of b)) refl where
  by : (t v : Bool) → valid (record_of b) ≡ v → (◌≡◌ {A = ℕ} (cond (not (t && v)) 31 0) 0 → ⊥) → number_of (refused_or (cond (not t) 31 0) (record_of b) (apply o (record_of b))).answer ≡ 31
  by true true v h = absurd (h refl)
  by true false v h = ap (λ (c : Change). number_of c.answer) (invalid_answer (record_of b) v o)
  by false v _ h = refl

wrong_count : (b : List ℕ) → (get_or b 21 0 ≡ startable_in (record_of b) → ⊥) → bytes_refusal b ≡ 31
unfolding bytes_refusal record_of
wrong_count b h = simp (miscounted (record_of b) h, and_false (is_record b))

count_read : (b : List ℕ) → bytes_startable b ≡ record { number = bytes_refusal b; startable = cond (eqb (bytes_refusal b) 0) (get_or b 21 0) 0 }
unfolding bytes_startable bytes_refusal record_of
count_read b = by (is_record b) (valid (record_of b)) refl where
  by : (t v : Bool) → valid (record_of b) ≡ v → tally_of (unless (cond (not t) 31 0) 0 (startable_of (record_of b))) ≡ record { number = cond (not (t && v)) 31 0; startable = cond (eqb (cond (not (t && v)) 31 0) 0) (record_of b).startable 0 }
  by true true v = ap tally_of (count_told (record_of b) v)
  by true false v = ap tally_of (count_invalid (record_of b) v)
  by false v _ = refl

-- the bytes of a valid record of four slots are not refused
written : (r : Record) → length r.slots ≡ 4 → valid r ≡ true → bytes_refusal (record_bytes r) ≡ 0
unfolding bytes_refusal
written r l v = simp (right r, again r l, v)

accepted_valid : (b : List ℕ) (c : Change) → length c.after.slots ≡ 4 → valid c.after ≡ true → bytes_refusal b ≡ 0 → bytes_refusal (reply_of b c).bytes ≡ 0
unfolding reply_of
accepted_valid b c l v e = by c.answer where
  by : (a : Answer Deed) → bytes_refusal (bytes_after b a c.after) ≡ 0
  by (accepted d) = written c.after l v
  by (refused n place) = e

stays_valid : (o : Op) (b : List ℕ) → bytes_refusal b ≡ 0 → bytes_refusal (on_bytes o b).bytes ≡ 0
unfolding on_bytes bytes_refusal record_of
stays_valid o b e = by (is_record b) (valid (record_of b)) refl e where
  by : (t v : Bool) → valid (record_of b) ≡ v → ◌≡◌ {A = ℕ} (cond (not (t && v)) 31 0) 0 → bytes_refusal (reply_of b (refused_or (cond (not t) 31 0) (record_of b) (apply o (record_of b)))).bytes ≡ 0
  by true true v _ = accepted_valid b (apply o (record_of b)) (lawful o (record_of b)).places_kept ((lawful o (record_of b)).stays_valid v) e
  by true false v z = absurd (omega (arith, z))
  by false v _ z = absurd (omega (arith, z))

fresh_valid : (n : ℕ) (b : List ℕ) → (fresh_bytes n b).number ≡ 0 → bytes_refusal (fresh_bytes n b).bytes ≡ 0
unfolding fresh_bytes reply_of
fresh_valid n b e = by (leb 1 n && leb n 4) refl where
  by : (t : Bool) → (leb 1 n && leb n 4) ≡ t → bytes_refusal (fresh_bytes n b).bytes ≡ 0
  by true t =
      let h : _ = fresh.fresh_valid n (leb-true 1 n (and_left (leb 1 n) (leb n 4) t)) (leb-true n 4 (and_right (leb 1 n) (leb n 4) t)) in
      ap (λ (c : Change). bytes_refusal (bytes_after b c.answer c.after)) (fresh_made n t) ∙ written (new_record n 3) refl (sym (ap (λ (c : Change). valid c.after) (fresh_made n t)) ∙ h.1)
  by false t = absurd (omega (arith, e, ap (λ (c : Change). number_of c.answer) (fresh_none n t)))

pub promises : Promises
promises = record { kept = kept; fresh_kept = fresh_kept; as_start = as_start; invalid = invalid; wrong_count = wrong_count; count_read = count_read; stays_valid = stays_valid; fresh_valid = fresh_valid }
