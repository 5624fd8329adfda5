-- What the proofs of the operations on bytes cite.
-- Assumes nothing.
use mathlib.Core.Path.{◌≡◌, refl, sym, ap, ◌∙◌}
use mathlib.Core.Bool.{Bool, true, false, not, cond, ◌&&◌}
use mathlib.Core.List.{List, [], ◌∷◌}
use Prim.Native.Nat.{ℕ, ◌≤◌}
use native.Mathlib.Omega.{arith}
use lib.Dec.{ltb}
use borrow.Author.Tests.{ltb-false}
use Rattle.rules.specs.First.{first}
use Rattle.rules.specs.Answer.{Answer, refused}
use Rattle.slot_rules.specs.declared.Record.{Record}
use Rattle.slot_rules.specs.declared.Op.{Op}
use Rattle.slot_rules.specs.declared.Op.TheVariants.{SetActive, Modified, Corrupted}
use Rattle.slot_rules.specs.Records.{valid}
use Rattle.slot_rules.specs.Answers.{Change, beside, refused_or}
use Rattle.slot_rules.specs.Operations.{fresh_of, startable_of}
use Rattle.slot_rules.specs.Applied.{apply}
use Rattle.slot_rules.proofs.Promises.{past_d}
use Rattle.slot_bytes.specs.Record.{record_of, is_record}
use Rattle.slot_on_bytes.specs.declared.Reply.{Reply}
use Rattle.slot_on_bytes.specs.declared.Tally.{Tally}
use Rattle.slot_on_bytes.specs.OnBytes.{reply_of, bytes_tests, on_bytes, fresh_bytes, bytes_refusal, tally_of, bytes_startable, clipped}

-- an operation on bytes that are a record, and on bytes that are none
module _ (o : Op) (b : List ℕ) {r : Record} {c : Change} {x : Reply} (er : r ≡ record_of b) where
  pub on_record : is_record b ≡ true → c ≡ apply o r → x ≡ reply_of b c → x ≡ on_bytes o b
  unfolding on_bytes
  on_record e ec ex = rw (e, ex, ec, er)

  pub on_none : is_record b ≡ false → c ≡ beside (refused 31 0) r → x ≡ reply_of b c → x ≡ on_bytes o b
  unfolding on_bytes
  on_none e ec ex = rw (e, ex, ec, er)

-- the count's answer from bytes that are a record and bytes that are none
module _ (b : List ℕ) {x : Tally} where
  pub counted_record : {r : Record} {a : Answer ℕ} → r ≡ record_of b → is_record b ≡ true → a ≡ startable_of r → x ≡ tally_of a → x ≡ bytes_startable b
  unfolding bytes_startable
  counted_record er e ea ex = rw (e, ex, ea, er)

  pub counted_none : is_record b ≡ false → x ≡ tally_of (refused 31 0) → x ≡ bytes_startable b
  unfolding bytes_startable
  counted_none e ex = rw (e, ex)

-- what treats all numbers from m on alike treats a number as it treats the byte
same_clipped : {A : Type 0} (f : ℕ → A) (z : A) (m : ℕ) → m ≤ 255 → ((n : ℕ) → m ≤ n → f n ≡ z) → (n : ℕ) → f (clipped n) ≡ f n
same_clipped f z m l alike n = go (ltb n 256) refl where
  go : (t : Bool) → ltb n 256 ≡ t → f (cond t n 255) ≡ f n
  go true e = refl
  go false e = let h : 256 ≤ n = ltb-false n 256 e in alike 255 l ∙ sym (alike n (omega (arith, h, l)))

module _ (b : List ℕ) (n : ℕ) {k : ℕ} {x : Reply} (p : k ≡ clipped n) where
  -- an operation o on a slot, which refuses all numbers past d alike
  slot_clipped : (o : ℕ → Op) → ((i : ℕ) → 4 ≤ i → apply (o i) (record_of b) ≡ apply (o 4) (record_of b)) → x ≡ on_bytes (o k) b → x ≡ on_bytes (o n) b
  unfolding on_bytes
  slot_clipped o alike e =
      let f : ℕ → Change = λ i. apply (o i) (record_of b) in
      e ∙ ap (λ (c : Change). reply_of b (refused_or (first (bytes_tests b)) (record_of b) c)) (ap f p ∙ same_clipped f (f 4) 4 (omega arith) alike n)

  pub active_clipped : x ≡ on_bytes (SetActive k) b → x ≡ on_bytes (SetActive n) b
  active_clipped = slot_clipped SetActive (past_d.set_active (record_of b))

  pub modified_clipped : x ≡ on_bytes (Modified k) b → x ≡ on_bytes (Modified n) b
  modified_clipped = slot_clipped Modified (past_d.modified (record_of b))

  pub corrupted_clipped : x ≡ on_bytes (Corrupted k) b → x ≡ on_bytes (Corrupted n) b
  corrupted_clipped = slot_clipped Corrupted (past_d.corrupted (record_of b))

  pub fresh_clipped : {c : Change} → c ≡ fresh_of k → x ≡ reply_of b c → x ≡ fresh_bytes n b
  unfolding fresh_bytes
  fresh_clipped ec ex = ex ∙ ap (reply_of b) (ec ∙ ap fresh_of p ∙ same_clipped fresh_of (fresh_of 5) 5 (omega arith) (λ i h. past_d.fresh i (omega (arith, h))) n)

-- what is said of bytes, by its tests
module _ (b : List ℕ) {r : Record} {a v : Bool} (er : r ≡ record_of b) (ea : a ≡ is_record b) (ev : v ≡ valid r) where
  pub refused-by : (t : Bool) → (a && v) ≡ t → cond (not t) 31 0 ≡ bytes_refusal b
  unfolding bytes_refusal
  refused-by t e =
      let q : (a && v) ≡ (is_record b && valid (record_of b)) = rw (ea, ev, er) in
      ap (λ (u : Bool). cond (not u) 31 0) (sym e ∙ q)

-- what is handed over of a reply is what an equal one says
pub handed : (x y : Reply) {n : ℕ} {a b : List ℕ} → (n ≡ x.number) × (a ≡ x.answer) × (b ≡ x.bytes) → x ≡ y → (n ≡ y.number) × (a ≡ y.answer) × (b ≡ y.bytes)
handed x y p e = (p.0 ∙ ap (λ r. r.number) e, p.1 ∙ ap (λ r. r.answer) e, p.2 ∙ ap (λ r. r.bytes) e)

-- what is handed over of a tally is what an equal one says
pub told : (x y : Tally) → x ≡ y → (x.number ≡ y.number) × (x.startable ∷ [] ≡ y.startable ∷ [])
told x y e = (ap (λ t. t.number) e, ap (λ t. t.startable ∷ []) e)
