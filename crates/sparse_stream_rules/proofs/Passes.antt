-- Passes: pieces one after the other.
-- Assumes nothing.
use mathlib.Core.Path.{◌≡◌, refl, sym, ap, ◌∙◌}
use mathlib.Core.Bool.{Bool, true, false, cond}
use mathlib.Core.Option.{Option}
use mathlib.Core.List.{List, [], ◌∷◌, ◌++◌, flatten, append-nil, append_assoc}
use Prim.Native.Nat.{ℕ, ◌+◌, ◌≤◌, ◌<◌}
use native.Mathlib.Omega.{arith}
use lib.Dec.{ltb, eqb}
use lib.ListN.{length, replicate, length-append, length-replicate}
use borrow.Author.Tests.{ltb-true, ltb-false, lt-ltb, le-ltb, eq-eqb}
use Rattle.rules.specs.First.{first}
use Rattle.sparse_rules.specs.Header.{header_tests}
use Rattle.sparse_rules.specs.Answers.{answer}
use Rattle.sparse_store_rules.specs.Store.{over}
use Rattle.sparse_store_rules.proofs.Over.{length_over, over_then}
use Rattle.sparse_stream_rules.specs.declared.Pass.{Pass}
use Rattle.sparse_stream_rules.specs.Known.{tested, header_ends, refuses, due, tested_number}
use Rattle.sparse_stream_rules.specs.Steps.{header_number, opened, fed}
use Rattle.sparse_stream_rules.specs.State.{stuck, stop_or}
use Rattle.sparse_stream_rules.specs.Laid.{stores}
use Rattle.sparse_stream_rules.specs.States.{begun, called, leaves, piece_tests, lent_tests, finish_tests, lent_finish_tests, answer_now}
use Rattle.sparse_stream_rules.specs.Passes.{judge_call, store_call, store_leaves, judge_calls, store_calls, store_left, judge_answer, store_answer, store_after, Due}
use Rattle.sparse_stream_rules.proofs.Stretches.{fed_stuck, stores_stuck}
use Rattle.sparse_stream_rules.proofs.Taken.{stores_length, called_room}
use Rattle.sparse_stream_rules.proofs.Calls.{called_again, called_on, leaves_again, leaves_on}
use Rattle.sparse_stream_rules.proofs.Standing.{Laying, After, goes, stops}
use Rattle.sparse_stream_rules.proofs.EveryByte.{Total, opening, shut, chunked, total, small_front}
use Rattle.sparse_stream_rules.proofs.Meaning.{starts, answered, stored, short_tests, long_tests}
use Rattle.fields_rules.specs.Number.{Bytes}

-- once an image may be long enough, the first call's test changes nothing
pub opened_same : (x : Pass) → 28 ≤ x.told.length → opened x ≡ x
unfolding opened header_number
opened_same x l = go (eqb x.come.bytes 0)
  where
    go : (y : Bool)
        → stop_or (cond y (tested_number (tested 0 header_ends (header_tests x.kept.file x.told.length x.told.room))) 0) 0 x x ≡ x
    go true = rw (long_tests x.kept.file x.told.length x.told.room l)
    go false = refl

-- cells laid over a partition from byte 0
abbrev pub onto : List ℕ → List (Option ℕ) → List ℕ
onto p cs = over cs p

-- one law of laying is that of a whole partition
pub onto_lays : (room : ℕ) (p : List ℕ) → length p ≡ room → Laying room (onto p) 0
onto_lays room p e = record { then = λ cs ds l. sym (over_then cs ds p); size = λ cs. length_over cs p ∙ e }

module _ (len room : ℕ) (p : List ℕ) (size : length p ≡ room) where
  -- what is known of a state that is not refused
  pub record Tracked (x : Pass) (s : List ℕ) : Type 0 where
    pub told : x.told.length ≡ len
    pub came : x.come.bytes ≡ length s
    pub long : 28 ≤ len

  -- a state that is not refused
  pub tracked : (x : Pass) (s q : List ℕ) → Total len room (onto p) 0 x s q → x.refusal.number ≡ 0 → Tracked x s
  tracked x s q (opening o) n = record { told = o.told; came = o.came; long = go (ltb len 28) refl }
    where
      go : (y : Bool) → ltb len 28 ≡ y → 28 ≤ len
      go true e =
          let z : tested_number (refuses 1) ≡ 0 = sym (ap tested_number (short_tests s (length s) len room (ltb-true len 28 e)))
          ∙ o.tests in absurd (omega arith)
      go false e = ltb-false len 28 e
  tracked x s q (shut t) n = absurd (omega (arith, t.number))
  tracked x s q (chunked c) n = go c.after
    where
      go : After len room (onto p) 0 c.h x s q → Tracked x s
      go (goes ks b i) = record { told = b.told; came = b.came; long = c.facts.known }
      go (stops ks t) = absurd (omega (arith, t.number))

  -- a pass before its first call, or after some
  data Held (x : Pass) (s q : List ℕ) : Type 0 where
    fresh : x ≡ begun len room → s ≡ [] → q ≡ p → Held x s q
    held : Total len room (onto p) 0 x s q → Held x s q

  stuck_by : (x : Pass) → 0 < x.refusal.number → stuck x ≡ true
  unfolding stuck
  stuck_by x h = rw (lt-ltb 0 x.refusal.number h)

  -- the tests of a call pass where the state is not refused
  abbrev Pass-tests : List (Bool × ℕ) → Pass → Type 0
  Pass-tests ts x = x.refusal.number ≤ 0 → first ts ≡ 0

  begun_free : (begun len room).refusal.number ≤ 0
  unfolding begun
  begun_free = omega arith

  held_on : (ts : List (Bool × ℕ)) (x : Pass) (s q c : List ℕ) → Held x s q → Pass-tests ts x → length s + length c ≤ len → Bytes (s ++ c)
      → Held (called ts x (fed (opened x) c)) (s ++ c) (leaves ts x q (stores (opened x) c q))
  held_on ts x s q c (fresh ex es eq) t l small =
      let z : x.refusal.number ≤ 0 = rw ex begun_free in
      let e = called_on ts x z (fed (opened x) c) (fed (opened x) c) (t z) refl in
      let g = leaves_on ts x z q (stores (opened x) c q) (stores (opened x) c q) (t z) refl in
      rw (← e, ← g)
      (rw (ex, es, eq) (held (total len room (onto p) 0 (onto_lays room p size) c (opened (begun len room)) [] p (starts len room (onto p) 0 (omega arith)) (rw es at l) (rw es at small))))
  held_on ts x s q c (held h) t l small = go (ltb 0 x.refusal.number) refl
    where
      go : (y : Bool) → ltb 0 x.refusal.number ≡ y
          → Held (called ts x (fed (opened x) c)) (s ++ c) (leaves ts x q (stores (opened x) c q))
      go true e =
          let n : 0 < x.refusal.number = ltb-true 0 x.refusal.number e in
          let k = stuck_by x n in
          rw (← (called_again ts x (fed (opened x) c) n), ← (leaves_again ts x q (stores (opened x) c q) n))
          (held (rw (fed_stuck x c k, stores_stuck x c q k) at (total len room (onto p) 0 (onto_lays room p size) c x s q h l small)))
      go false e =
          let z : x.refusal.number ≤ 0 = ltb-false 0 x.refusal.number e in
          let k = tracked x s q h (omega arith) in
          let o : opened x ≡ x = opened_same x (omega (arith, k.told, k.long)) in
          let a : fed x c ≡ called ts x (fed (opened x) c) = called_on ts x z (fed x c) (fed (opened x) c) (t z) (rw o) in
          let b : stores x c q ≡ leaves ts x q (stores (opened x) c q) =
          leaves_on ts x z q (stores (opened x) c q) (stores x c q) (t z) (rw o) in
          rw (← a, ← b) (held (total len room (onto p) 0 (onto_lays room p size) c x s q h l small))

  -- the tests pass where no more bytes come than announced
  piece_passes : (x : Pass) (s q c : List ℕ) → Held x s q → length s + length c ≤ len → Pass-tests (piece_tests x (length c)) x
  unfolding begun
  piece_passes x s q c (fresh ex es eq) l z = rw ex (rw (le-ltb len (0 + length c) (omega (arith, ap length es))))
  piece_passes x s q c (held h) l z =
      let k = tracked x s q h (omega arith) in rw (le-ltb x.told.length (x.come.bytes + length c) (omega (arith, k.told, k.came)))

  lent_passes : (x : Pass) (s q c : List ℕ) (lent : ℕ) → Held x s q → lent ≡ x.told.room → length s + length c ≤ len
      → Pass-tests (lent_tests x lent (length c)) x
  unfolding begun
  lent_passes x s q c lent (fresh ex es eq) r l z =
      rw (eq-eqb lent x.told.room r) (rw ex (rw (le-ltb len (0 + length c) (omega (arith, ap length es)))))
  lent_passes x s q c lent (held h) r l z =
      let k = tracked x s q h (omega arith) in
      rw (eq-eqb lent x.told.room r, le-ltb x.told.length (x.come.bytes + length c) (omega (arith, k.told, k.came)))

  -- ---- pieces

  leaves_length : (ts : List (Bool × ℕ)) (x : Pass) (q r : List ℕ) → length r ≡ length q → length (leaves ts x q r) ≡ length q
  unfolding leaves
  leaves_length ts x q r e = go (ltb 0 x.refusal.number) (ltb 0 (first ts))
    where
      go : (y z : Bool) → length (cond y q (cond z q r)) ≡ length q
      go true z = refl
      go false true = refl
      go false false = e

  front : (s c r : List ℕ) → Bytes (s ++ (c ++ r)) → Bytes (s ++ c)
  front s c r g = small_front (s ++ c) r (rw (append_assoc s c r) g)

  held_judge : (cs : List (List ℕ)) (x : Pass) (s q : List ℕ) → Held x s q → length s + length (flatten cs) ≤ len → Bytes (s ++ flatten cs)
      → (r : List ℕ) × Held (judge_calls x cs) (s ++ flatten cs) r
  unfolding flatten
  held_judge [] x s q h l small = (q, rw (append-nil s) h)
  held_judge (c ∷ cs) x s q h l small =
      let n : length (c ++ flatten cs) ≡ length c + length (flatten cs) = length-append c (flatten cs) in
      let o : length (s ++ c) ≡ length s + length c = length-append s c in
      let e : (s ++ c) ++ flatten cs ≡ s ++ (c ++ flatten cs) = append_assoc s c (flatten cs) in
      let g =
      held_on (piece_tests x (length c)) x s q c h (piece_passes x s q c h (omega arith)) (omega arith) (front s c (flatten cs) small) in
      let i =
      held_judge cs (judge_call x c) (s ++ c) (leaves (piece_tests x (length c)) x q (stores (opened x) c q)) g (omega arith) (rw e small) in
      (i.0, rw (← e) i.1)

  held_store : (cs : List (List ℕ)) (x : Pass) (s q : List ℕ) → Held x s q → x.told.room ≡ room → length q ≡ room
      → length s + length (flatten cs) ≤ len → Bytes (s ++ flatten cs)
      → Held (store_calls x q cs) (s ++ flatten cs) (store_left x q cs) × ((store_calls x q cs).told.room ≡ room) × (length (store_left x q cs) ≡ room)
  unfolding flatten
  held_store [] x s q h r k l small = (rw (append-nil s) h, r, k)
  held_store (c ∷ cs) x s q h r k l small =
      let n : length (c ++ flatten cs) ≡ length c + length (flatten cs) = length-append c (flatten cs) in
      let o : length (s ++ c) ≡ length s + length c = length-append s c in
      let e : (s ++ c) ++ flatten cs ≡ s ++ (c ++ flatten cs) = append_assoc s c (flatten cs) in
      let g =
      held_on (lent_tests x (length q) (length c)) x s q c h (lent_passes x s q c (length q) h (k ∙ sym r) (omega arith)) (omega arith)
      (front s c (flatten cs) small) in
      let i =
      held_store cs (store_call x (length q) c) (s ++ c) (store_leaves x c q) g (called_room (lent_tests x (length q) (length c)) x c ∙ r)
      (leaves_length (lent_tests x (length q) (length c)) x q (stores (opened x) c q) (stores_length (opened x) c q) ∙ k) (omega arith)
      (rw e small) in
      (rw (← e) i.0, i.1, i.2)

  -- ---- the end

  finishes : (ts : List (Bool × ℕ)) (x : Pass) (s q : List ℕ) → Held x s q → Pass-tests ts x → length s ≡ len
      → answer_now (called ts x (opened x)) ≡ answer s len room
  finishes ts x s q (fresh ex es eq) t l =
      let z : x.refusal.number ≤ 0 = rw ex begun_free in
      let e = called_on ts x z (opened x) (opened x) (t z) refl in
      rw (← e)
      (rw (ex, es) (answered len room (onto p) 0 (opened (begun len room)) [] p (sym (ap length es) ∙ l) (starts len room (onto p) 0 (omega arith))))
  finishes ts x s q (held h) t l = go (ltb 0 x.refusal.number) refl
    where
      go : (y : Bool) → ltb 0 x.refusal.number ≡ y → answer_now (called ts x (opened x)) ≡ answer s len room
      go true e =
          let n : 0 < x.refusal.number = ltb-true 0 x.refusal.number e in
          rw (← (called_again ts x (opened x) n)) (answered len room (onto p) 0 x s q l h)
      go false e =
          let z : x.refusal.number ≤ 0 = ltb-false 0 x.refusal.number e in
          let k = tracked x s q h (omega arith) in
          let o : opened x ≡ x = opened_same x (omega (arith, k.told, k.long)) in
          let a : x ≡ called ts x (opened x) = called_on ts x z x (opened x) (t z) (sym o) in
          rw (← a) (answered len room (onto p) 0 x s q l h)

  end_passes : (x : Pass) (s q : List ℕ) → Held x s q → length s ≡ len → Pass-tests (finish_tests x) x
  unfolding begun
  end_passes x s q (fresh ex es eq) l z = rw ex (rw (le-ltb 0 len (omega (arith, ap length es))))
  end_passes x s q (held h) l z =
      let k = tracked x s q h (omega arith) in rw (le-ltb x.come.bytes x.told.length (omega (arith, k.told, k.came)))

  lent_end_passes : (x : Pass) (s q : List ℕ) (lent : ℕ) → Held x s q → lent ≡ x.told.room → length s ≡ len
      → Pass-tests (lent_finish_tests x lent) x
  unfolding begun
  lent_end_passes x s q lent (fresh ex es eq) r l z =
      rw (eq-eqb lent x.told.room r) (rw ex (rw (le-ltb 0 len (omega (arith, ap length es)))))
  lent_end_passes x s q lent (held h) r l z =
      let k = tracked x s q h (omega arith) in
      rw (eq-eqb lent x.told.room r, le-ltb x.come.bytes x.told.length (omega (arith, k.told, k.came)))

  due_stored : (x : Pass) (s q : List ℕ) → Held x s q → length s ≤ len → q ≡ over (due s len room) p
  due_stored x s q (fresh ex es eq) l =
      eq ∙ rw es (stored len room (onto p) 0 (opened (begun len room)) [] p (omega arith) (starts len room (onto p) 0 (omega arith)))
  due_stored x s q (held h) l = stored len room (onto p) 0 x s q l h

  begun_room : (begun len room).told.room ≡ room
  unfolding begun
  begun_room = refl

-- ---- the promises

-- a partition of so many bytes
abbrev pub blank : ℕ → List ℕ
blank room = replicate room 0

-- its length
pub blank_length : (room : ℕ) → length (blank room) ≡ room
blank_length room = length-replicate room 0

-- the judging pass's answer is the whole form's
pub judging : (room : ℕ) (cs : List (List ℕ)) → Bytes (flatten cs)
    → judge_answer (length (flatten cs)) room cs ≡ answer (flatten cs) (length (flatten cs)) room
judging room cs small =
    let h =
    held_judge (length (flatten cs)) room (blank room) (blank_length room) cs (begun (length (flatten cs)) room) [] (blank room)
    (fresh refl refl refl) (omega arith) small in
    finishes (length (flatten cs)) room (blank room) (blank_length room) (finish_tests (judge_calls (begun (length (flatten cs)) room) cs))
    (judge_calls (begun (length (flatten cs)) room) cs) (flatten cs) h.0 h.1
    (end_passes (length (flatten cs)) room (blank room) (blank_length room) (judge_calls (begun (length (flatten cs)) room) cs) (flatten cs) h.0 h.1 refl)
    refl

module _ (len : ℕ) (p : List ℕ) (cs : List (List ℕ)) (small : Bytes (flatten cs)) where
  abbrev last : Pass
  last = store_calls (begun len (length p)) p cs

  all_held : length (flatten cs) ≤ len
      → Held len (length p) p refl last (flatten cs) (store_after len p cs) × (last.told.room ≡ length p) × (length (store_after len p cs) ≡ length p)
  all_held l =
      held_store len (length p) p refl cs (begun len (length p)) [] p (fresh refl refl refl) (begun_room len (length p) p refl) refl
      (omega arith) small

  -- what a storing pass leaves is what is due
  pub all_due : length (flatten cs) ≤ len → Due len p cs
  all_due l = due_stored len (length p) p refl last (flatten cs) (store_after len p cs) (all_held l).0 l

  -- and its answer the whole form's
  pub storing : length (flatten cs) ≡ len → store_answer len p cs ≡ answer (flatten cs) len (length p)
  storing e =
      let h = all_held (omega arith) in
      finishes len (length p) p refl (lent_finish_tests last (length p)) last (flatten cs) (store_after len p cs) h.0
      (lent_end_passes len (length p) p refl last (flatten cs) (store_after len p cs) (length p) h.0 (sym h.1) e) e
