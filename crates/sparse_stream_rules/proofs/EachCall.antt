-- Each call: the state agrees with the pass so far, and what has come due since the last call is stored.
-- Assumes nothing.
use mathlib.Core.Path.{◌≡◌, refl, sym, ap, ◌∙◌}
use mathlib.Core.Bool.{Bool, true, false}
use mathlib.Core.Option.{Option, none}
use mathlib.Core.List.{List, [], ◌∷◌, ◌++◌, append-nil, append_assoc}
use Prim.Native.Nat.{ℕ, zero, suc, ◌+◌, ◌≤◌, ◌<◌}
use native.Mathlib.Nat.{not-suc-le-zero}
use native.Mathlib.Omega.{arith}
use lib.Dec.{ltb}
use lib.ListN.{length, drop, replicate, length-append, length-replicate, length-drop, drop_of_length-le}
use borrow.Author.Tests.{ltb-true, ltb-false, lt-ltb, eqb-true, not-false}
use Rattle.rules.specs.First.{first}
use Rattle.rules.proofs.Tests.{all_fail}
use Rattle.sparse_rules.specs.declared.Chunk.{Chunk}
use Rattle.sparse_store_rules.specs.Store.{over, laid}
use Rattle.sparse_store_rules.proofs.Over.{length_over, over_then, laid_kept}
use Rattle.sparse_stream_rules.specs.declared.Pass.{Pass}
use Rattle.sparse_stream_rules.specs.Known.{Known, stopped, waiting, whole, known, passed, due_from, due, tested_number}
use Rattle.sparse_stream_rules.specs.Calls.{Past, going, given, taken, after_known, lent_test, over_test, short_test, bring, judge_finish, store_bring, store_finish, finished, lays, unless_given}
use Rattle.sparse_stream_rules.specs.State.{stop_or}
use Rattle.sparse_stream_rules.specs.Steps.{opened, fed}
use Rattle.sparse_stream_rules.specs.Laid.{stores}
use Rattle.sparse_stream_rules.specs.States.{begun, called, piece_tests, lent_tests, finish_tests, lent_finish_tests, answer_now}
use Rattle.sparse_stream_rules.specs.Passes.{store_call, store_leaves, Agrees, free, same_refusal, state_after, past_after, EachStored, AllBytes, Asked, judge_piece, judge_end, store_piece, store_end, state_by, past_by, states_by, pasts_by, AskedBytes, EachAnswer}
use Rattle.sparse_stream_rules.proofs.Calls.{called_again, called_refused, called_on, leaves_again, leaves_refused, leaves_on}
use Rattle.sparse_stream_rules.proofs.Standing.{Laying, Place, in_file, at_header, in_chunk, at_end, After, goes, stops}
use Rattle.sparse_stream_rules.proofs.EveryByte.{Total, opening, shut, chunked, total}
use Rattle.sparse_stream_rules.proofs.Meaning.{known_short, opening_known, long_tests, starts, says, Says, refusal, more, done, stored, due_goes, due_none, opening_waits}
use Rattle.sparse_stream_rules.proofs.Taken.{call_room}
use Rattle.sparse_stream_rules.proofs.Passes.{opened_same, tracked, onto, onto_lays, blank, blank_length}
use Rattle.fields_rules.specs.Number.{Bytes}

-- ---- cells laid after those that were due before

-- cells from the n-th on, laid where they stand
abbrev since : ℕ → List ℕ → List (Option ℕ) → List ℕ
since n p cs = laid n (drop n cs) p

-- the end of a list in two parts
drop_front : (n : ℕ) (cs ds : List (Option ℕ)) → n ≤ length cs → drop n (cs ++ ds) ≡ drop n cs ++ ds
drop_front zero cs ds h = refl
drop_front (suc n) [] ds h = absurd (not-suc-le-zero h)
drop_front (suc n) (c ∷ cs) ds h = drop_front n cs ds (omega arith)

-- cells laid on, where the first n are left out
since_lays : (room : ℕ) (p : List ℕ) (n : ℕ) → length p ≡ room → Laying room (since n p) n
since_lays room p n e =
    record {
      then = λ cs ds l.
          let m : List (Option ℕ) = replicate n none ++ drop n cs in
          let k : length (replicate n none ++ drop n cs) ≡ length cs = simp (length-append, length-replicate, length-drop) (omega arith) in
          let o : over (replicate (length (replicate n none ++ drop n cs)) none ++ ds) (over (replicate n none ++ drop n cs) p) ≡ over ((replicate n none ++ drop n cs) ++ ds) p =
          over_then (replicate n none ++ drop n cs) ds p in
          ap (λ (r : List (Option ℕ)). laid n r p) (drop_front n cs ds l)
          ∙ ap (λ (r : List (Option ℕ)). over r p) (sym (append_assoc (replicate n none) (drop n cs) ds))
          ∙ sym (rw k at o);
      size = λ cs. length_over (replicate n none ++ drop n cs) p ∙ e;
    }

-- nothing is laid of what was due already
since_none : (n : ℕ) (p : List ℕ) (cs : List (Option ℕ)) → length cs ≤ n → laid n (drop n cs) p ≡ p
since_none n p cs h = ap (λ (r : List (Option ℕ)). laid n r p) (drop_of_length-le cs h) ∙ laid_kept n 0 p

-- ---- the same state, over another partition

module _ (len room : ℕ) (lay lay' : List (Option ℕ) → List ℕ) (n₀ n : ℕ) where
  rebase : (x : Pass) (s q : List ℕ) → length s ≤ len → n ≡ length (due s len room) → x.refusal.number ≡ 0 → Total len room lay n₀ x s q
      → Total len room lay' n x s (lay' (due s len room))
  rebase x s q l e z (opening o) =
      let d : due s len room ≡ [] = due_none len room lay n₀ x s q l (ap passed (opening_waits len room lay n₀ x s q l o)) in
      opening
      (record {
        told = o.told;
        roomy = o.roomy;
        came = o.came;
        number = o.number;
        short = o.short;
        bytes = o.bytes;
        width = o.width;
        first = o.first;
        counts = o.counts;
        sum = o.sum;
        chunk = o.chunk;
        word = o.word;
        part = ap lay' d;
        late = omega (arith, e, ap length d);
        tests = o.tests;
      })
  rebase x s q l e z (shut t) = absurd (omega (arith, t.number))
  rebase x s q l e z (chunked c) =
      chunked
      (record {
        h = c.h;
        facts = c.facts;
        most = c.most;
        long = c.long;
        same = c.same;
        tests = c.tests;
        after = go c.after;
      })
    where
      place : (ks : List Chunk) → Place len room lay n₀ c.h x s ks → Place len room lay' n c.h x s ks
      place ks (in_file i) = in_file (record { before = i.before; none = i.none; kind = i.kind })
      place ks (at_header i) =
          at_header (record { here = i.here; near = i.near; left = i.left; fits = i.fits; bytes = i.bytes; complete = i.complete })
      place ks (in_chunk i) =
          in_chunk
          (record { before = i.before; init = i.init; last = i.last; is = i.is; kind = i.kind; size = i.size; complete = i.complete; holds = i.holds; exact = i.exact; word = i.word })
      place ks (at_end i) =
          at_end (record { here = i.here; end = i.end; left = i.left; full = i.full; checks = i.checks; complete = i.complete })

      go : After len room lay n₀ c.h x s q → After len room lay' n c.h x s (lay' (due s len room))
      go (stops ks t) = absurd (omega (arith, t.number))
      go (goes ks b i) =
          let d = due_goes len room lay n₀ x s q l c.h c.long c.same c.tests c.facts.head_least ks b i in
          goes ks
          (record {
            told = b.told;
            came = b.came;
            number = b.number;
            long = b.long;
            head = b.head;
            same = b.same;
            rest = b.rest;
            counts = b.counts;
            blocks = b.blocks;
            within = b.within;
            inside = b.inside;
            sum = b.sum;
            part = ap lay' d;
            late = omega (arith, e, ap length d);
            wide = b.wide;
            four = b.four;
          })
          (place ks i)

-- ---- a call

-- nothing is due before the first byte
due_empty : (len room : ℕ) → due [] len room ≡ []
unfolding due due_from
due_empty len room = go (ltb len 28) refl
  where
    go : (y : Bool) → ltb len 28 ≡ y → due [] len room ≡ []
    go true e = rw (known_short [] len room (ltb-true len 28 e))
    go false e = rw (opening_known [] len room (omega arith) (ap tested_number (long_tests [] len room (ltb-false len 28 e))))

module _ (len room : ℕ) where
  -- a pass before its first call, or after some
  data Seat (x : Pass) (s : List ℕ) : Type 0 where
    new : x ≡ begun len room → s ≡ [] → Seat x s
    sits : (q : List ℕ) → Total len room (onto (blank room)) 0 x s q → Seat x s

  -- a state that is not refused
  record Free (x : Pass) (s : List ℕ) : Type 0 where
    roomy : x.told.room ≡ room
    told : x.told.length ≡ len
    came : x.come.bytes ≡ length s
    number : x.refusal.number ≡ 0
    fits : length s ≤ len
    small : Bytes s
    seat : Seat x s

  data Stood (x : Pass) : Past → Type 0 where
    stands : {s : List ℕ} → Free x s → Stood x (going s)
    stood : {s : List ℕ} {n place : ℕ} → 0 < x.refusal.number → x.refusal.number ≡ n → x.refusal.place ≡ place
        → Stood x (given s n place)

  begun_free : Free (begun len room) []
  unfolding begun
  begun_free = record { roomy = refl; told = refl; came = refl; number = refl; fits = omega arith; small = λ i. omega arith; seat = new refl refl }

  new_total : (n : ℕ) (p : List ℕ) (x : Pass) (s : List ℕ) → n ≤ 0 → x ≡ begun len room → s ≡ []
      → Total len room (since n p) n (opened x) s p
  new_total n p x s z ex es =
      let o : Total len room (since n p) n (opened (begun len room)) [] (since n p []) = starts len room (since n p) n z in
      let q : since n p [] ≡ p = since_none n p [] (omega arith) in
      rw (ex, es) (rw q at o)

  module _ (x : Pass) (s : List ℕ) (f : Free x s) (c : List ℕ) (room-left : length s + length c ≤ len) (small : Bytes (s ++ c)) where
    -- over a partition that is lent with any bytes
    lent_any : (p : List ℕ) → length p ≡ room
        → Total len room (since (length (due s len room)) p) (length (due s len room)) (fed (opened x) c) (s ++ c) (stores (opened x) c p)
    lent_any p e = go f.seat
      where
        go : Seat x s
            → Total len room (since (length (due s len room)) p) (length (due s len room)) (fed (opened x) c) (s ++ c) (stores (opened x) c p)
        go (new ex es) =
            let d : length (due s len room) ≡ 0 = rw es (ap length (due_empty len room)) in
            let r : Total len room (since (length (due s len room)) p) (length (due s len room)) (opened x) s p =
            new_total (length (due s len room)) p x s (omega (arith, d)) ex es in
            total len room (since (length (due s len room)) p) (length (due s len room)) (since_lays room p (length (due s len room)) e) c
            (opened x) s p r room-left small
        go (sits q t) =
            let k = tracked len room (blank room) (blank_length room) x s q t f.number in
            let o : opened x ≡ x = opened_same x (omega (arith, k.told, k.long)) in
            let b = rebase len room (onto (blank room)) (since (length (due s len room)) p) 0 (length (due s len room)) x s q f.fits refl f.number t in
            let g : since (length (due s len room)) p (due s len room) ≡ p =
            since_none (length (due s len room)) p (due s len room) (omega arith) in
            let r : Total len room (since (length (due s len room)) p) (length (due s len room)) x s p = rw g at b in
            rw o
            (total len room (since (length (due s len room)) p) (length (due s len room)) (since_lays room p (length (due s len room)) e) c x s p r room-left small)

    -- the partition that the state itself is known by
    own : (q : List ℕ) × Total len room (onto (blank room)) 0 (fed (opened x) c) (s ++ c) q
    own = go f.seat
      where
        go : Seat x s → (q : List ℕ) × Total len room (onto (blank room)) 0 (fed (opened x) c) (s ++ c) q
        go (new ex es) = (
          stores (opened (begun len room)) c (blank room),
          rw (ex, es)
              (total len room (onto (blank room)) 0 (onto_lays room (blank room) (blank_length room)) c (opened (begun len room)) [] (blank room) (starts len room (onto (blank room)) 0 (omega arith)) (rw es at room-left) (rw es at small)),
        )
        go (sits q t) =
            let k = tracked len room (blank room) (blank_length room) x s q t f.number in
            let o : opened x ≡ x = opened_same x (omega (arith, k.told, k.long)) in
            (stores x c q, rw o (total len room (onto (blank room)) 0 (onto_lays room (blank room) (blank_length room)) c x s q t room-left small))

    joined : length (s ++ c) ≤ len
    joined = rw (length-append s c) room-left

    -- a state that is not refused takes more bytes
    still : (fed (opened x) c).refusal.number ≡ 0 → Free (fed (opened x) c) (s ++ c)
    still n =
        let k = tracked len room (blank room) (blank_length room) (fed (opened x) c) (s ++ c) own.0 own.1 n in
        record {
          roomy = call_room x c ∙ f.roomy;
          told = k.told;
          came = k.came;
          number = n;
          fits = joined;
          small = small;
          seat = sits own.0 own.1;
        }

    known_so : Says len room (s ++ c) (fed (opened x) c) → Stood (fed (opened x) c) (after_known (s ++ c) (known (s ++ c) len room))
    known_so (refusal ks n e) = rw e (stood n refl refl)
    known_so (more ks n l e) = rw e (stands (still n))
    known_so (done ks n l e c) = rw e (stands (still n))

    taken_so : Stood (fed (opened x) c) (after_known (s ++ c) (known (s ++ c) len room))
    taken_so = known_so (says len room (onto (blank room)) 0 (fed (opened x) c) (s ++ c) own.0 joined own.1)

    stored_so : (p : List ℕ) → length p ≡ room
        → stores (opened x) c p ≡ laid (length (due s len room)) (drop (length (due s len room)) (due (s ++ c) len room)) p
    stored_so p e =
        stored len room (since (length (due s len room)) p) (length (due s len room)) (fed (opened x) c) (s ++ c) (stores (opened x) c p)
        joined (lent_any p e)

  taken_known : (s : List ℕ) (v : Known) → taken (after_known s v) ≡ s
  taken_known s (stopped ks n place) = refl
  taken_known s (waiting ks) = refl
  taken_known s (whole ks) = refl

  stays_put : (v w : Past) (p : List ℕ) → taken w ≡ taken v → p ≡ lays len room v w p
  unfolding lays
  stays_put v w p e =
      sym
      (ap (λ (r : List ℕ). laid (length (due (taken v) len room)) (drop (length (due (taken v) len room)) (due r len room)) p) e ∙ since_none (length (due (taken v) len room)) p (due (taken v) len room) (omega arith))

  lays_by : (s u p : List ℕ) (w : Past) → taken w ≡ u
      → laid (length (due s len room)) (drop (length (due s len room)) (due u len room)) p ≡ lays len room (going s) w p
  unfolding lays
  lays_by s u p w e = ap (λ (r : List ℕ). laid (length (due s len room)) (drop (length (due s len room)) (due r len room)) p) (sym e)

  -- the tests of a call, in the state's terms and in the pass's
  tests_same : (x : Pass) (s c : List ℕ) (lent : ℕ) → Free x s
      → first (lent_tests x lent (length c)) ≡ first (lent_test room lent ∷ over_test len s c ∷ [])
  tests_same x s c lent f = rw (f.roomy, f.told, f.came)

  tests_none : (s c : List ℕ) (lent : ℕ) → first (lent_test room lent ∷ over_test len s c ∷ []) ≡ 0
      → (lent ≡ room) × (length s + length c ≤ len)
  tests_none s c lent e =
      let t = all_fail (lent_test room lent ∷ over_test len s c ∷ []) (tt, (tt, tt)) e in
      (eqb-true lent room (not-false _ t.0), ltb-false len (length s + length c) t.1.0)

  -- what is kept where the pass stays refused or takes none
  record Call (x y : Pass) (v w : Past) (p q : List ℕ) : Type 0 where
    after : Stood y w
    left : q ≡ lays len room v w p

  -- one that 16 or 14 refuses
  call_refused : (x : Pass) (s c p : List ℕ) → Free x s → (m : ℕ) → first (lent_test room (length p) ∷ over_test len s c ∷ []) ≡ suc m
      → Call x (store_call x (length p) c) (going s) (store_bring len room (length p) (going s) c) p (store_leaves x c p)
  unfolding bring
  call_refused x s c p f m e =
      let t : first (lent_tests x (length p) (length c)) ≡ suc m = tests_same x s c (length p) f ∙ e in
      let z : x.refusal.number ≤ 0 = omega (arith, f.number) in
      let a : stop_or (suc m) 0 x x ≡ store_call x (length p) c =
      called_refused (lent_tests x (length p) (length c)) x z (stop_or (suc m) 0 x x) (fed (opened x) c) m t refl in
      let b : p ≡ store_leaves x c p = leaves_refused (lent_tests x (length p) (length c)) x z p (stores (opened x) c p) m t in
      let w : store_bring len room (length p) (going s) c ≡ given s (suc m) 0 =
      ap (λ (k : ℕ). unless_given k s (after_known (s ++ c) (known (s ++ c) len room))) e in
      record {
        after = rw (← a, w) (stood (omega arith) refl refl);
        left = sym b ∙ stays_put (going s) (store_bring len room (length p) (going s) c) p (ap taken w);
      }

  -- one that neither does
  call_taken : (x : Pass) (s c p : List ℕ) → Free x s → Bytes (s ++ c) → first (lent_test room (length p) ∷ over_test len s c ∷ []) ≡ 0
      → Call x (store_call x (length p) c) (going s) (store_bring len room (length p) (going s) c) p (store_leaves x c p)
  unfolding bring
  call_taken x s c p f small e =
      let t : first (lent_tests x (length p) (length c)) ≡ 0 = tests_same x s c (length p) f ∙ e in
      let o = tests_none s c (length p) e in
      let z : x.refusal.number ≤ 0 = omega (arith, f.number) in
      let a : fed (opened x) c ≡ store_call x (length p) c =
      called_on (lent_tests x (length p) (length c)) x z (fed (opened x) c) (fed (opened x) c) t refl in
      let b : stores (opened x) c p ≡ store_leaves x c p =
      leaves_on (lent_tests x (length p) (length c)) x z p (stores (opened x) c p) (stores (opened x) c p) t refl in
      let w : store_bring len room (length p) (going s) c ≡ after_known (s ++ c) (known (s ++ c) len room) = rw e in
      record {
        after = rw (← a, w) (taken_so x s f c o.1 small);
        left =
            sym b
            ∙ stored_so x s f c o.1 small p o.0
            ∙ lays_by s (s ++ c) p (store_bring len room (length p) (going s) c)
            (ap taken w ∙ taken_known (s ++ c) (known (s ++ c) len room));
      }

  free_call : (x : Pass) (s c p : List ℕ) → Free x s → Bytes (s ++ c) → (m : ℕ)
      → first (lent_test room (length p) ∷ over_test len s c ∷ []) ≡ m
      → Call x (store_call x (length p) c) (going s) (store_bring len room (length p) (going s) c) p (store_leaves x c p)
  free_call x s c p f small zero e = call_taken x s c p f small e
  free_call x s c p f small (suc m) e = call_refused x s c p f m e

  given_call : (x : Pass) (s c p : List ℕ) (n place : ℕ) → 0 < x.refusal.number → x.refusal.number ≡ n → x.refusal.place ≡ place
      → Call x (store_call x (length p) c) (given s n place) (store_bring len room (length p) (given s n place) c) p (store_leaves x c p)
  unfolding bring
  given_call x s c p n place h en ep =
      let a : x ≡ store_call x (length p) c = called_again (lent_tests x (length p) (length c)) x (fed (opened x) c) h in
      let b : p ≡ store_leaves x c p = leaves_again (lent_tests x (length p) (length c)) x p (stores (opened x) c p) h in
      record {
        after = rw (← a) (stood h en ep);
        left = sym b ∙ stays_put (given s n place) (given s n place) p refl;
      }

  small_join : (s c : List ℕ) → Bytes s → Bytes c → Bytes (s ++ c)
  small_join [] c f g i = g i
  small_join (x ∷ s) c f g zero = f zero
  small_join (x ∷ s) c f g (suc i) = small_join s c (λ j. f (suc j)) g i

  one_call : (x : Pass) (v : Past) (c p : List ℕ) → Bytes c → Stood x v
      → Call x (store_call x (length p) c) v (store_bring len room (length p) v c) p (store_leaves x c p)
  one_call x (going s) c p g (stands f) =
      free_call x s c p f (small_join s c f.small g) (first (lent_test room (length p) ∷ over_test len s c ∷ [])) refl
  one_call x (given s n place) c p g (stood h en ep) = given_call x s c p n place h en ep

  calls : (cs : List (List ℕ × List ℕ)) (x : Pass) (v : Past) → AllBytes cs → Stood x v → Stood (state_after x cs) (past_after len room v cs)
  calls [] x v g s = s
  calls (c ∷ cs) x v g s =
      calls cs (store_call x (length c.0) c.1) (store_bring len room (length c.0) v c.1) g.1
      (one_call x v c.1 c.0 g.0 s).after

  agree : (x : Pass) (v : Past) → Stood x v → Agrees x v
  agree x (going s) (stands f) = free f.number
  agree x (given s n place) (stood h en ep) = same_refusal h en ep

  -- after any calls the state agrees with the pass, and the next call stores what has come due since the last
  pub each_call : (cs : List (List ℕ × List ℕ)) → AllBytes cs → EachStored len room cs
  each_call cs g =
      let s = calls cs (begun len room) (going []) g (stands begun_free) in
      record {
        agrees = agree (state_after (begun len room) cs) (past_after len room (going []) cs) s;
        leaves_due = λ p c b. (one_call (state_after (begun len room) cs) (past_after len room (going []) cs) c p b s).left;
      }

  -- ---- every call's answer

  -- tests that are the same in the state's terms and in the pass's
  record Tests (ts us : List (Bool × ℕ)) (x : Pass) (s c : List ℕ) : Type 0 where
    same : first ts ≡ first us
    fits : first us ≡ 0 → length s + length c ≤ len

  free_after : (ts us : List (Bool × ℕ)) (x : Pass) (s c : List ℕ) → Free x s → Bytes (s ++ c) → Tests ts us x s c → (m : ℕ) → first us ≡ m
      → Stood (called ts x (fed (opened x) c)) (bring len room us (going s) c)
  unfolding bring
  free_after ts us x s c f small t zero e =
      let z : x.refusal.number ≤ 0 = omega (arith, f.number) in
      let a : fed (opened x) c ≡ called ts x (fed (opened x) c) =
      called_on ts x z (fed (opened x) c) (fed (opened x) c) (t.same ∙ e) refl in
      rw (← a, e) (taken_so x s f c (t.fits e) small)
  free_after ts us x s c f small t (suc m) e =
      let z : x.refusal.number ≤ 0 = omega (arith, f.number) in
      let a : stop_or (suc m) 0 x x ≡ called ts x (fed (opened x) c) =
      called_refused ts x z (stop_or (suc m) 0 x x) (fed (opened x) c) m (t.same ∙ e) refl in
      rw (← a, e) (stood (omega arith) refl refl)

  given_after : (ts us : List (Bool × ℕ)) (x : Pass) (s c : List ℕ) (n place : ℕ) → 0 < x.refusal.number → x.refusal.number ≡ n
      → x.refusal.place ≡ place
      → Stood (called ts x (fed (opened x) c)) (bring len room us (given s n place) c)
  unfolding bring
  given_after ts us x s c n place h en ep = rw (← (called_again ts x (fed (opened x) c) h)) (stood h en ep)

  fed_none : (x : Pass) → fed x [] ≡ x
  unfolding fed
  fed_none x = refl

  judge_tests : (x : Pass) (s c : List ℕ) → Free x s → Tests (piece_tests x (length c)) (over_test len s c ∷ []) x s c
  judge_tests x s c f =
      record {
        same = rw (f.told, f.came);
        fits = λ e. let t = all_fail (over_test len s c ∷ []) (tt, tt) e in ltb-false len (length s + length c) t.0;
      }

  store_tests : (x : Pass) (s c : List ℕ) (lent : ℕ) → Free x s
      → Tests (lent_tests x lent (length c)) (lent_test room lent ∷ over_test len s c ∷ []) x s c
  store_tests x s c lent f = record { same = tests_same x s c lent f; fits = λ e. (tests_none s c lent e).1 }

  judge_end_tests : (x : Pass) (s : List ℕ) → Free x s → Tests (finish_tests x) (short_test len s ∷ []) x s []
  judge_end_tests x s f = record { same = rw (f.told, f.came); fits = λ e. omega (arith, f.fits) }

  store_end_tests : (x : Pass) (s : List ℕ) (lent : ℕ) → Free x s
      → Tests (lent_finish_tests x lent) (lent_test room lent ∷ short_test len s ∷ []) x s []
  store_end_tests x s lent f = record { same = rw (f.roomy, f.told, f.came); fits = λ e. omega (arith, f.fits) }

  asked_bytes : Asked → Type 0
  asked_bytes (judge_piece c) = Bytes c
  asked_bytes judge_end = Unit {0}
  asked_bytes (store_piece lent c) = Bytes c
  asked_bytes (store_end lent) = Unit {0}

  none_small : (s : List ℕ) → Bytes s → Bytes (s ++ [])
  none_small s g = rw (append-nil s) g

  -- any call
  asked : (a : Asked) (x : Pass) (v : Past) → asked_bytes a → Stood x v → Stood (state_by x a) (past_by len room v a)
  unfolding asked_bytes
  asked (judge_piece c) x (going s) g (stands f) =
      free_after (piece_tests x (length c)) (over_test len s c ∷ []) x s c f (small_join s c f.small g) (judge_tests x s c f)
      (first (over_test len s c ∷ [])) refl
  asked (judge_piece c) x (given s n place) g (stood h en ep) =
      given_after (piece_tests x (length c)) (over_test len s c ∷ []) x s c n place h en ep
  asked judge_end x (going s) g (stands f) =
      rw (fed_none (opened x)) at
      (free_after (finish_tests x) (short_test len s ∷ []) x s [] f (none_small s f.small) (judge_end_tests x s f) (first (short_test len s ∷ [])) refl)
  asked judge_end x (given s n place) g (stood h en ep) =
      rw (fed_none (opened x)) at (given_after (finish_tests x) (short_test len s ∷ []) x s [] n place h en ep)
  asked (store_piece lent c) x (going s) g (stands f) =
      free_after (lent_tests x lent (length c)) (lent_test room lent ∷ over_test len s c ∷ []) x s c f (small_join s c f.small g)
      (store_tests x s c lent f) (first (lent_test room lent ∷ over_test len s c ∷ [])) refl
  asked (store_piece lent c) x (given s n place) g (stood h en ep) =
      given_after (lent_tests x lent (length c)) (lent_test room lent ∷ over_test len s c ∷ []) x s c n place h en ep
  asked (store_end lent) x (going s) g (stands f) =
      rw (fed_none (opened x)) at
      (free_after (lent_finish_tests x lent) (lent_test room lent ∷ short_test len s ∷ []) x s [] f (none_small s f.small) (store_end_tests x s lent f) (first (lent_test room lent ∷ short_test len s ∷ [])) refl)
  asked (store_end lent) x (given s n place) g (stood h en ep) =
      rw (fed_none (opened x)) at (given_after (lent_finish_tests x lent) (lent_test room lent ∷ short_test len s ∷ []) x s [] n place h en ep)

  all_asked : (qs : List Asked) (x : Pass) (v : Past) → AskedBytes qs → Stood x v → Stood (states_by x qs) (pasts_by len room v qs)
  unfolding asked_bytes
  all_asked [] x v g s = s
  all_asked (judge_piece c ∷ qs) x v g s =
      all_asked qs (state_by x (judge_piece c)) (past_by len room v (judge_piece c)) g.1 (asked (judge_piece c) x v g.0 s)
  all_asked (judge_end ∷ qs) x v g s = all_asked qs (state_by x judge_end) (past_by len room v judge_end) g (asked judge_end x v tt s)
  all_asked (store_piece lent c ∷ qs) x v g s =
      all_asked qs (state_by x (store_piece lent c)) (past_by len room v (store_piece lent c)) g.1
      (asked (store_piece lent c) x v g.0 s)
  all_asked (store_end lent ∷ qs) x v g s =
      all_asked qs (state_by x (store_end lent)) (past_by len room v (store_end lent)) g (asked (store_end lent) x v tt s)

  -- ---- finishing

  answer_given : (x : Pass) (s : List ℕ) (n place : ℕ) → 0 < x.refusal.number → x.refusal.number ≡ n → x.refusal.place ≡ place
      → answer_now x ≡ finished len room (given s n place)
  unfolding answer_now finished
  answer_given x s n place h en ep = rw (lt-ltb 0 x.refusal.number h, en, ep)

  answer_says : (x : Pass) (s : List ℕ) → length s ≡ len → Says len room s x
      → answer_now x ≡ finished len room (after_known s (known s len room))
  unfolding answer_now finished
  answer_says x s l (refusal ks n e) = rw (e, lt-ltb 0 x.refusal.number n)
  answer_says x s l (more ks n m e) = absurd (omega arith)
  answer_says x s l (done ks n m e c) = rw (e, n) (rw (e, c))

  free_answer : (ts us : List (Bool × ℕ)) (x : Pass) (s : List ℕ) → Free x s → Tests ts us x s [] → (first us ≡ 0 → length s ≡ len)
      → (m : ℕ) → first us ≡ m
      → answer_now (called ts x (opened x)) ≡ finished len room (bring len room us (going s) [])
  unfolding bring
  free_answer ts us x s f t l zero e =
      let z : x.refusal.number ≤ 0 = omega (arith, f.number) in
      let a : opened x ≡ called ts x (opened x) = called_on ts x z (opened x) (opened x) (t.same ∙ e) refl in
      let o = own x s f [] (t.fits e) (none_small s f.small) in
      let q : Says len room (s ++ []) (fed (opened x) []) =
      says len room (onto (blank room)) 0 (fed (opened x) []) (s ++ []) o.0 (joined x s f [] (t.fits e) (none_small s f.small))
      o.1 in
      rw (← a, e) (rw (fed_none (opened x)) at (answer_says (fed (opened x) []) (s ++ []) (rw (append-nil s) (l e)) q))
  free_answer ts us x s f t l (suc m) e =
      let z : x.refusal.number ≤ 0 = omega (arith, f.number) in
      let a : stop_or (suc m) 0 x x ≡ called ts x (opened x) =
      called_refused ts x z (stop_or (suc m) 0 x x) (opened x) m (t.same ∙ e) refl in
      rw (← a, e) (answer_given (stop_or (suc m) 0 x x) s (suc m) 0 (omega arith) refl refl)

  given_answer : (ts us : List (Bool × ℕ)) (x : Pass) (s : List ℕ) (n place : ℕ) → 0 < x.refusal.number → x.refusal.number ≡ n
      → x.refusal.place ≡ place
      → answer_now (called ts x (opened x)) ≡ finished len room (bring len room us (given s n place) [])
  unfolding bring
  given_answer ts us x s n place h en ep = rw (← (called_again ts x (opened x) h)) (answer_given x s n place h en ep)

  judge_ends : (x : Pass) (v : Past) → Stood x v → answer_now (state_by x judge_end) ≡ finished len room (judge_finish len room v)
  judge_ends x (going s) (stands f) =
      free_answer (finish_tests x) (short_test len s ∷ []) x s f (judge_end_tests x s f)
      (λ e. let t = all_fail (short_test len s ∷ []) (tt, tt) e in omega (arith, ltb-false (length s) len t.0, f.fits))
      (first (short_test len s ∷ [])) refl
  judge_ends x (given s n place) (stood h en ep) = given_answer (finish_tests x) (short_test len s ∷ []) x s n place h en ep

  store_ends : (lent : ℕ) (x : Pass) (v : Past) → Stood x v
      → answer_now (state_by x (store_end lent)) ≡ finished len room (store_finish len room lent v)
  store_ends lent x (going s) (stands f) =
      free_answer (lent_finish_tests x lent) (lent_test room lent ∷ short_test len s ∷ []) x s f (store_end_tests x s lent f)
      (λ e. let t = all_fail (lent_test room lent ∷ short_test len s ∷ []) (tt, (tt, tt)) e in omega (arith, ltb-false (length s) len t.1.0, f.fits))
      (first (lent_test room lent ∷ short_test len s ∷ [])) refl
  store_ends lent x (given s n place) (stood h en ep) =
      given_answer (lent_finish_tests x lent) (lent_test room lent ∷ short_test len s ∷ []) x s n place h en ep

  -- after any calls, in any order
  pub each_answer : (qs : List Asked) → AskedBytes qs → EachAnswer len room qs
  each_answer qs g =
      let s = all_asked qs (begun len room) (going []) g (stands begun_free) in
      record {
        agrees = agree (states_by (begun len room) qs) (pasts_by len room (going []) qs) s;
        judged_answer = judge_ends (states_by (begun len room) qs) (pasts_by len room (going []) qs) s;
        stored_answer = λ lent. store_ends lent (states_by (begun len room) qs) (pasts_by len room (going []) qs) s;
      }
