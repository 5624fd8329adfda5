-- Laws of tests that wait for their bytes, and of fields of lists that agree.
-- Assumes nothing.
use mathlib.Core.Path.{◌≡◌, refl, ap, ◌∙◌}
use mathlib.Core.Bool.{Bool, true, false, cond}
use mathlib.Core.List.{List, [], ◌∷◌}
use Prim.Native.Nat.{ℕ, zero, suc, ◌+◌, ◌-◌, ◌≤◌, ◌<◌}
use native.Mathlib.Numerals.{sub-one}
use native.Mathlib.Omega.{arith}
use lib.Dec.{T, ltb, ltb→lt}
use lib.ListN.{length, get_or}
use borrow.Author.Tests.{ltb-false, lt-ltb, le-ltb}
use Rattle.rules.specs.First.{first}
use Rattle.rules.proofs.Tests.{Numbered}
use Rattle.fields_rules.specs.Number.{number_at}
use Rattle.sparse_rules.specs.declared.Header.{Header}
use Rattle.sparse_rules.specs.declared.Cursor.{Cursor}
use Rattle.sparse_rules.specs.Header.{header_tests}
use Rattle.sparse_rules.specs.Chunks.{chunk_tests, chunk_at, next_cursor}
use Rattle.sparse_rules.specs.Walk.{end_tests}
use Rattle.sparse_stream_rules.specs.Known.{Tested, passes, waits, refuses, tested, header_ends, chunk_ends, end_ends, stopped, waiting, whole, when_tested, more_known, known_from, tested_number}
use Rattle.fields_rules.proofs.Laws.{number_same}

-- ---- fields

-- ---- tests that wait

-- the tests are the same where their bytes have come
abbrev pub Agree : ℕ → List ℕ → List (Bool × ℕ) → List (Bool × ℕ) → Type 0
Agree came es [] us = us ≡ []
Agree came es (t ∷ ts) [] = ⊥
Agree came [] (t ∷ ts) (u ∷ us) = Unit {0}
Agree came (e ∷ es) (t ∷ ts) (u ∷ us) = (e ≤ came → t ≡ u) × Agree came es ts us

-- so they say the same
pub tested_agree : (came : ℕ) (es : List ℕ) (ts us : List (Bool × ℕ)) → Agree came es ts us → tested came es ts ≡ tested came es us
tested_agree came es [] us g = rw g
tested_agree came es (t ∷ ts) [] g = absurd g
tested_agree came [] (t ∷ ts) (u ∷ us) g = refl
tested_agree came (e ∷ es) (t ∷ ts) (u ∷ us) g = go (ltb came e) refl (tested_agree came es ts us g.1)
  where
    go : (y : Bool) → ltb came e ≡ y → tested came es ts ≡ tested came es us → tested came (e ∷ es) (t ∷ ts) ≡ tested came (e ∷ es) (u ∷ us)
    go true p i = rw p
    go false p i = let q : t ≡ u = g.0 (ltb-false came e p) in rw (p, q, i)

-- what a number says
abbrev pub as_tested : ℕ → Tested
as_tested zero = passes
as_tested (suc n) = refuses (suc n)

-- the bytes of as many tests have all come
abbrev pub AllCome : ℕ → List ℕ → List (Bool × ℕ) → Type 0
AllCome came es [] = Unit {0}
AllCome came [] (t ∷ ts) = ⊥
AllCome came (e ∷ es) (t ∷ ts) = (e ≤ came) × AllCome came es ts

-- all bytes that the tests read have come
pub tested_all : (came : ℕ) (es : List ℕ) (ts : List (Bool × ℕ)) → AllCome came es ts → Numbered ts
    → tested came es ts ≡ as_tested (first ts)
tested_all came es [] a n = refl
tested_all came [] (t ∷ ts) a n = absurd a
tested_all came (e ∷ es) (t ∷ ts) a n = rw (le-ltb came e a.0, tested_all came es ts a.1 n.1) (go t.0 t.1 n.0)
  where
    go : (y : Bool) (m : ℕ) → T (ltb 0 m) → cond y (refuses m) (as_tested (first ts)) ≡ as_tested (cond y m (first ts))
    go true zero l = absurd (omega (arith, ltb→lt 0 0 l))
    go true (suc m) l = refl
    go false m l = refl

-- as many ends as tests
abbrev pub Matched : List ℕ → List (Bool × ℕ) → Type 0
Matched es [] = Unit {0}
Matched [] (t ∷ ts) = ⊥
Matched (e ∷ es) (t ∷ ts) = Matched es ts

-- tests that refuse nothing wait, or have all run
pub data Decided (came : ℕ) (es : List ℕ) (ts : List (Bool × ℕ)) : Type 0 where
  must_wait : tested came es ts ≡ waits → Decided came es ts
  have_run : tested came es ts ≡ passes → AllCome came es ts → Decided came es ts

-- where no test refuses, each has passed or waits
pub decided : (came : ℕ) (es : List ℕ) (ts : List (Bool × ℕ)) → Matched es ts → Numbered ts → tested_number (tested came es ts) ≡ 0
    → Decided came es ts
decided came es [] m n e = have_run refl tt
decided came [] (t ∷ ts) m n e = absurd m
decided came (x ∷ es) (t ∷ ts) m n e = go (ltb came x) t.0 refl refl e (decided came es ts m n.1)
  where
    go : (y z : Bool) → ltb came x ≡ y → t.0 ≡ z
        → tested_number (cond (ltb came x) waits (cond t.0 (refuses t.1) (tested came es ts))) ≡ 0
        → (tested_number (tested came es ts) ≡ 0 → Decided came es ts) → Decided came (x ∷ es) (t ∷ ts)
    go true z p r w i = must_wait (rw p)
    go false true p r w i =
        let v : t.1 ≡ 0 = rw (p, r) at w in
        let l : 0 < t.1 = ltb→lt 0 t.1 n.0 in
        absurd (omega arith)
    go false false p r w i = on (i (rw (p, r) at w))
      where
        on : Decided came es ts → Decided came (x ∷ es) (t ∷ ts)
        on (must_wait v) = must_wait (rw (p, r) v)
        on (have_run v a) = have_run (rw (p, r) v) (ltb-false came x p, a)

-- a refusal stays when more bytes come
pub tested_stays : (a b : ℕ) → a ≤ b → (n : ℕ) (es : List ℕ) (ts : List (Bool × ℕ)) → tested a es ts ≡ refuses n
    → tested b es ts ≡ refuses n
tested_stays a b h n es [] q = q
tested_stays a b h n [] (t ∷ ts) q = q
tested_stays a b h n (e ∷ es) (t ∷ ts) q = go (ltb a e) t.0 refl refl q (tested_stays a b h n es ts)
  where
    go : (y z : Bool) → ltb a e ≡ y → t.0 ≡ z → cond (ltb a e) waits (cond t.0 (refuses t.1) (tested a es ts)) ≡ refuses n
        → (tested a es ts ≡ refuses n → tested b es ts ≡ refuses n) → tested b (e ∷ es) (t ∷ ts) ≡ refuses n
    go true z p r w i = let v : waits ≡ refuses n = rw p at w in cc
    go false true p r w i =
        let l : e ≤ b = omega (arith, ltb-false a e p, h) in
        let v : refuses t.1 ≡ refuses n = rw (p, r) at w in
        rw (le-ltb b e l, r) v
    go false false p r w i =
        let l : e ≤ b = omega (arith, ltb-false a e p, h) in
        let v : tested a es ts ≡ refuses n = rw (p, r) at w in
        rw (le-ltb b e l, r) (i v)

-- ---- the walk over what has come

-- the header's tests over lists that agree as far as the bytes have come
pub header_agree : (c s : List ℕ) (came len room : ℕ) → ((i : ℕ) → i < came → i < 28 → get_or c i 0 ≡ get_or s i 0)
    → Agree came header_ends (header_tests c len room) (header_tests s len room)
unfolding header_tests
header_agree c s came len room g = (
  (λ e. refl),
  (
    (λ e. rw (f 0 4 (omega arith) (omega arith))),
    (
      (λ e. rw (f 4 2 (omega arith) (omega arith))),
      (
        (λ e. rw (f 8 2 (omega arith) (omega arith), f 10 2 (omega arith) (omega arith))),
        (
          (λ e. rw (f 12 4 (omega arith) (omega arith))),
          (
            (λ e. rw (f 12 4 (omega arith) (omega arith), f 16 4 (omega arith) (omega arith))),
            refl,
          ),
        ),
      ),
    ),
  ),
)
  where
    f : (at w : ℕ) → at + w ≤ came → at + w ≤ 28 → number_at c at w ≡ number_at s at w
    f at w p q = number_same c s at at w (λ i l. g (at + i) (omega arith) (omega arith))

module _ (s : List ℕ) (len : ℕ) (h : Header) where
  -- 7 where a chunk begins
  pub from_short : (n : ℕ) (c : Cursor) → 0 < n → c.at ≤ length s → len < c.at + h.head → known_from s len h n c ≡ stopped [] 7 c.at
  unfolding known_from chunk_tests
  from_short zero c p q t = absurd (omega arith)
  from_short (suc n) c p q t = rw (le-ltb (length s) c.at q, lt-ltb len (c.at + h.head) t)

  -- nothing is known of a chunk before its first byte
  pub from_early : (n : ℕ) (c : Cursor) → length s < c.at → known_from s len h n c ≡ waiting []
  unfolding known_from chunk_tests end_tests
  from_early zero c e = rw (lt-ltb (length s) c.at e)
  from_early (suc n) c e = rw (lt-ltb (length s) c.at e)

  -- a chunk's header is awaited
  pub from_header : (n : ℕ) (c : Cursor) → 0 < n → c.at ≤ length s → length s < c.at + 12 → c.at + h.head ≤ len
      → known_from s len h n c ≡ waiting []
  unfolding known_from chunk_tests
  from_header zero c p q r t = absurd (omega arith)
  from_header (suc n) c p q r t = rw (le-ltb (length s) c.at q, le-ltb len (c.at + h.head) t, lt-ltb (length s) (c.at + 12) r)

  -- the known fields of a chunk's header have come
  pub from_chunk : (n : ℕ) (c : Cursor) → c.at + 12 ≤ length s
      → known_from s len h (suc n) c ≡ when_tested (as_tested (first (chunk_tests s len h c))) c.at (more_known (chunk_at s h c) (known_from s len h n (next_cursor s c)))
  unfolding known_from chunk_tests
  from_chunk n c q =
      ap (λ (y : Tested). when_tested y c.at (more_known (chunk_at s h c) (known_from s len h n (next_cursor s c))))
      (tested_all (length s) (chunk_ends c) (chunk_tests s len h c) ((omega arith), ((omega arith), ((omega arith), ((omega arith), tt)))) (tt, (tt, (tt, (tt, tt)))))

  -- a chunk whose 12 bytes have come
  pub from_step : (n : ℕ) (c : Cursor) → 0 < n → c.at + 12 ≤ length s
      → known_from s len h n c ≡ when_tested (as_tested (first (chunk_tests s len h c))) c.at (more_known (chunk_at s h c) (known_from s len h (n - 1) (next_cursor s c)))
  from_step zero c p q = absurd (omega arith)
  from_step (suc n) c p q = from_chunk n c q ∙ rw sub-one

  -- the end
  pub from_end : (c : Cursor) → c.at ≤ length s
      → known_from s len h 0 c ≡ when_tested (as_tested (first (end_tests len h c))) c.at (whole [])
  unfolding known_from end_tests
  from_end c q =
      ap (λ (y : Tested). when_tested y c.at (whole []))
      (tested_all (length s) (end_ends c) (end_tests len h c) (q, (q, tt)) (tt, (tt, tt)))
