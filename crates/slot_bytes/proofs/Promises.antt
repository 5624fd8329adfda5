-- The record as bytes: writing and reading are a round trip both ways.
-- Assumes nothing.
use mathlib.Core.Path.{◌≡◌, refl, sym, ap, ◌∙◌}
use mathlib.Core.Bool.{Bool, true, false, ◌&&◌}
use mathlib.Core.List.{List, [], ◌∷◌, ◌++◌}
use Prim.Native.Nat.{ℕ, zero, suc, ◌+◌, ◌<◌}
use native.Mathlib.Omega.{arith}
use lib.Dec.{leb, eqb}
use lib.ListN.{length, get_or}
use borrow.Author.Tests.{leb-true}
use Rattle.slot_rules.specs.declared.Slot.{Slot}
use Rattle.slot_rules.specs.declared.Record.{Record}
use Rattle.slot_rules.specs.OneSlot.{new_slot}
use Rattle.slot_rules.specs.Records.{slot_at}
use Rattle.slot_bytes.specs.Record.{flag, slot_bytes, record_bytes, slot_from, at, record_of, are_flags, is_record}
use Rattle.slot_bytes.specs.Promises.{InBytes, Promises}

-- n entries of a list from the i-th on
abbrev entries : {A : Type 0} → A → List A → ℕ → ℕ → List A
entries z xs zero i = []
entries z xs (suc n) i = get_or xs i z ∷ entries z xs n (suc i)

entries_tail : {A : Type 0} (z x : A) (xs : List A) (n i : ℕ) → entries z (x ∷ xs) n (suc i) ≡ entries z xs n i
entries_tail z x xs zero i = refl
entries_tail z x xs (suc n) i = ap (λ (ys : List _). get_or xs i z ∷ ys) (entries_tail z x xs n (suc i))

-- all entries of a list are the list
entries_all : {A : Type 0} (z : A) (xs : List A) → entries z xs (length xs) 0 ≡ xs
entries_all z [] = refl
entries_all z (x ∷ xs) = ap (λ (ys : List _). x ∷ ys) (entries_tail z x xs (length xs) 0 ∙ entries_all z xs)

-- the entries of a list of a known length
entries_of : {A : Type 0} (z : A) (xs : List A) (n : ℕ) → length xs ≡ n → entries z xs n 0 ≡ xs
entries_of z xs n l = rw (← l) (entries_all z xs)

-- a flag that is written is a flag, and is read as itself
flag_again : (f : Bool) → eqb (flag f) 1 ≡ f
flag_again true = refl
flag_again false = refl

flag_right : (f : Bool) → leb (flag f) 1 ≡ true
flag_right true = refl
flag_right false = refl

-- a byte that is a flag is written as it was read
flag_kept : (x : ℕ) → leb x 1 ≡ true → flag (eqb x 1) ≡ x
flag_kept zero e = refl
flag_kept (suc zero) e = refl
flag_kept (suc (suc n)) e = absurd (omega (arith, leb-true (suc (suc n)) 1 e))

-- four tests that hold together
all_four : (a b c d : Bool) → (a && b && c && d) ≡ true → (a ≡ true) × (b ≡ true) × (c ≡ true) × (d ≡ true)
all_four true true true true e = (refl, refl, refl, refl)
all_four false b c d e = (cc, cc, cc, cc)
all_four true false c d e = (cc, cc, cc, cc)
all_four true true false d e = (cc, cc, cc, cc)
all_four true true true false e = (cc, cc, cc, cc)

-- a slot that is written is read as itself
slot_again : (s : Slot) → slot_from (slot_bytes s) 0 ≡ s
slot_again s = rw (flag_again s.used, flag_again s.unbootable, flag_again s.successful, flag_again s.corrupted)

slot_right : (s : Slot) → are_flags (slot_bytes s) 0 ≡ true
slot_right s = rw (flag_right s.used, flag_right s.unbootable, flag_right s.successful, flag_right s.corrupted)

-- a slot that is written after it was read from i on, where its four flag bytes are flags, is those bytes
slot_kept : (b : List ℕ) (i : ℕ) → are_flags b i ≡ true → slot_bytes (slot_from b i) ≡ at b i ∷ at b (i + 1) ∷ at b (i + 2) ∷ at b (i + 3) ∷ at b (i + 4) ∷ []
slot_kept b i e =
    let h : _ = all_four (leb (at b i) 1) (leb (at b (i + 1)) 1) (leb (at b (i + 2)) 1) (leb (at b (i + 3)) 1) e in
    rw (flag_kept (at b i) h.0, flag_kept (at b (i + 1)) h.1, flag_kept (at b (i + 2)) h.2, flag_kept (at b (i + 3)) h.3)

-- a record with its slots one by one
opened : (r : Record) → length r.slots ≡ 4 → r.slots ≡ slot_at r 0 ∷ slot_at r 1 ∷ slot_at r 2 ∷ slot_at r 3 ∷ []
opened r l = sym (entries_of (new_slot false 0) r.slots 4 l)

-- a record whose slots are those of r is r
same_slots : (r : Record) (a b c d : Slot) → a ≡ slot_at r 0 → b ≡ slot_at r 1 → c ≡ slot_at r 2 → d ≡ slot_at r 3 → length r.slots ≡ 4 → ◌≡◌ {A = Record} (record { slots = a ∷ b ∷ c ∷ d ∷ []; current = r.current; startable = r.startable }) r
same_slots r a b c d ea eb ec ed l = rw (ea, eb, ec, ed, ← opened r l)

pub again : (r : Record) → length r.slots ≡ 4 → record_of (record_bytes r) ≡ r
unfolding record_bytes record_of
again r l = same_slots r _ _ _ _ (slot_again (slot_at r 0)) (slot_again (slot_at r 1)) (slot_again (slot_at r 2)) (slot_again (slot_at r 3)) l

pub right : (r : Record) → is_record (record_bytes r) ≡ true
unfolding record_bytes is_record
right r = rw (slot_right (slot_at r 0), slot_right (slot_at r 1), slot_right (slot_at r 2), slot_right (slot_at r 3))

-- each of four parts in the place of an equal one
parts : (t : List ℕ) {p p' q q' r r' s s' : List ℕ} → p ≡ p' → q ≡ q' → r ≡ r' → s ≡ s' → p ++ (q ++ (r ++ (s ++ t))) ≡ p' ++ (q' ++ (r' ++ (s' ++ t)))
parts t ep eq er es = rw (ep, eq, er, es)

-- bytes that are a record are written as they were read
read : (b : List ℕ) → length b ≡ 22 → is_record b ≡ true → record_bytes (record_of b) ≡ b
unfolding record_bytes record_of is_record
read b l e =
    let h : _ = all_four (are_flags b 0) (are_flags b 5) (are_flags b 10) (are_flags b 15) e in
    parts (at b 20 ∷ at b 21 ∷ []) (slot_kept b 0 h.0) (slot_kept b 5 h.1) (slot_kept b 10 h.2) (slot_kept b 15 h.3) ∙ entries_of 0 b 22 l

-- a flag is a byte
flag_small : (f : Bool) → flag f < 256
flag_small true = omega arith
flag_small false = omega arith

-- what holds of each entry of a list, and of what is read past its end
each : (xs ys : List ℕ) → ((i : ℕ) → get_or xs i 0 < 256) → ((i : ℕ) → get_or ys i 0 < 256) → (i : ℕ) → get_or (xs ++ ys) i 0 < 256
each [] ys f g i = g i
each (x ∷ xs) ys f g zero = f 0
each (x ∷ xs) ys f g (suc i) = each xs ys (λ j. f (suc j)) g i

slot_small : (s : Slot) → s.tries < 256 → (i : ℕ) → get_or (slot_bytes s) i 0 < 256
slot_small s h zero = flag_small s.used
slot_small s h (suc zero) = flag_small s.unbootable
slot_small s h (suc (suc zero)) = flag_small s.successful
slot_small s h (suc (suc (suc zero))) = flag_small s.corrupted
slot_small s h (suc (suc (suc (suc zero)))) = h
slot_small s h (suc (suc (suc (suc (suc i))))) = omega arith

two_small : (x y : ℕ) → x < 256 → y < 256 → (i : ℕ) → get_or (x ∷ y ∷ []) i 0 < 256
two_small x y h l zero = h
two_small x y h l (suc zero) = l
two_small x y h l (suc (suc i)) = omega arith

small : (r : Record) → InBytes r → (i : ℕ) → get_or (record_bytes r) i 0 < 256
unfolding record_bytes
small r h =
    let e : List ℕ = r.current ∷ r.startable ∷ [] in
    let d : List ℕ = slot_bytes (slot_at r 3) in
    let c : List ℕ = slot_bytes (slot_at r 2) in
    let b : List ℕ = slot_bytes (slot_at r 1) in
    each (slot_bytes (slot_at r 0)) (b ++ (c ++ (d ++ e))) (slot_small (slot_at r 0) (h.tries 0))
    (each b (c ++ (d ++ e)) (slot_small (slot_at r 1) (h.tries 1))
    (each c (d ++ e) (slot_small (slot_at r 2) (h.tries 2))
    (each d e (slot_small (slot_at r 3) (h.tries 3)) (two_small r.current r.startable h.current h.startable))))

long : (r : Record) → length (record_bytes r) ≡ 22
unfolding record_bytes
long r = refl

pub promises : Promises
promises =
    record {
      written = λ r h. record { long = long r; bytes = small r h; right = right r; again = again r h.four };
      read = read;
    }
