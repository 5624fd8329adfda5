-- Bytes put into a buffer one part after the other.
-- Assumes nothing.
use mathlib.Core.Path.{◌≡◌, refl, sym, ap, ◌∙◌}
use mathlib.Core.Bool.{Bool, true, false}
use mathlib.Core.List.{List, [], ◌++◌}
use Prim.Native.Nat.{ℕ, ◌+◌, ◌≤◌, ◌<◌}
use native.Mathlib.Omega.{arith}
use borrow.Author.Tests.{ltb-true, ltb-false}
use lib.Dec.{ltb}
use lib.ListN.{length, take, drop, length-append}
use lib.Seq.{sets, length-sets}
use Rattle.fields_rules.proofs.Sets.{sets-append, sets_past, sets_start}
use Rattle.text_rules.specs.Put.{Put}

-- a buffer keeps its length
pub put_length : {a b : List ℕ} {at n : ℕ} {x : List ℕ} → Put a at x b n → length b ≡ length a
put_length {a} {b} {at} {n} {x} p = ap length p.stored ∙ length-sets a at x

-- nothing is put: the buffer stays, and so does the place
pub put_nothing : {a : List ℕ} {at : ℕ} → at < 0x10000000000000000 → Put a at [] a at
put_nothing h = record { stored = refl; past = omega arith }

-- one part after another: where the place for the second is the last one, it lies past the end, as the part would
pub put_then : {a b c : List ℕ} {at m n : ℕ} {x y : List ℕ} → length a < 0x10000000000000000 → Put a at x b m → Put b m y c n → Put a at (x ++ y) c n
put_then {a} {b} {c} {at} {m} {n} {x} {y} room p q =
    record { stored = q.stored ∙ rest (ltb (at + length x) 0x10000000000000000) refl ∙ rw p.stored (sym (sets-append x y a at)); past = omega (arith, p.past, q.past, length-append x y) }
  where
    rest : (z : Bool) → ltb (at + length x) 0x10000000000000000 ≡ z → sets b m y ≡ sets b (at + length x) y
    rest true e = let l : at + length x < 0x10000000000000000 = ltb-true _ _ e in let same : m ≡ at + length x = omega (arith, p.past) in rw same
    rest false e =
        let l : 0x10000000000000000 ≤ at + length x = ltb-false _ _ e in
        sets_past y b m (omega (arith, p.past, put_length p)) ∙ sym (sets_past y b (at + length x) (omega (arith, put_length p)))

-- what is put from the start on, where 64 bits name its length
pub put_start : {a b : List ℕ} {n : ℕ} {x : List ℕ} → length x < 0x10000000000000000 → Put a 0 x b n
    → (n ≡ length x) × (b ≡ take (length a) x ++ drop (length x) a)
put_start {a} {b} {n} {x} short p = (omega (arith, p.past), p.stored ∙ sets_start x a)
