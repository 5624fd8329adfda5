-- A number's bytes as std gives them, bytes that have no room, and the turns of a loop that stores bytes.
-- Assumes nothing.
use mathlib.Core.Path.{◌≡◌, refl, sym, ap, ap₂, ◌∙◌}
use mathlib.Core.Bool.{Bool, true, false}
use mathlib.Core.List.{List, ◌∷◌}
use Prim.Native.Nat.{ℕ, zero, suc, ◌+◌, ◌-◌, ◌/◌, ◌%◌, ◌^◌, ◌≤◌, ◌<◌, min}
use native.Mathlib.Nat.{pow-suc, div-div-eq-div-mul}
use native.Mathlib.Omega.{arith}
use borrow.Author.Tests.{ltb-true, ltb-false}
use lib.Dec.{ltb}
use lib.ListN.{length, get_or, set, take, drop, length-set, drop_of_length-le, take-append-drop}
use lib.Seq.{sets, drop-cons, length-sets, length-take-le, take_all}
use Rattle.fields_rules.specs.Number.{bytes}
use Rattle.fields_rules.proofs.Sets.{sets_past, sets-append}
use Rattle.std.specs.Int.{bytes_low_first, byte_at}

-- the bytes of a number that std gives, from byte i on, are those of the format
bytes_le : (i w v : ℕ) → bytes_low_first i w v ≡ bytes w (v / 256 ^ i)
bytes_le i zero v = refl
bytes_le i (suc w) v =
    let here : byte_at i v ≡ v / 256 ^ i % 256 = here_is i in
    let next : v / 256 ^ suc i ≡ v / 256 ^ i / 256 = rw (pow-suc 256 i) (sym (div-div-eq-div-mul v (256 ^ i) 256)) in
    ap₂ (λ (b : ℕ) (bs : List ℕ). b ∷ bs) here (bytes_le (suc i) w v ∙ ap (bytes w) next)
  where
    here_is : (i : ℕ) → byte_at i v ≡ v / 256 ^ i % 256
    here_is zero = omega arith
    here_is (suc i) = refl

-- and so are all of them
pub le_bytes : (w v : ℕ) → bytes_low_first 0 w v ≡ bytes w v
le_bytes w v = let all : v / 256 ^ 0 ≡ v = omega arith in bytes_le 0 w v ∙ ap (bytes w) all

-- bytes past the end need not be left out
pub sets_room : (s src : List ℕ) (at fit : ℕ) → fit ≡ min (length src) (length s - at) → sets s at (take fit src) ≡ sets s at src
sets_room s src at fit e = go (ltb fit (length src)) refl
  where
    go : (x : Bool) → ltb fit (length src) ≡ x → sets s at (take fit src) ≡ sets s at src
    go true h =
        let l = ltb-true fit (length src) h in
        let some : length (take fit src) ≡ fit = length-take-le fit src (omega arith) in
        let out : length (sets s at (take fit src)) ≡ length s = length-sets s at (take fit src) in
        sym (sets_past (drop fit src) (sets s at (take fit src)) (at + length (take fit src)) (omega arith))
        ∙ sym (sets-append (take fit src) (drop fit src) s at)
        ∙ ap (sets s at) (take-append-drop fit src)
    go false h = ap (sets s at) (take_all fit src (ltb-false fit (length src) h))

-- so many bytes are copied, and the rest from here on gives the whole
pub record Copied (s : List ℕ) (at : ℕ) (src out : List ℕ) (i : ℕ) : Type 0 where
  pub same_length : length out ≡ length s
  pub inside : i ≤ length src
  pub rest : sets out (at + i) (drop i src) ≡ sets s at src

-- one byte more is copied
pub copied_more : (s : List ℕ) (at : ℕ) (src out : List ℕ) (i : ℕ) → Copied s at src out i → i < length src
    → Copied s at src (set out (at + i) (get_or src i 0)) (i + 1)
copied_more s at src out i copied h =
    let e : i + 1 ≡ suc i = omega arith in
    let next : at + (i + 1) ≡ suc (at + i) = omega arith in
    record {
      same_length = length-set out (at + i) (get_or src i 0) ∙ copied.same_length;
      inside = omega arith;
      rest = rw (next, e) (rw (drop-cons src i 0 h) at copied.rest);
    }

-- after the last that has room, all are
pub copied_all : (s : List ℕ) (at : ℕ) (src out : List ℕ) (i : ℕ) → Copied s at src out i → (i < length src → length out ≤ at + i) → out ≡ sets s at src
copied_all s at src out i copied h = go (ltb i (length src)) refl
  where
    go : (x : Bool) → ltb i (length src) ≡ x → out ≡ sets s at src
    go true e = sym (sets_past (drop i src) out (at + i) (h (ltb-true i (length src) e))) ∙ copied.rest
    go false e = rw (drop_of_length-le src (ltb-false i (length src) e)) at copied.rest
