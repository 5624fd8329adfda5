-- Laws of fields, over every width: the bound of a field, fields of lists that are joined or agree, a number's bytes read back,
-- and bytes that fit at a place or do not.
-- Assumes nothing.
use mathlib.Core.Path.{◌≡◌, refl, sym, ap, ap₂, ◌∙◌}
use mathlib.Core.Bool.{Bool, true, false, cond}
use mathlib.Core.List.{List, [], ◌∷◌, ◌++◌}
use Prim.Native.Nat.{ℕ, zero, suc, ◌+◌, ◌-◌, ◌*◌, ◌^◌, ◌/◌, ◌%◌, ◌≤◌, ◌<◌}
use native.Mathlib.Nat.{pow-suc, div-add-mod', add-zero, mod-lt, zero-lt-suc, not-suc-le-zero, le_of_suc-le-suc}
use native.Mathlib.Omega.{arith}
use lib.Arith.{mod-mul}
use lib.ListN.{length, get_or, drop, get_or-append}
use lib.Seq.{sets, length-sets, get_or-drop, get_or-append-add}
use borrow.Author.Tests.{le-leb, lt-leb}
use lib.Dec.{leb}
use Rattle.fields_rules.specs.Number.{number_at, bytes, Bytes, placed}

-- a field that lies in a list's beginning is the beginning's
pub number_append : (s t : List ℕ) (at w : ℕ) → at + w ≤ length s → number_at (s ++ t) at w ≡ number_at s at w
unfolding number_at
number_append s t at zero h = refl
number_append s t at (suc w) h =
    let here : get_or (s ++ t) at 0 ≡ get_or s at 0 = get_or-append s t 0 at (omega arith) in
    let rest : number_at (s ++ t) (suc at) w ≡ number_at s (suc at) w = number_append s t (suc at) w (omega arith) in
    rw (here, rest)

-- a field past a list's beginning is the rest's
pub number_past : (s t : List ℕ) (at w : ℕ) → number_at (s ++ t) (length s + at) w ≡ number_at t at w
unfolding number_at
number_past s t at zero = refl
number_past s t at (suc w) =
    let here : get_or (s ++ t) (length s + at) 0 ≡ get_or t at 0 = get_or-append-add s t at 0 in
    let next : suc (length s + at) ≡ length s + suc at = omega arith in
    rw (here, next, number_past s t (suc at) w)

-- fields whose bytes are the same are the same
pub number_same : (s t : List ℕ) (at to w : ℕ) → ((i : ℕ) → i < w → get_or s (at + i) 0 ≡ get_or t (to + i) 0) → number_at s at w ≡ number_at t to w
unfolding number_at
number_same s t at to zero h = refl
number_same s t at to (suc w) h =
    let here : get_or s at 0 ≡ get_or t to 0 = simp add-zero at (h 0 (omega arith)) in
    let rest : number_at s (suc at) w ≡ number_at t (suc to) w =
    number_same s t (suc at) (suc to) w
    (λ i l. let p : suc at + i ≡ at + suc i = omega arith in let q : suc to + i ≡ to + suc i = omega arith in rw (p, q) (h (suc i) (omega arith))) in
    rw (here, rest)

-- a field counted from a place
pub number_drop : (s : List ℕ) (at i w : ℕ) → number_at s (at + i) w ≡ number_at (drop at s) i w
number_drop s at i w =
    number_same s (drop at s) (at + i) i w
    (λ j l. let e : at + i + j ≡ at + (i + j) = omega arith in sym (get_or-drop at s (i + j) 0 ∙ rw e))

-- the bytes of a number are so many
pub length_bytes : (w v : ℕ) → length (bytes w v) ≡ w
length_bytes zero v = refl
length_bytes (suc w) v = ap suc (length_bytes w (v / 256))

-- a number's bytes, read back, are the number
pub number_bytes : (w v : ℕ) (t : List ℕ) → v < 256 ^ w → number_at (bytes w v ++ t) 0 w ≡ v
unfolding number_at
number_bytes zero v t h = omega arith
number_bytes (suc w) v t h =
    let small : v / 256 < 256 ^ w = omega (arith, rw (pow-suc 256 w) at h) in
    rw (number_past (v % 256 ∷ []) (bytes w (v / 256) ++ t) 0 w, number_bytes w (v / 256) t small) (omega (arith, div-add-mod' v 256))

-- one byte more, above
pub more : (p value byte : ℕ) → value < p → byte < 256 → byte + 256 * value < p * 256
more p value byte h b = omega arith

-- a field of w bytes is below 256 ^ w
pub number_bound : (s : List ℕ) → Bytes s → (at w : ℕ) → number_at s at w < 256 ^ w
unfolding number_at
number_bound s small at zero = omega arith
number_bound s small at (suc w) = rw (pow-suc 256 w) (more (256 ^ w) (number_at s (suc at) w) (get_or s at 0) (number_bound s small (suc at) w) (small at))

-- the bytes of a field are those that it was read from
pub number_byte : (s : List ℕ) → Bytes s → (at w i : ℕ) → i < w → get_or (bytes w (number_at s at w)) i 0 ≡ get_or s (at + i) 0
unfolding number_at
number_byte s small at zero i h = absurd (not-suc-le-zero h)
number_byte s small at (suc w) zero h = rw (add-zero at) (omega (arith, small at))
number_byte s small at (suc w) (suc i) h =
    let high : (get_or s at 0 + 256 * number_at s (suc at) w) / 256 ≡ number_at s (suc at) w = omega (arith, small at) in
    let next : suc at + i ≡ at + suc i = omega arith in
    rw high (number_byte s small (suc at) w i (le_of_suc-le-suc h) ∙ rw next)

-- a number's bytes are bytes
pub bytes_number : (w v : ℕ) → Bytes (bytes w v)
bytes_number zero v i = omega arith
bytes_number (suc w) v zero = mod-lt v (zero-lt-suc 255)
bytes_number (suc w) v (suc i) = bytes_number w (v / 256) i

-- of a number that is put in so many bytes the rest does not count
pub bytes_low : (w v p : ℕ) → 256 ^ w ≡ p → 0 < p → bytes w (v % p) ≡ bytes w v
bytes_low zero v p e h = refl
bytes_low (suc w) v p e h =
    let q : p ≡ 256 ^ w * 256 = sym e ∙ pow-suc 256 w in
    let some : 0 < 256 ^ w = omega arith in
    let low = mod-lt v (zero-lt-suc 255) in
    let m : v % p ≡ v / 256 % 256 ^ w * 256 + v % 256 = rw q (mod-mul v some (zero-lt-suc 255)) in
    let byte : v % p % 256 ≡ v % 256 = omega arith in
    let on : v % p / 256 ≡ v / 256 % 256 ^ w = omega arith in
    ap₂ (λ (b : ℕ) (r : List ℕ). b ∷ r) byte (ap (bytes w) on ∙ bytes_low w (v / 256) (256 ^ w) refl some)

-- and so are bytes that are joined
pub bytes_append : (xs ys : List ℕ) → Bytes xs → Bytes ys → Bytes (xs ++ ys)
bytes_append [] ys p q i = q i
bytes_append (x ∷ xs) ys p q zero = p 0
bytes_append (x ∷ xs) ys p q (suc i) = bytes_append xs ys (λ j. p (suc j)) q i

-- bytes that do not fit change nothing
pub placed_none : (s : List ℕ) (at : ℕ) (xs : List ℕ) → length s < at + length xs → placed s at xs ≡ s
unfolding placed
placed_none s at xs h = rw (lt-leb (at + length xs) (length s) h)

-- those that fit are stored one after the other
pub placed_whole : (s : List ℕ) (at : ℕ) (xs : List ℕ) → at + length xs ≤ length s → placed s at xs ≡ sets s at xs
unfolding placed
placed_whole s at xs h = rw (le-leb (at + length xs) (length s) h)

-- bytes that have room are stored; where there are none, it does not matter where they would stand
pub placed_room : (s : List ℕ) (at : ℕ) (xs : List ℕ) → length xs ≤ length s - at → placed s at xs ≡ sets s at xs
unfolding placed
placed_room s at [] h = go (leb (at + 0) (length s))
  where
    go : (x : Bool) → cond x s s ≡ s
    go true = refl
    go false = refl
placed_room s at (x ∷ xs) h = placed_whole s at (x ∷ xs) (omega arith)

-- what bytes are stored in stays as long as it was
pub length_placed : (s : List ℕ) (at : ℕ) (xs : List ℕ) → length (placed s at xs) ≡ length s
unfolding placed
length_placed s at xs = go (leb (at + length xs) (length s))
  where
    go : (x : Bool) → length (cond x (sets s at xs) s) ≡ length s
    go true = length-sets s at xs
    go false = refl
