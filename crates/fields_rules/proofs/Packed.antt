-- Laws of fields one after the other: put at their places, and read from theirs.
-- Assumes nothing.
use mathlib.Core.Path.{◌≡◌, refl, sym, ap, ◌∙◌}
use mathlib.Core.List.{List, [], ◌∷◌, ◌++◌, append_assoc}
use Prim.Native.Nat.{ℕ, zero, suc, ◌+◌, ◌*◌, ◌/◌, ◌%◌, ◌≤◌}
use native.Mathlib.Nat.{add-zero}
use native.Mathlib.Omega.{arith}
use lib.ListN.{length, get_or, drop, length-append}
use lib.Seq.{sets, length-sets, drop-cons}
use Rattle.fields_rules.specs.Number.{number_at, bytes, packed, Bytes, placed}
use Rattle.fields_rules.proofs.Laws.{length_bytes, bytes_number, bytes_append, placed_whole}
use Rattle.fields_rules.proofs.Sets.{sets-append}

-- a field put at its place, with those that are left
pub field_put : (w v : ℕ) (fs : List (ℕ × ℕ)) (l : List ℕ) (i : ℕ) {m : List ℕ} → m ≡ placed l i (bytes w v) → i + w ≤ length l
    → (sets l i (packed ((w, v) ∷ fs)) ≡ sets m (i + w) (packed fs)) × (length m ≡ length l)
unfolding packed
field_put w v fs l i e h =
    let whole = e ∙ placed_whole l i (bytes w v) (rw (length_bytes w v) h) in
    (sets-append (bytes w v) (packed fs) l i ∙ rw (length_bytes, ← whole), ap length whole ∙ length-sets l i (bytes w v))

-- fields put one after the other from a place on
abbrev pub puts : List ℕ → ℕ → List (ℕ × ℕ) → List ℕ
puts l i [] = l
puts l i (f ∷ fs) = puts (placed l i (bytes f.0 f.1)) (i + f.0) fs

-- where all have room
pub puts_packed : (l : List ℕ) (i : ℕ) (fs : List (ℕ × ℕ)) → i + length (packed fs) ≤ length l → puts l i fs ≡ sets l i (packed fs)
unfolding packed
puts_packed l i [] h = refl
puts_packed l i (f ∷ fs) h =
    let long : length (bytes f.0 f.1 ++ packed fs) ≡ f.0 + length (packed fs) =
    length-append (bytes f.0 f.1) (packed fs) ∙ ap (λ (n : ℕ). n + length (packed fs)) (length_bytes f.0 f.1) in
    let put = field_put f.0 f.1 fs l i refl (omega arith) in
    puts_packed (placed l i (bytes f.0 f.1)) (i + f.0) fs (omega arith) ∙ sym put.0

-- fields are bytes
pub bytes_packed : (fs : List (ℕ × ℕ)) → Bytes (packed fs)
unfolding packed
bytes_packed [] i = omega arith
bytes_packed (f ∷ fs) i = bytes_append (bytes f.0 f.1) (packed fs) (bytes_number f.0 f.1) (bytes_packed fs) i

-- the fields of some widths that stand one after the other from a place on
abbrev pub fields_at : List ℕ → ℕ → List ℕ → List (ℕ × ℕ)
fields_at s at [] = []
fields_at s at (w ∷ ws) = (w, number_at s at w) ∷ fields_at s (at + w) ws

-- where they end
abbrev pub after : ℕ → List ℕ → ℕ
after at [] = at
after at (w ∷ ws) = after (at + w) ws

-- they end no earlier than they begin
after_least : (at : ℕ) (ws : List ℕ) → at ≤ after at ws
after_least at [] = omega arith
after_least at (w ∷ ws) = omega (arith, after_least (at + w) ws)

-- a field that is read and put again is the bytes that it was read from
field_again : (s : List ℕ) → Bytes s → (at w : ℕ) → at + w ≤ length s → bytes w (number_at s at w) ++ drop (at + w) s ≡ drop at s
unfolding number_at
field_again s small at zero h = rw add-zero
field_again s small at (suc w) h =
    let low : (get_or s at 0 + 256 * number_at s (suc at) w) % 256 ≡ get_or s at 0 = omega (arith, small at) in
    let high : (get_or s at 0 + 256 * number_at s (suc at) w) / 256 ≡ number_at s (suc at) w = omega (arith, small at) in
    let next : at + suc w ≡ suc at + w = omega arith in
    rw (low, high, next, field_again s small (suc at) w (omega arith)) (sym (drop-cons s at 0 (omega arith)))

-- and so are fields one after the other
pub packed_again : (s : List ℕ) → Bytes s → (at : ℕ) (ws : List ℕ) → after at ws ≤ length s
    → packed (fields_at s at ws) ++ drop (after at ws) s ≡ drop at s
unfolding packed
packed_again s small at [] h = refl
packed_again s small at (w ∷ ws) h =
    append_assoc (bytes w (number_at s at w)) (packed (fields_at s (at + w) ws)) (drop (after (at + w) ws) s)
    ∙ ap (λ (r : List ℕ). bytes w (number_at s at w) ++ r) (packed_again s small (at + w) ws h)
    ∙ field_again s small at w (omega (arith, after_least (at + w) ws))
