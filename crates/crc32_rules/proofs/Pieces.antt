-- A slice byte after byte, and two pieces whose states are worked out apart.
-- Assumes nothing.
use mathlib.Core.Path.{◌≡◌, refl, sym, ap, ap₂, ◌∙◌}
use mathlib.Core.List.{List, [], ◌∷◌}
use Prim.Native.Nat.{ℕ, ◌+◌, ◌-◌, ◌≤◌, ◌<◌}
use native.Mathlib.Numerals.{add-one}
use native.Mathlib.Omega.{arith}
use lib.Bits.{bit_xor, xor_zero_r}
use lib.ListN.{length, get_or, take, drop, replicate, length-drop, take-append-drop}
use Rattle.std.proofs.lemmas.List.Edits.{get_or-between}
use lib.Seq.{drop-cons, drop-drop, drop-length, length-take-le}
use Rattle.crc32_rules.specs.Crc.{steps, byte_step, crc_from}
use Rattle.crc32_rules.specs.Power.{unit}
use Rattle.crc32_rules.proofs.Xor.{xor_assoc}
use Rattle.crc32_rules.proofs.Linear.{steps_xor}
use Rattle.crc32_rules.proofs.Laws.{crc-append, crc_zeros_add}

-- ---- byte after byte

-- at byte i of xs: the state over what is left, from s, is the state over the whole, from s₀
abbrev pub Lane : ℕ → List ℕ → ℕ → ℕ → Type 0
Lane s₀ xs s i = crc_from s₀ xs ≡ crc_from s (drop i xs)

pub lane_start : (s : ℕ) (xs : List ℕ) → Lane s xs s 0
lane_start s xs = refl

pub lane_more : (s₀ : ℕ) (xs : List ℕ) (s i x : ℕ) → i < length xs → x ≡ byte_step s (get_or xs i 0) → Lane s₀ xs s i → Lane s₀ xs x (i + 1)
unfolding crc_from
lane_more s₀ xs s i x h e l =
    l ∙ ap (crc_from s) (drop-cons xs i 0 h)
    ∙ ap₂ (λ (y j : ℕ). crc_from y (drop j xs)) (sym e) (sym (add-one i))

pub lane_done : (s₀ : ℕ) (xs : List ℕ) (s i : ℕ) → i ≡ length xs → Lane s₀ xs s i → s ≡ crc_from s₀ xs
unfolding crc_from
lane_done s₀ xs s i e l =
    sym (l ∙ ap (λ (j : ℕ). crc_from s (drop j xs)) e ∙ ap (crc_from s) (drop-length xs))

-- one zero byte more
pub zeros_more : (s₀ s i x : ℕ) → x ≡ byte_step s 0 → s ≡ crc_from s₀ (replicate i 0) → x ≡ crc_from s₀ (replicate (i + 1) 0)
unfolding crc_from
zeros_more s₀ s i x e z = e ∙ ap (λ (y : ℕ). byte_step y 0) z ∙ sym (crc_zeros_add s₀ i 1)

-- ---- part after part

-- the bytes of xs from f up to t
abbrev pub part : ℕ → ℕ → List ℕ → List ℕ
part f t xs = take (t - f) (drop f xs)

pub part_length : (f t : ℕ) (xs : List ℕ) → f ≤ t → t ≤ length xs → length (part f t xs) ≡ t - f
part_length f t xs h k = length-take-le (t - f) (drop f xs) (simp length-drop (omega arith))

-- a lane over a part: byte i of it is byte j of the whole
pub lane_next : (s₀ f t : ℕ) (xs : List ℕ) (s i j x : ℕ) → i < t - f → t ≤ length xs → j ≡ f + i → x ≡ byte_step s (get_or xs j 0)
    → Lane s₀ (part f t xs) s i → Lane s₀ (part f t xs) x (i + 1)
lane_next s₀ f t xs s i j x h k a e l =
    let here : get_or (part f t xs) i 0 ≡ get_or xs j 0 = get_or-between xs f t i 0 (omega arith) ∙ ap (λ (n : ℕ). get_or xs n 0) (sym a) in
    lane_more s₀ (part f t xs) s i x (omega (arith, part_length f t xs (omega arith) k)) (e ∙ ap (byte_step s) (sym here)) l

pub lane_part : (s₀ : ℕ) (xs : List ℕ) (s f t r : ℕ) → f ≤ t → r ≡ crc_from s (part f t xs) → Lane s₀ xs s f → Lane s₀ xs r t
lane_part s₀ xs s f t r h e l =
    let back : f + (t - f) ≡ t = omega arith in
    l ∙ ap (crc_from s) (sym (take-append-drop (t - f) (drop f xs)))
    ∙ crc-append s (part f t xs) (drop (t - f) (drop f xs))
    ∙ ap₂ (λ (y : ℕ) (ys : List ℕ). crc_from y ys) (sym e) (drop-drop (t - f) f xs ∙ ap (λ (j : ℕ). drop j xs) back)

-- a lane that has gone over its part from 0, joined to the lane before it: z is what as many zero bytes make of one
pub lane_joined : (s₀ : ℕ) (xs : List ℕ) (s f t z i l r : ℕ) → f ≤ t → t ≤ length xs → i ≡ t - f → z ≡ crc_from unit (replicate i 0)
    → Lane 0 (part f t xs) l i
    → ((ys : List ℕ) → z ≡ crc_from unit (replicate (length ys) 0) → l ≡ crc_from 0 ys → r ≡ crc_from s ys)
    → Lane s₀ xs s f → Lane s₀ xs r t
lane_joined s₀ xs s f t z i l r h k e power lane join before =
    let long : i ≡ length (part f t xs) = e ∙ sym (part_length f t xs h k) in
    let zeros : z ≡ crc_from unit (replicate (length (part f t xs)) 0) = power ∙ ap (λ (n : ℕ). crc_from unit (replicate n 0)) long in
    lane_part s₀ xs s f t r h (join (part f t xs) zeros (lane_done 0 (part f t xs) l i long lane)) before

-- ---- two pieces apart

-- a state goes over bytes as it goes over as many zero bytes, and the bytes' own state is added
crc_xor : (xs : List ℕ) (a b : ℕ) → crc_from (bit_xor a b) xs ≡ bit_xor (crc_from a (replicate (length xs) 0)) (crc_from b xs)
unfolding crc_from byte_step
crc_xor [] a b = refl
crc_xor (x ∷ xs) a b =
    ap (λ (s : ℕ). crc_from s xs)
    (ap (steps 8) (xor_assoc a b x)
    ∙ steps_xor 8 a (bit_xor b x)
    ∙ ap (λ (s : ℕ). bit_xor (steps 8 s) (byte_step b x)) (sym (xor_zero_r a)))
    ∙ crc_xor xs (byte_step a 0) (byte_step b x)

pub crc_join : (xs : List ℕ) (a : ℕ) → crc_from a xs ≡ bit_xor (crc_from a (replicate (length xs) 0)) (crc_from 0 xs)
crc_join xs a = ap (λ (s : ℕ). crc_from s xs) (sym (xor_zero_r a)) ∙ crc_xor xs a 0
