-- Laws of bytes stored one after the other: in two parts, past the end, at the start, stored anew, and read where they stand.
-- Assumes nothing.
use mathlib.Core.Path.{◌≡◌, refl, sym, ap, ◌∙◌}
use mathlib.Core.List.{List, [], ◌∷◌, ◌++◌, append_assoc}
use Prim.Native.Nat.{ℕ, suc, ◌+◌, ◌-◌, ◌≤◌, ◌<◌}
use native.Mathlib.Nat.{add-zero}
use native.Mathlib.Omega.{arith}
use lib.ListN.{length, get_or, set, take, drop, length-append}
use lib.Seq.{sets, sets-eq, length-sets, set_out, set-set, set_comm, take-nil, take_all, take_at, drop-nil, drop_at, length-take-le, get_or-drop, get_or-append-add}

-- a list in two parts
pub sets-append : (xs ys l : List ℕ) (i : ℕ) → sets l i (xs ++ ys) ≡ sets (sets l i xs) (i + length xs) ys
sets-append [] ys l i = rw add-zero
sets-append (x ∷ xs) ys l i = let e : suc i + length xs ≡ i + suc (length xs) = omega arith in sets-append xs ys (set l i x) (suc i) ∙ rw e

-- past the end nothing is stored
pub sets_past : (vs l : List ℕ) (i : ℕ) → length l ≤ i → sets l i vs ≡ l
sets_past [] l i h = refl
sets_past (v ∷ vs) l i h = rw (set_out l i v h) (sets_past vs l (suc i) (omega arith))

-- a first element stays where the stores begin after it
sets_after : (vs l : List ℕ) (x i : ℕ) → sets (x ∷ l) (suc i) vs ≡ x ∷ sets l i vs
sets_after [] l x i = refl
sets_after (v ∷ vs) l x i = sets_after vs (set l i v) x (suc i)

-- from the start on: as much as has room, then what was held
pub sets_start : (vs l : List ℕ) → sets l 0 vs ≡ take (length l) vs ++ drop (length vs) l
sets_start [] l = rw (take-nil (length l))
sets_start (v ∷ vs) [] = sets_past vs [] 1 (omega arith) ∙ sym (drop-nil (suc (length vs)))
sets_start (v ∷ vs) (x ∷ l) = sets_after vs l v 0 ∙ ap (λ (r : List ℕ). v ∷ r) (sets_start vs l)

-- where all has room
pub sets_whole : (vs l : List ℕ) → length vs ≤ length l → sets l 0 vs ≡ vs ++ drop (length vs) l
sets_whole vs l h = sets_start vs l ∙ rw (take_all (length l) vs h)

-- what stands past a front is as it was without it
pub past_front : (vs l : List ℕ) (i : ℕ) → length vs ≤ i → get_or (vs ++ drop (length vs) l) i 0 ≡ get_or l i 0
past_front vs l i h =
    let z : i ≡ length vs + (i - length vs) = omega arith in
    ap (λ (k : ℕ). get_or (vs ++ drop (length vs) l) k 0) z ∙ get_or-append-add vs (drop (length vs) l) (i - length vs) 0
    ∙ get_or-drop (length vs) l (i - length vs) 0 ∙ ap (λ (k : ℕ). get_or l k 0) (sym z)

-- a byte before them can be stored first
set_before : (vs l : List ℕ) (i j x : ℕ) → i < j → set (sets l j vs) i x ≡ sets (set l i x) j vs
set_before [] l i j x h = refl
set_before (v ∷ vs) l i j x h =
    set_before vs (set l j v) i (suc j) x (omega arith) ∙ ap (λ (r : List ℕ). sets r (suc j) vs) (set_comm l j i v x (λ e. absurd (omega arith)))

-- the first bytes stored anew
pub sets_anew : (xs ys zs l : List ℕ) (i : ℕ) → length ys ≡ length xs → sets (sets l i (xs ++ zs)) i ys ≡ sets l i (ys ++ zs)
sets_anew [] [] zs l i e = refl
sets_anew [] (y ∷ ys) zs l i e = absurd (omega arith)
sets_anew (x ∷ xs) [] zs l i e = absurd (omega arith)
sets_anew (x ∷ xs) (y ∷ ys) zs l i e =
    ap (λ (r : List ℕ). sets r (suc i) ys) (set_before (xs ++ zs) (set l i x) i (suc i) y (omega arith) ∙ ap (λ (r : List ℕ). sets r (suc i) (xs ++ zs)) (set-set l i x y))
    ∙ sets_anew xs ys zs (set l i y) (suc i) (omega arith)

-- what was stored, read where it stands
pub sets_at : (vs l : List ℕ) (i : ℕ) → i + length vs ≤ length l → take (length vs) (drop i (sets l i vs)) ≡ vs
sets_at vs l i h =
    let e : length (take i l) ≡ i = length-take-le i l (omega arith) in
    ap (λ (r : List ℕ). take (length vs) (drop i r)) (sets-eq vs l i h ∙ append_assoc (take i l) vs (drop (i + length vs) l))
    ∙ ap (take (length vs)) (drop_at (take i l) (vs ++ drop (i + length vs) l) i e)
    ∙ take_at vs (drop (i + length vs) l) (length vs) refl

-- the start stored after the rest
pub sets_around : (xs ys l : List ℕ) (i : ℕ) → length xs ≡ i → i + length ys ≤ length l → sets (sets l i ys) 0 xs ≡ sets l 0 (xs ++ ys)
sets_around xs ys l i e h =
    let t : length (take i l) ≡ i = length-take-le i l (omega arith) in
    let long : length (sets l i ys) ≡ length l = length-sets l i ys in
    let both : length (xs ++ ys) ≡ i + length ys = length-append xs ys ∙ ap (λ (n : ℕ). n + length ys) e in
    sets_whole xs (sets l i ys) (omega arith)
    ∙ ap (λ (n : ℕ). xs ++ drop n (sets l i ys)) e
    ∙ ap (λ (r : List ℕ). xs ++ drop i r) (sets-eq ys l i h ∙ append_assoc (take i l) ys (drop (i + length ys) l))
    ∙ ap (λ (r : List ℕ). xs ++ r) (drop_at (take i l) (ys ++ drop (i + length ys) l) i t)
    ∙ sym (sets_whole (xs ++ ys) l (omega arith) ∙ rw both (append_assoc xs ys (drop (i + length ys) l)))
