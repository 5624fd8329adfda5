-- An image's own refusals, where it is judged as if the partition had room: 1 to 11 without 6.
-- Assumes nothing.
use mathlib.Core.Path.{◌≡◌, refl}
use mathlib.Core.Bool.{Bool, true, false, ◌&&◌, cond}
use mathlib.Core.List.{List, [], ◌∷◌}
use Prim.Native.Nat.{ℕ, zero, suc, ◌≤◌}
use native.Mathlib.Omega.{arith}
use borrow.Author.Tests.{le-ltb, eq-eqb}
use lib.Dec.{T, leb, eqb, leb→le}
use lib.ListN.{length}
use Rattle.rules.specs.First.{first}
use Rattle.rules.specs.Answer.{Answer, accepted, refused, unless, onward}
use Rattle.sparse_rules.specs.declared.Header.{Header}
use Rattle.sparse_rules.specs.declared.Cursor.{Cursor}
use Rattle.sparse_rules.specs.Header.{header_tests, header_of, total_chunks}
use Rattle.sparse_rules.specs.Chunks.{chunk, chunk_tests, chunk_at, next_cursor, reading}
use Rattle.sparse_rules.specs.Walk.{end_tests, walk, origin}
use Rattle.sparse_rules.specs.Judge.{sum_tests, summed, structure, judged}
use Rattle.sparse_blocks_rules.specs.Blocks.{needed, found}

-- a number that such a refusal can have
abbrev pub IsOwn : ℕ → Type 0
IsOwn n = (n ≤ 11) × (n ≡ 6 → ⊥)

-- an answer whose refusal has one
abbrev pub Own : {A : Type 0} → Answer A → Type 0
Own (accepted x) = Unit {0}
Own (refused n place) = IsOwn n

unless_own : {A : Type 0} (n place : ℕ) (a : Answer A) → IsOwn n → Own a → Own (unless n place a)
unless_own zero place a h k = k
unless_own (suc n) place a h k = h

onward_own : {A B : Type 0} (a : Answer A) (go : A → Answer B) → Own a → ((x : A) → Own (go x)) → Own (onward a go)
onward_own (accepted x) go h k = k x
onward_own (refused n place) go h k = h

-- tests with such numbers: one that has 6 fails
abbrev OwnTests : List (Bool × ℕ) → Type 0
OwnTests [] = Unit {0}
OwnTests (t ∷ ts) = T (leb t.1 11) × ((eqb t.1 6 && t.0) ≡ false) × OwnTests ts

first_own : (ts : List (Bool × ℕ)) → OwnTests ts → IsOwn (first ts)
first_own [] n = (omega arith, λ e. omega arith)
first_own (t ∷ ts) n = go t.0 n.1 (first_own ts n.2)
  where
    go : (x : Bool) → (eqb t.1 6 && x) ≡ false → IsOwn (first ts) → IsOwn (cond x t.1 (first ts))
    go true f rest = (leb→le t.1 11 n.0, λ e. let z : ◌≡◌ {A = ℕ} 0 1 = cc (f, eq-eqb t.1 6 e) in omega arith)
    go false f rest = rest

reading_own : (s : List ℕ) (len : ℕ) (h : Header) (c : Cursor) → Own (reading s len h c)
unfolding reading chunk_tests
reading_own s len h c =
    unless_own (first (chunk_tests s len h c)) c.at (chunk (chunk_at s h c) (next_cursor s c))
    (first_own (chunk_tests s len h c) (tt, refl, (tt, refl, (tt, refl, (tt, refl, tt))))) tt

walk_own : (s : List ℕ) (len : ℕ) (h : Header) (n : ℕ) (c : Cursor) → Own (walk s len h n c)
unfolding walk end_tests
walk_own s len h zero c = unless_own (first (end_tests len h c)) c.at (accepted []) (first_own (end_tests len h c) (tt, refl, (tt, refl, tt))) tt
walk_own s len h (suc n) c =
    onward_own (reading s len h c) _ (reading_own s len h c) (λ r. onward_own (walk s len h n r.1) _ (walk_own s len h n r.1) (λ ks. tt))

-- what is found of an image
pub found_own : (s : List ℕ) → Own (found s)
unfolding found judged header_tests summed sum_tests structure
found_own s =
    unless_own (first (header_tests s (length s) (needed s))) 0 (summed s (structure s (length s)))
    (first_own (header_tests s (length s) (needed s))
    (tt, refl, (tt, refl, (tt, refl, (tt, refl, (tt, refl, (tt, le-ltb (needed s) (needed s) (omega arith), tt)))))))
    (onward_own (structure s (length s)) _ (walk_own s (length s) (header_of s) (total_chunks s) (origin (header_of s)))
    (λ ks. unless_own (first (sum_tests s ks)) 24 (accepted ks) (first_own (sum_tests s ks) (tt, refl, tt)) tt))
