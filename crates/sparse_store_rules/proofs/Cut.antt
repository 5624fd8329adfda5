-- The laws of the cut form and of the plain store.
-- Assumes nothing.
use mathlib.Core.Path.{◌≡◌, refl, sym, ap, ◌∙◌}
use mathlib.Core.Option.{Option}
use mathlib.Core.List.{List, []}
use Prim.Native.Nat.{ℕ, ◌*◌, min, ◌≤◌, ◌<◌}
use native.Mathlib.Nat.{le_of_lt, min-eq_left, min-eq_right, mul-le-mul_right}
use native.Mathlib.Omega.{arith}
use lib.Dec.{leb}
use borrow.Author.Tests.{leb-true, leb-false}
use mathlib.Core.Bool.{Bool, true, false}
use lib.ListN.{length, replicate, length-replicate}
use Rattle.rules.specs.Answer.{accepted, refused, HasNumber}
use Rattle.rules.proofs.Answer.{onward_number}
use Rattle.sparse_rules.proofs.Theorems.{sums, refusal_numbers}
use Rattle.sparse_rules.specs.declared.Chunk.{Chunk}
use Rattle.sparse_rules.specs.Header.{block_size, total_blocks}
use Rattle.sparse_rules.specs.Walk.{Finding}
use Rattle.sparse_rules.specs.Cells.{count, cells}
use Rattle.sparse_rules.specs.Counts.{written}
use Rattle.sparse_rules.specs.Judge.{judged, effect}
use Rattle.sparse_rules.proofs.Cells.{count_cells}
use Rattle.sparse_store_rules.specs.Store.{over, torn, store, cut_store, store_up_to}
use Rattle.sparse_store_rules.specs.Answers.{cut_answer_for, cut_answer}
use Rattle.sparse_rules.proofs.Image.{effect_accepted, effect_refused}
use Rattle.sparse_store_rules.proofs.Over.{length_over, over_twice, cells_told}
use Rattle.sparse_store_rules.proofs.Torn.{torn_all, count_torn}

-- "Refusals store nothing"
pub refused_stores_nothing : (s p : List ℕ) (n place : ℕ) → judged s (length s) (length p) ≡ refused n place → store s p ≡ p
unfolding store
refused_stores_nothing s p n place e = rw (effect_refused s (length p) n place e)

-- nor does the cut form store any of it
pub refused_cut_nothing : (limit : ℕ) (s p : List ℕ) (n place : ℕ) → judged s (length s) (length p) ≡ refused n place
    → store_up_to limit s p ≡ p
unfolding store_up_to cut_store
refused_cut_nothing limit s p n place e = rw (effect_refused s (length p) n place e)

-- storing twice is storing once
pub store_twice : (s p : List ℕ) → store s (store s p) ≡ store s p
unfolding store
store_twice s p = rw (length_over (effect s (length p)) p) (over_twice (effect s (length p)) p)

-- ---- the cut form's answer

module _ (limit : ℕ) (s : List ℕ) (room : ℕ) where
  -- an accepted image is answered with the lesser of the limit and its written blocks
  pub cut_accepted : (ks : List Chunk) → judged s (length s) room ≡ accepted ks → cut_answer limit s room ≡ accepted (min limit (written ks))
  unfolding cut_answer cut_answer_for
  cut_accepted ks e = ap (cut_answer_for limit) e

  -- a refused one with its refusal
  pub cut_refused : (n place : ℕ) → judged s (length s) room ≡ refused n place → cut_answer limit s room ≡ refused n place
  unfolding cut_answer cut_answer_for
  cut_refused n place e = ap (cut_answer_for limit) e

-- ---- an accepted image

-- the lesser of two, each so many times
pub min_scaled : (a c b : ℕ) → min (a * b) (c * b) ≡ min a c * b
min_scaled a c b = go (leb a c) refl
  where
    go : (x : Bool) → leb a c ≡ x → min (a * b) (c * b) ≡ min a c * b
    go true q =
        let h : a ≤ c = leb-true a c q in
        let h' : a * b ≤ c * b = mul-le-mul_right b h in
        min-eq_left h' ∙ ap (λ (x : ℕ). x * b) (sym (min-eq_left h))
    go false q =
        let h : c ≤ a = le_of_lt (leb-false a c q) in
        let h' : c * b ≤ a * b = mul-le-mul_right b h in
        min-eq_right h' ∙ ap (λ (x : ℕ). x * b) (sym (min-eq_right h))

module _ (s p : List ℕ) (ks : List Chunk) (e : judged s (length s) (length p) ≡ accepted ks) where
  -- "The plain store is the cut form with a limit no smaller than the image's written blocks"
  pub limit_whole : (n : ℕ) → written ks ≤ n → store_up_to n s p ≡ store s p
  unfolding store store_up_to cut_store
  limit_whole n h =
      let all : count (effect s (length p)) ≤ n * block_size s =
      rw (effect_accepted s (length p) ks e, count_cells) (mul-le-mul_right (block_size s) h) in
      ap (λ (cs : List (Option ℕ)). over cs p) (torn_all (n * block_size s) [] (effect s (length p)) all)

  -- what a limit leaves: the cells of the chunks, cut after so many blocks, laid over the partition
  pub limit_cells : (n : ℕ) → store_up_to n s p ≡ over (torn (n * block_size s) [] (cells s (block_size s) ks)) p
  unfolding store_up_to cut_store
  limit_cells n = rw (effect_accepted s (length p) ks e)

  -- the count that comes back, times the block size, is the number of cells that the cut stores
  pub limit_counts : (n m : ℕ) → cut_answer n s (length p) ≡ accepted m
      → count (torn (n * block_size s) [] (effect s (length p))) ≡ m * block_size s
  limit_counts n m a =
      let least : min n (written ks) ≡ m = cc (cut_accepted n s (length p) ks e) in
      count_torn (n * block_size s) (effect s (length p))
      ∙ rw (effect_accepted s (length p) ks e, count_cells, min_scaled n (written ks) (block_size s), least)

-- the plain store lays the image's cells over the partition
pub store_cells : (s p : List ℕ) (cs : List (Option ℕ)) → effect s (length p) ≡ cs → store s p ≡ over cs p
unfolding store
store_cells s p cs e = ap (λ (x : List (Option ℕ)). over x p) e

-- no refusal of the cut form has the number 0
pub cut_numbers : (limit : ℕ) (s : List ℕ) (room : ℕ) → HasNumber (cut_answer limit s room)
unfolding cut_answer cut_answer_for
cut_numbers limit s room =
    onward_number (judged s (length s) room) (λ ks. accepted (min limit (written ks))) (refusal_numbers.images s (length s) room) (λ ks. tt)

-- an image whose blocks have no room is refused, and so gives nothing
pub no_room_gives_nothing : (s : List ℕ) (room : ℕ) → room < total_blocks s * block_size s → effect s room ≡ []
no_room_gives_nothing s room h = go (judged s (length s) room) refl
  where
    go : (f : Finding) → judged s (length s) room ≡ f → effect s room ≡ []
    go (accepted ks) e = absurd (omega (arith, (sums s (length s) room ks e).fits))
    go (refused n place) e = effect_refused s room n place e

-- it stores nothing
pub no_room_stores_nothing : (s p : List ℕ) → length p < total_blocks s * block_size s → store s p ≡ p
no_room_stores_nothing s p h = store_cells s p [] (no_room_gives_nothing s (length p) h)

-- images that give every one of n bytes a cell, and leave the same of n zeros, and of n ones, give the same
pub effects_told : (i j : List ℕ) (n : ℕ) → length (effect i n) ≡ n → length (effect j n) ≡ n
    → ((v : ℕ) → v < 2 → store i (replicate n v) ≡ store j (replicate n v)) → effect i n ≡ effect j n
unfolding store
effects_told i j n k l h =
    let on : (v : ℕ) → v < 2 → over (effect i n) (replicate n v) ≡ over (effect j n) (replicate n v) =
    λ v f. rw length-replicate at (h v f) in
    cells_told n (effect i n) (effect j n) k l (on 0 (omega arith)) (on 1 (omega arith))
