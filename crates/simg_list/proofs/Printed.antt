-- The text of an input in the buffer that is printed.
-- Assumes nothing.
use mathlib.Core.Path.{◌≡◌, sym, ap}
use mathlib.Core.List.{List, ◌++◌}
use Prim.Native.Nat.{ℕ, ◌≤◌}
use native.Mathlib.Omega.{arith}
use lib.ListN.{length, take, drop}
use borrow.Author.Tests.{leb-true, leb-false}
use Rattle.std.proofs.Math.Seq.{take-append_seam}
use Rattle.std.proofs.lemmas.List.{take_all}
use Rattle.std.specs.Prelude.{Ok, Err}
use Rattle.sparse_list_rules.specs.declared.TooShort.{TooShort}
use Rattle.sparse_list_rules.specs.Listing.{listing, output, held_of, held, most}
use Rattle.sparse_list_rules.proofs.Room.{always_whole, whole_fits}

-- a list before another, by its length
pub front : (n : ℕ) (xs ys : List ℕ) → n ≡ length xs → take n (xs ++ ys) ≡ xs
front n xs ys e = rw e (take-append_seam xs ys)

-- a text that the buffer holds whole stands at its start
pub start_of : (s out b : List ℕ) (n : ℕ) → held_of (Ok n) ≡ held s (length out) → b ≡ output s out → take n b ≡ listing s
unfolding held output
start_of s out b n e q =
    let long : n ≡ length (listing s) = ap (λ x. x.long) e in
    let inside : n ≤ length out = whole_fits s (length out) n e in
    let all : take (length out) (listing s) ≡ listing s = take_all (length out) (listing s) (omega (arith, long, inside)) in
    rw (q, long, all) (take-append_seam (listing s) (drop (length (listing s)) out))

-- a long buffer holds each text whole
pub never_short : (s : List ℕ) (room : ℕ) (e : TooShort) → most ≤ room → held_of (Err e) ≡ held s room → ⊥
unfolding held
never_short s room e p q =
    let fits = leb-true (length (listing s)) room (always_whole s room p) in
    let over = leb-false (length (listing s)) room (sym (ap (λ x. x.whole) q)) in
    omega (arith, fits, over)
