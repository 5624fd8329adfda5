-- The exits of the cut form and of the plain store, from what the judge answers.
-- Assumes nothing.
use mathlib.Core.Path.{◌≡◌, refl, sym, ap, ◌∙◌}
use mathlib.Core.Bool.{Bool, true, false}
use mathlib.Core.List.{List}
use Prim.Native.Nat.{ℕ, min, ◌≤◌}
use native.Mathlib.Nat.{le_of_lt, min-eq_left, min-eq_right}
use native.Mathlib.Omega.{arith}
use lib.Dec.{leb}
use lib.ListN.{length}
use borrow.Author.Tests.{leb-true, leb-false}
use Rattle.rules.specs.Answer.{accepted, refused}
use Rattle.sparse_rules.specs.Judge.{judged}
use Rattle.sparse_rules.specs.Counts.{written}
use Rattle.sparse_rules.specs.Answers.{answer}
use Rattle.sparse_rules.specs.declared.Counts.{Counts}
use Rattle.sparse_store_rules.specs.Store.{store, store_up_to}
use Rattle.sparse_store_rules.specs.Answers.{cut_answer}
use Rattle.sparse_rules.proofs.Image.{Counted, answer_accepted, answer_refused}
use Rattle.sparse_store_rules.proofs.Cut.{limit_whole, refused_stores_nothing, refused_cut_nothing, cut_accepted, cut_refused}
use Rattle.sparse_store.specs.Storable.{Storable}

module _ (s p : List ℕ) where
  module _ (c : Counts) (e : accepted c ≡ answer s (length s) (length p)) where
    found : Counted (judged s (length s) (length p)) c
    found = answer_accepted s (length s) (length p) c e

    wrote : written found.ks ≡ c.written
    wrote = sym (ap (λ (x : Counts). x.written) found.counts)

    -- an accepted image has its blocks to store
    pub storable : (count : ℕ) → count ≤ c.written → Storable s (length p) count
    storable count h = record { ks = found.ks; found = found.found; enough = rw wrote h }

    -- all of them are the plain store
    pub stored_whole : store_up_to c.written s p ≡ store s p
    stored_whole = limit_whole s p found.ks found.found c.written (omega (arith, wrote))

    -- the lesser of the limit and all of them is what the limit leaves
    pub stored_least : (limit : ℕ) → store_up_to (min limit c.written) s p ≡ store_up_to limit s p
    stored_least limit = go (leb limit c.written) refl
      where
        go : (x : Bool) → leb limit c.written ≡ x → store_up_to (min limit c.written) s p ≡ store_up_to limit s p
        go true q = let h : limit ≤ c.written = leb-true limit c.written q in ap (λ (n : ℕ). store_up_to n s p) (min-eq_left h)
        go false q =
            let h : c.written ≤ limit = le_of_lt (leb-false limit c.written q) in
            ap (λ (n : ℕ). store_up_to n s p) (min-eq_right h) ∙ stored_whole
            ∙ sym (limit_whole s p found.ks found.found limit (rw wrote h))

    -- and is answered
    pub answered_least : (limit : ℕ) → accepted (min limit c.written) ≡ cut_answer limit s (length p)
    answered_least limit =
        ap (λ (n : ℕ). accepted (min limit n)) (sym wrote) ∙ sym (cut_accepted limit s (length p) found.ks found.found)

  module _ (n place : ℕ) (e : refused n place ≡ answer s (length s) (length p)) where
    refusal : judged s (length s) (length p) ≡ refused n place
    refusal = answer_refused s (length s) (length p) n place e

    -- a refusal stores nothing
    pub refused_whole : p ≡ store s p
    refused_whole = sym (refused_stores_nothing s p n place refusal)

    pub refused_limited : (limit : ℕ) → p ≡ store_up_to limit s p
    refused_limited limit = sym (refused_cut_nothing limit s p n place refusal)

    -- and is answered with its number and place
    pub answered_refused : (limit : ℕ) → refused n place ≡ cut_answer limit s (length p)
    answered_refused limit = sym (cut_refused limit s (length p) n place refusal)
