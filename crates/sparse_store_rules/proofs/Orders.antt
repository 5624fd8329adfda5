-- Stored blocks written in any order disturb no byte that no accepted image stores.
-- Assumes nothing.
use mathlib.Core.Path.{◌≡◌, refl, ◌∙◌}
use mathlib.Core.Bool.{true}
use mathlib.Core.Option.{none}
use mathlib.Core.List.{List, [], ◌∷◌}
use Prim.Native.Nat.{ℕ, zero, suc, ◌+◌, ◌-◌, ◌*◌, ◌≤◌, ◌<◌}
use native.Mathlib.Nat.{not-suc-le-zero, le_of_suc-le-suc}
use native.Mathlib.Omega.{arith}
use lib.ListN.{length, get_or, set}
use lib.Seq.{sets, length-sets, get_or-set_other}
use Rattle.sparse_rules.specs.Header.{block_size}
use Rattle.sparse_rules.specs.Walk.{Finding}
use Rattle.rules.specs.Answer.{refused, accepted}
use Rattle.sparse_rules.specs.Judge.{judged, effect}
use Rattle.sparse_rules.proofs.Image.{effect_refused}
use Rattle.sparse_store_rules.specs.Runs.{last_given, Disturbed}
use Rattle.sparse_store_rules.specs.Blocks.{stores}
use Rattle.sparse_store_rules.specs.Orders.{Rewritten, none_yet, one_more, AnyOrder}
use Rattle.sparse_store_rules.proofs.Restart.{later_none, undisturbed, disturbed_again, cuts_disturb, disturbed_restored}
use Rattle.sparse_store_rules.proofs.Blocks.{none_kept}

-- a byte outside the written ones is as before
get_or-sets_out : (l : List ℕ) (i : ℕ) (vs : List ℕ) (k : ℕ) → (i ≤ k → k < i + length vs → ⊥) → get_or (sets l i vs) k 0 ≡ get_or l k 0
get_or-sets_out l i [] k h = refl
get_or-sets_out l i (v ∷ vs) k h =
    get_or-sets_out (set l i v) (suc i) vs k (λ a b. h (omega arith) (omega arith))
    ∙ get_or-set_other l i k v 0 (λ q. h (omega arith) (omega arith))

-- a byte that no image of the list gives, none of them gives
given_none : (ss : List (List ℕ)) (room i j : ℕ) → j < length ss → last_given ss room i ≡ none → get_or (effect (get_or ss j []) room) i none ≡ none
given_none [] room i j h e = absurd (not-suc-le-zero h)
given_none (s ∷ ss) room i zero h e = (later_none (last_given ss room i) (get_or (effect s room) i none) e).1
given_none (s ∷ ss) room i (suc j) h e =
    given_none ss room i j (le_of_suc-le-suc h) (later_none (last_given ss room i) (get_or (effect s room) i none) e).0

-- every byte of a stored block is given
block_given : (s p : List ℕ) (k : ℕ) → stores s (length p) k ≡ true → (j : ℕ) → j < block_size s
    → get_or (effect s (length p)) (k * block_size s + j) none ≡ none → ⊥
unfolding stores
block_given s p k q j h e = go (judged s (length s) (length p)) refl
  where
    go : (f : Finding) → judged s (length s) (length p) ≡ f → ⊥
    go (accepted ks) a = none_kept s p ks a k q j h e
    go (refused n place) a = let z : ◌≡◌ {A = ℕ} 0 1 = cc (effect_refused s (length p) n place a) in omega arith

-- one block more is one disturbance more
block_disturbs : (ss : List (List ℕ)) (p q : List ℕ) (j k : ℕ) (js : List ℕ) → length q ≡ length p → j < length ss
    → stores (get_or ss j []) (length p) k ≡ true → length js ≡ block_size (get_or ss j []) → Disturbed ss q (sets q (k * block_size (get_or ss j [])) js)
block_disturbs ss p q j k js n h t l =
    let s : List ℕ = get_or ss j [] in
    let from : ℕ = k * block_size s in
    record {
      same_length = length-sets q from js;
      kept = λ i g e.
          let free : get_or (effect s (length p)) i none ≡ none = given_none ss (length p) i j h (rw n at e) in
          get_or-sets_out q from js i
          (λ a b.
          let at : from + (i - from) ≡ i = omega arith in
          block_given s p k t (i - from) (omega arith) (rw at free));
    }

blocks_disturb : (ss : List (List ℕ)) (p q : List ℕ) → Rewritten ss p q → Disturbed ss p q
blocks_disturb ss p q none_yet = undisturbed ss p
blocks_disturb ss p q (one_more {q = r} before j k js h t l) =
    let d : Disturbed ss p r = blocks_disturb ss p r before in
    disturbed_again ss p r q d (block_disturbs ss p r j k js d.same_length h t l)

pub any_order : AnyOrder
any_order = record { restored = disturbed_restored; rewritten = blocks_disturb; reached = cuts_disturb; again = disturbed_again }
