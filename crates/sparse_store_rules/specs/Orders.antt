-- The order of writes does not matter: blocks may reach the medium in any order, and any number of them may be torn at once.
-- Assumes nothing.
use Rattle.std.specs.Prelude.{◌≡◌, true, List, [], ℕ, ◌*◌, ◌<◌, length, get_or}
use Rattle.std.proofs.lemmas.List.Edits.{sets}
use Rattle.sparse_rules.specs.Header.{block_size}
use Rattle.sparse_store_rules.specs.Runs.{Reached, Disturbed, Restored}
use Rattle.sparse_store_rules.specs.Blocks.{stores}

-- Rewritten ss p q: blocks that accepted images of the list ss store, written in any order and any number of times, each
-- with any bytes at all, can make q of p
pub data Rewritten (ss : List (List ℕ)) (p : List ℕ) : List ℕ → Type 0 where
  none_yet : Rewritten ss p p
  -- block k, which image j stores, and the bytes js in it
  one_more : {q : List ℕ} → Rewritten ss p q → (j k : ℕ) (js : List ℕ) → j < length ss → stores (get_or ss j []) (length p) k ≡ true
      → length js ≡ block_size (get_or ss j []) → Rewritten ss p (sets q (k * block_size (get_or ss j [])) js)

-- the order of writes does not matter
pub record AnyOrder : Type 0 where
  -- whatever stands where accepted images store, one full run leaves what one on the original would, with the same answers
  pub restored : (ss : List (List ℕ)) (p q : List ℕ) → Disturbed ss p q → Restored ss p q
  -- blocks that reach the medium in any order, each old, new or holding anything, are no more than such a disturbance
  pub rewritten : (ss : List (List ℕ)) (p q : List ℕ) → Rewritten ss p q → Disturbed ss p q
  -- nor are runs that are cut
  pub reached : (ss : List (List ℕ)) (p q : List ℕ) → Reached ss p q → Disturbed ss p q
  -- nor is one after another: "Power may fail any number of times"
  pub again : (ss : List (List ℕ)) (p q r : List ℕ) → Disturbed ss p q → Disturbed ss q r → Disturbed ss p r
