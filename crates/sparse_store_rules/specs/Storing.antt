-- What holds of one storing, whole or cut.
-- Assumes nothing.
use Rattle.std.specs.Prelude.{◌≡◌, true, List, [], ◌∷◌, ◌++◌, ℕ, ◌*◌, ◌≤◌, length}
use Rattle.std.proofs.Math.Option.{Option}
use Rattle.rules.specs.Answer.{accepted, refused, HasNumber}
use Rattle.sparse_rules.specs.declared.Chunk.{Chunk}
use Rattle.sparse_rules.specs.Header.{block_size}
use Rattle.sparse_rules.specs.Cells.{count}
use Rattle.sparse_rules.specs.Counts.{written}
use Rattle.sparse_rules.specs.Judge.{judged, effect}
use Rattle.sparse_store_rules.specs.Store.{over, torn, store, cut_store, store_up_to}
use Rattle.sparse_store_rules.specs.Answers.{cut_answer}
use Rattle.sparse_store_rules.specs.Runs.{Cut}
use Rattle.sparse_store_rules.specs.Blocks.{stores, stored_before, block_at, CutState}

-- what holds of an image that is accepted, with the chunks ks, for a partition that holds p
pub record StoredImage (s p : List ℕ) (ks : List Chunk) : Type 0 where
  -- "The plain store is the cut form with a limit no smaller than the image's written blocks"
  pub limit_whole : (n : ℕ) → written ks ≤ n → store_up_to n s p ≡ store s p
  -- the count that comes back, times the block size, is the number of bytes that the cut form stores
  pub limit_counts : (n m : ℕ) → cut_answer n s (length p) ≡ accepted m
      → count (torn (n * block_size s) [] (effect s (length p))) ≡ m * block_size s
  -- "the blocks stored before the cut are new, that next one holds anything, and every other byte is as before this image"
  pub cut_state : (n : ℕ) (js : List ℕ) → length js ≡ block_size s → CutState n js s p (cut_store n js s p)
  -- and nothing else is a cut state: the blocks decide every byte
  pub cut_state_only : (n : ℕ) (js q : List ℕ) → length js ≡ block_size s → CutState n js s p q → q ≡ cut_store n js s p
  -- "A *cut state* after n blocks is what a limit of n leaves, except that the next block to be stored, if there is one,
  -- may hold any bytes": with what the partition holds there, it is what the limit leaves
  pub limit_cut : (n : ℕ) → (js : List ℕ) × (length js ≡ block_size s) × (store_up_to n s p ≡ cut_store n js s p)
      × ((k : ℕ) → stores s (length p) k ≡ true → stored_before s (length p) k ≡ n → js ≡ block_at (block_size s) k p)
  -- so a run can be cut there
  pub limit_reached : (ss : List (List ℕ)) (n : ℕ) → Cut (s ∷ ss) p (store_up_to n s p)
  -- and after any byte, where the bytes are stored in order
  pub cut_at : (ss : List (List ℕ)) (cs ds : List (Option ℕ)) → effect s (length p) ≡ cs ++ ds → Cut (s ∷ ss) p (over cs p)

-- the laws of one storing
pub record Storing : Type 0 where
  -- "Refusals store nothing"
  pub refused_stores_nothing : (s p : List ℕ) (n place : ℕ) → judged s (length s) (length p) ≡ refused n place → store s p ≡ p
  -- nor does the cut form store any of a refused image
  pub refused_cut_nothing : (limit : ℕ) (s p : List ℕ) (n place : ℕ) → judged s (length s) (length p) ≡ refused n place → store_up_to limit s p ≡ p
  -- no refusal of the cut form has the number 0
  pub refusal_numbers : (limit : ℕ) (s : List ℕ) (room : ℕ) → HasNumber (cut_answer limit s room)
  -- storing twice is storing once
  pub store_twice : (s p : List ℕ) → store s (store s p) ≡ store s p
  -- every accepted image is stored so
  pub accepted_stored : (s p : List ℕ) (ks : List Chunk) → judged s (length s) (length p) ≡ accepted ks → StoredImage s p ks
