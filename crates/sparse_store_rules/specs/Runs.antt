-- Runs of a list of images on one partition, cut or full, and what demand 3 says of them.
-- Assumes nothing.
use Rattle.std.specs.Prelude.{◌≡◌, List, [], ◌∷◌, ℕ, ◌<◌, length, get_or}
use Rattle.std.proofs.Math.Option
use Rattle.std.proofs.Math.Option.{Option, none, some}
use Rattle.sparse_rules.specs.declared.Chunk.{Chunk}
use Rattle.sparse_rules.specs.Header.{block_size}
use Rattle.rules.specs.Answer.{Answer, accepted}
use Rattle.sparse_rules.specs.Judge.{judged, effect}
use Rattle.sparse_rules.specs.declared.Counts.{Counts}
use Rattle.sparse_rules.specs.Answers.{answer}
use Rattle.sparse_store_rules.specs.Store.{store, cut_store}

-- "A full run of a list hands each image in turn to the plain store"
abbrev pub run : List (List ℕ) → List ℕ → List ℕ
run [] p = p
run (s ∷ ss) p = run ss (store s p)

-- the answers that the images get in a full run
abbrev pub answers : List (List ℕ) → List ℕ → List (Answer Counts)
answers [] p = []
answers (s ∷ ss) p = answer s (length s) (length p) ∷ answers ss (store s p)

-- Cut ss p q: a run of the list ss begun on p can be cut, or end, with q
pub data Cut : List (List ℕ) → List ℕ → List ℕ → Type 0 where
  -- "by stopping before or after any image"
  stop : {ss : List (List ℕ)} {p : List ℕ} → Cut ss p p
  -- "leaving the next accepted one in a cut state"
  inside : {s : List ℕ} {ss : List (List ℕ)} {p : List ℕ} (ks : List Chunk) → judged s (length s) (length p) ≡ accepted ks
      → (n : ℕ) (js : List ℕ) → length js ≡ block_size s → Cut (s ∷ ss) p (cut_store n js s p)
  -- "by running some first images in full"
  past : {s : List ℕ} {ss : List (List ℕ)} {p q : List ℕ} → Cut ss (store s p) q → Cut (s ∷ ss) p q

-- Reached ss p q: any number of runs of ss, each cut anywhere, can make q of p
pub data Reached (ss : List (List ℕ)) (p : List ℕ) : List ℕ → Type 0 where
  -- "The first run begins on the original contents"
  start : Reached ss p p
  -- "each later one on what the run before left, at the first image again"
  again : {q r : List ℕ} → Reached ss p q → Cut ss q r → Reached ss p r

-- the later of two cells for one byte, where it stores the byte
abbrev pub later : Option ℕ → Option ℕ → Option ℕ
later (some b) c = some b
later none c = c

-- what the last accepted image to store byte i gives it; none where no accepted image stores it
abbrev pub last_given : List (List ℕ) → ℕ → ℕ → Option ℕ
last_given [] room i = none
last_given (s ∷ ss) room i = later (last_given ss room i) (get_or (effect s room) i none)

-- Disturbed ss p q: q is p with any bytes at all where an accepted image of the list ss stores, and with no other change
pub record Disturbed (ss : List (List ℕ)) (p q : List ℕ) : Type 0 where
  -- "the list and the partition's length staying the same"
  pub same_length : length q ≡ length p
  -- "At every moment, bytes that no accepted image in the list stores are the original ones"
  pub kept : (i : ℕ) → i < length p → last_given ss (length p) i ≡ none → get_or q i 0 ≡ get_or p i 0

-- Restored ss p q: one full run of the list ss on q does what it would have done on the original contents p
pub record Restored (ss : List (List ℕ)) (p q : List ℕ) : Type 0 where
  -- "One full run at the end leaves the partition byte for byte as one full run on the original contents would"
  pub same_bytes : run ss q ≡ run ss p
  -- "and every image gets the same answer in both"
  pub same_answers : answers ss q ≡ answers ss p
  -- "Each byte is then the one that the last accepted image to store it gives it, or the original where none stores it"
  pub last : (i : ℕ) → i < length p → get_or (run ss q) i 0 ≡ Option.get_or (last_given ss (length p) i) (get_or p i 0)

-- demand 3: "Take every list of images, refused ones included, and any one partition, whatever it holds at first. Each
-- image in turn is stored on what the storing before it left [`run`], and nobody else writes there meanwhile. Power may
-- fail any number of times [`Reached`], each time after any whole number of stored blocks, the block then being stored
-- left with any bytes at all [`Cut`]. The list then starts over, the list and the partition's length staying the same
-- [`same_length`]. One full run at the end leaves the partition byte for byte as one full run on the original contents
-- would [`same_bytes`], and every image gets the same answer in both [`same_answers`]. Each byte is then the one that the
-- last accepted image to store it gives it, or the original where none stores it [`last`]. At every moment, bytes that no
-- accepted image in the list stores are the original ones [`kept`]."
abbrev pub Restart : Type 0
Restart = (ss : List (List ℕ)) (p q : List ℕ) → Reached ss p q → Disturbed ss p q × Restored ss p q
