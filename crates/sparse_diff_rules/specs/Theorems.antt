-- What the list of changes says of two images, and where it stands in the space.
-- Assumes nothing.
use Rattle.std.specs.Prelude.{◌≡◌, List, [], ℕ, ◌+◌, ◌*◌, ◌≤◌, ◌<◌, length, get_or, take}
use Rattle.std.proofs.Math.Option.{none, some}
use Rattle.rules.specs.Answer.{accepted, refused, HasNumber}
use Rattle.sparse_rules.specs.Header.{total_blocks}
use Rattle.sparse_write_rules.specs.Runs.{Run, spread, Longest}
use Rattle.sparse_blocks_rules.specs.Blocks.{blocks}
use Rattle.sparse_blocks_rules.specs.Pairs.{pair_answer, refused_image, Matched}
use Rattle.sparse_blocks_rules.specs.Theorems.{Given}
use Rattle.sparse_diff_rules.specs.Diff.{change, changes, diff, numbers, answer, listed}

-- the runs of two accepted images of equal block size and total
pub record Listing (s t : List ℕ) : Type 0 where
  -- "The runs cover every block once, in order"
  pub covers : spread (diff s t) ≡ changes s t
  pub every : length (changes s t) ≡ total_blocks s
  -- "neighbours differ in kind", and none is empty
  pub longest : Longest (diff s t)
  -- each block has the kind of its two blocks
  pub kind : (k : ℕ) → k < total_blocks s → get_or (changes s t) k 0 ≡ change (get_or (blocks s) k none) (get_or (blocks t) k none)
  -- which are what the two images give each byte of a partition with room
  pub first : Given s
  pub second : Given t

-- of every two
abbrev pub Listings : Type 0
Listings = (s t : List ℕ) → Matched s t → Listing s t

-- the five kinds: each holds of exactly the blocks that the request names
pub record Kinds : Type 0 where
  pub neither : change none none ≡ 0
  pub only_first : (xs : List ℕ) → change (some xs) none ≡ 1
  pub only_second : (ys : List ℕ) → change none (some ys) ≡ 2
  -- "both and equal": whatever the bytes come from, "Raw and fill that give the same bytes are equal"
  pub equal : (xs ys : List ℕ) → xs ≡ ys → change (some xs) (some ys) ≡ 3
  pub different : (xs ys : List ℕ) → (xs ≡ ys → ⊥) → change (some xs) (some ys) ≡ 4

-- where the numbers of a run stand, counted from 0
pub record Numbered (rs : List (Run ℕ)) (i : ℕ) (r : Run ℕ) : Type 0 where
  -- its first block: the lengths of the runs before it, added up
  pub first : get_or (numbers 0 rs) (3 * i) 0 ≡ length (spread (take i rs))
  pub many : get_or (numbers 0 rs) (3 * i + 1) 0 ≡ r.many
  pub kind : get_or (numbers 0 rs) (3 * i + 2) 0 ≡ r.kind

-- "three numbers a run"
pub record ThreeNumbers : Type 0 where
  pub long : (rs : List (Run ℕ)) → length (numbers 0 rs) ≡ 3 * length rs
  pub stand : (rs : List (Run ℕ)) (i : ℕ) (d : Run ℕ) → i < length rs → Numbered rs i (get_or rs i d)

-- what two images that match are answered, and what is left in the space
pub record Told (s t space : List ℕ) : Type 0 where
  -- "18 exactly when the list needs more than the space": where it does
  pub short : length space < 3 * length (diff s t) → answer s t (length space) ≡ refused 18 0
  -- and where it does not
  pub fits : 3 * length (diff s t) ≤ length space → answer s t (length space) ≡ accepted (length (diff s t))
  -- a refusal that is of neither image
  pub image : refused_image s t ≡ 0
  -- three numbers for each block are always enough
  pub enough : 3 * total_blocks s ≤ length space → answer s t (length space) ≡ accepted (length (diff s t))

-- of every two
abbrev pub Answered : Type 0
Answered = (s t space : List ℕ) → Matched s t → Told s t space

-- the lent space
pub record Kept : Type 0 where
  -- it stays as long as it was
  pub long : (s t space : List ℕ) → length (listed s t space) ≡ length space
  -- a refusal leaves it as it was
  pub refusal : (s t space : List ℕ) (n place : ℕ) → answer s t (length space) ≡ refused n place → listed s t space ≡ space
  -- the runs stand at its start
  pub start : (s t space : List ℕ) (n : ℕ) → answer s t (length space) ≡ accepted n → take (3 * n) (listed s t space) ≡ numbers 0 (diff s t)
  -- "nothing past them is touched"
  pub past : (s t space : List ℕ) (n i : ℕ) → answer s t (length space) ≡ accepted n → 3 * n ≤ i → get_or (listed s t space) i 0 ≡ get_or space i 0

-- a refusal of the two images comes whatever the space is: which one, `Ordered` says
abbrev pub Refusals : Type 0
Refusals = (s t : List ℕ) (space n place : ℕ) → pair_answer s t [] 0 ≡ refused n place → answer s t space ≡ refused n place

-- no refusal has the number 0
abbrev pub RefusalNumbers : Type 0
RefusalNumbers = (s t : List ℕ) (space : ℕ) → HasNumber (answer s t space)
