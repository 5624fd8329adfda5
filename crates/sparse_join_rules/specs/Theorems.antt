-- What holds of joined images, and of what is answered about them.
-- Assumes nothing.
use Rattle.std.specs.Prelude.{◌≡◌, true, false, List, [], ◌∷◌, ◌++◌, ℕ, ◌≤◌, ◌<◌, length, get_or, take}
use Rattle.std.proofs.Math.Option.{none}
use Rattle.rules.specs.Answer.{accepted, refused, HasNumber}
use Rattle.fields_rules.specs.Number.{Bytes}
use Rattle.sparse_rules.specs.Header.{block_size, total_blocks, block_size_right}
use Rattle.sparse_rules.specs.Answers as judge
use Rattle.sparse_store_rules.specs.Store.{store}
use Rattle.sparse_store_rules.specs.Runs.{run, answers, last_given, Reached, Disturbed}
use Rattle.sparse_write_rules.specs.Write.{flat_image, length_wrong}
use Rattle.sparse_write_rules.specs.Theorems.{ReadsAs}
use Rattle.sparse_blocks_rules.specs.Blocks.{needed, blocks}
use Rattle.sparse_blocks_rules.specs.Pairs.{pair_answer, refused_image, Accepted, Matched}
use Rattle.sparse_join_rules.specs.Join.{onto, joined_blocks, join, answer, output, bound}

-- two images of bytes that can be joined: accepted, "of equal block size and total", and not too large
pub record Joinable (s t : List ℕ) : Type 0 where
  pub matched : Matched s t
  pub first : Bytes s
  pub second : Bytes t
  pub small : needed s ≤ 2147483648

-- the image that they make
pub record Joined (s t : List ℕ) : Type 0 where
  -- it is bytes
  pub bytes : Bytes (join s t)
  -- it has as many blocks as each of them
  pub many : length (joined_blocks s t) ≡ total_blocks s
  -- each is the second's where that writes it, and else the first's
  pub block : (k : ℕ) → k < total_blocks s → get_or (joined_blocks s t) k none ≡ onto (get_or (blocks s) k none) (get_or (blocks t) k none)
  -- wherever there is room it is accepted and reads back as these blocks: "chunks as long as they can be, none empty", "the true checksum"
  pub reads : (room : ℕ) → needed s ≤ room → ReadsAs (join s t) (block_size s) (joined_blocks s t) room
  -- it needs the room that they need
  pub room : needed (join s t) ≡ needed s
  -- "the effect of the first followed by the second, on every partition": where one has no room, none of the three stores anything
  pub leaves : (p : List ℕ) → store (join s t) p ≡ store t (store s p)
  -- it is no longer than this
  pub most : length (join s t) ≤ bound s t

-- of every two
abbrev pub Joins : Type 0
Joins = (s t : List ℕ) → Joinable s t → Joined s t

-- two images that leave the same on every partition, of bytes, with so much room
abbrev pub EqualEffect : List ℕ → List ℕ → ℕ → Type 0
EqualEffect i j room = (p : List ℕ) → Bytes p → room ≤ length p → store i p ≡ store j p

-- "two joined images of equal block size and total have equal effect on every such partition exactly when their bytes are equal"
pub record Canonical (s t u v : List ℕ) : Type 0 where
  pub bytes : EqualEffect (join s t) (join u v) (needed s) → join s t ≡ join u v
  pub effect : join s t ≡ join u v → EqualEffect (join s t) (join u v) (needed s)

-- of every two such
abbrev pub Canonicals : Type 0
Canonicals = (s t u v : List ℕ) → Joinable s t → Joinable u v → block_size (join s t) ≡ block_size (join u v) → total_blocks (join s t) ≡ total_blocks (join u v)
    → Canonical s t u v

-- "grouping of three makes no difference"
pub record Grouping (s t u : List ℕ) : Type 0 where
  -- where both neighbours can be joined, so can their joinings
  pub left : Joinable (join s t) u
  pub right : Joinable s (join t u)
  -- and it is one image, byte for byte
  pub same : join (join s t) u ≡ join s (join t u)

-- of every three, "where every joining is accepted"
abbrev pub Groupings : Type 0
Groupings = (s t u : List ℕ) → Joinable s t → Joinable t u → Grouping s t u

-- "the header as our writer's": an image that our writer makes, joined to any, is itself
abbrev pub AsWriter : Type 0
AsWriter = (s d : List ℕ) (b : ℕ) → Bytes d → block_size_right b ≡ true → length_wrong (length d) b ≡ false → Joinable s (flat_image d b)
    → join s (flat_image d b) ≡ flat_image d b

-- two neighbours in a list of images, replaced by their joining: demand 3 goes on to hold
pub record Replaced (before after : List (List ℕ)) (s t p : List ℕ) : Type 0 where
  -- a full run leaves the same partition
  pub same : run (before ++ join s t ∷ after) p ≡ run (before ++ s ∷ t ∷ after) p
  -- as does a full run after any number of runs of the shorter list, each cut anywhere
  pub restarts : (q : List ℕ) → Reached (before ++ join s t ∷ after) p q → run (before ++ join s t ∷ after) q ≡ run (before ++ s ∷ t ∷ after) p
  -- and after any number of runs of the longer one
  pub goes_over : (q : List ℕ) → Reached (before ++ s ∷ t ∷ after) p q → run (before ++ join s t ∷ after) q ≡ run (before ++ s ∷ t ∷ after) p
  -- the last image to store a byte gives it the same
  pub given : (i : ℕ) → last_given (before ++ join s t ∷ after) (length p) i ≡ last_given (before ++ s ∷ t ∷ after) (length p) i
  -- so at every moment bytes that none of the longer list stores are the original ones
  pub moments : (q : List ℕ) → Reached (before ++ join s t ∷ after) p q → Disturbed (before ++ s ∷ t ∷ after) p q
  -- every other image gets the same answer
  pub shorter : answers (before ++ join s t ∷ after) p
      ≡ answers before p ++ judge.answer (join s t) (length (join s t)) (length p) ∷ answers after p
  pub longer : answers (before ++ s ∷ t ∷ after) p
      ≡ answers before p ++ judge.answer s (length s) (length p) ∷ judge.answer t (length t) (length p) ∷ answers after p

-- in every list, on every partition
abbrev pub Replacements : Type 0
Replacements = (before after : List (List ℕ)) (s t p : List ℕ) → Joinable s t → Replaced before after s t p

-- what two images that match are answered
pub record Told (s t : List ℕ) (room : ℕ) : Type 0 where
  -- 17, where "total × block size" is "over 2,147,483,648"
  pub large : 2147483648 < needed s → answer s t room ≡ refused 17 0
  -- else "18 exactly when the output is too short": where it is
  pub short : needed s ≤ 2147483648 → room < length (join s t) → answer s t room ≡ refused 18 0
  -- and where it is not
  pub fits : needed s ≤ 2147483648 → length (join s t) ≤ room → answer s t room ≡ accepted (length (join s t))
  -- an output of the bound's length is never too short
  pub enough : Bytes s → Bytes t → needed s ≤ 2147483648 → bound s t ≤ room → answer s t room ≡ accepted (length (join s t))
  -- a refusal is of neither image
  pub image : refused_image s t ≡ 0

-- of every two
abbrev pub Answered : Type 0
Answered = (s t : List ℕ) (room : ℕ) → Matched s t → Told s t room

-- and what 17 and 18 say
pub record Only (s t : List ℕ) (room place : ℕ) : Type 0 where
  -- both images are accepted, and of equal block size and total only where these are too large
  pub large : answer s t room ≡ refused 17 place
      → Accepted s × Accepted t × (block_size s ≡ block_size t → total_blocks s ≡ total_blocks t → 2147483648 < needed s)
  -- the images match, are not too large, and the output is too short
  pub short : answer s t room ≡ refused 18 place → Matched s t × (needed s ≤ 2147483648) × (room < length (join s t))

-- of every two images
abbrev pub Onlys : Type 0
Onlys = (s t : List ℕ) (room place : ℕ) → Only s t room place

-- what a length that is answered says
pub record Written (s t out : List ℕ) (n : ℕ) : Type 0 where
  -- the images match, and are not too large
  pub matched : Matched s t
  pub small : needed s ≤ 2147483648
  -- it is that of the joined image, which has room
  pub long : n ≡ length (join s t)
  pub fits : n ≤ length out
  -- the image stands at the start of the output
  pub start : take n (output s t out) ≡ join s t
  -- and the output past it is as it was
  pub past : (i : ℕ) → n ≤ i → get_or (output s t out) i 0 ≡ get_or out i 0
  -- images of bytes can be joined, so storing what is written leaves what storing the first and then the second leaves
  pub leaves : Bytes s → Bytes t → (p : List ℕ) → store (take n (output s t out)) p ≡ store t (store s p)

-- the output
pub record Kept : Type 0 where
  -- it stays as long as it was
  pub long : (s t out : List ℕ) → length (output s t out) ≡ length out
  -- "untouched" by every refusal
  pub refusal : (s t out : List ℕ) (n place : ℕ) → answer s t (length out) ≡ refused n place → output s t out ≡ out
  -- and where a length is answered, it holds the image
  pub written : (s t out : List ℕ) (n : ℕ) → answer s t (length out) ≡ accepted n → Written s t out n

-- a refusal of the two images comes whatever the output is: which one, `Ordered` says
abbrev pub Refusals : Type 0
Refusals = (s t : List ℕ) (room n place : ℕ) → pair_answer s t [] 0 ≡ refused n place → answer s t room ≡ refused n place

-- no refusal has the number 0
abbrev pub RefusalNumbers : Type 0
RefusalNumbers = (s t : List ℕ) (room : ℕ) → HasNumber (answer s t room)
