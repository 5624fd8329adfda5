-- What holds of every line and of every answer.
-- Assumes nothing.
use Rattle.std.specs.Prelude.{◌≡◌, true, false, List, ◌++◌, ℕ, ◌≤◌, ◌<◌, length, get_or, take, drop}
use Rattle.rules.specs.Answer.{Answer, accepted, refused, HasNumber}
use Rattle.slot_rules.specs.declared.Record.{Record}
use Rattle.slot_rules.specs.Records.{is_in_use, valid}
use Rattle.slot_rules.specs.Answers as slots
use Rattle.slot_rules.specs.Operations.{start_of}
use Rattle.boot_rules.specs.declared.Layout.{Layout}
use Rattle.boot_rules.specs.Table.{field}
use Rattle.boot_rules.specs.Sections.{version_in}
use Rattle.boot_rules.specs.Tests as boot
use Rattle.starter_rules.specs.Line.{text_in, image_line, line, asks_recovery}
use Rattle.starter_rules.specs.Starter.{Deed, starts, recovery, image_of, Effect, starter}

-- the image's line by its version: in versions 0 to 2 both texts, one after the other, also where the first ended early; in versions 3 and 4 the first alone
pub record ImageLines : Type 0 where
  pub early : (s : List ℕ) → version_in s ≤ 2 → image_line s ≡ text_in s (field 64 512) ++ text_in s (field 608 1024)
  pub late : (s : List ℕ) → 3 ≤ version_in s → version_in s ≤ 4 → image_line s ≡ text_in s (field 44 1536)

-- an answer, the record after it and the space after it
abbrev pub effect : Answer Deed → Record → List ℕ → Effect
effect a r space = record { answer = a; after = r; space = space }

-- the line that a slot starts with
abbrev pub line_of : List (List ℕ) → List ℕ → List ℕ → ℕ → List ℕ
line_of images misc loader k = line loader (image_of images k) k (asks_recovery misc)

-- what the starter answers and leaves, in each case, in the order of the refusals
pub record Ordered (r : Record) (images : List (List ℕ)) (misc loader space : List ℕ) : Type 0 where
  -- an invalid record stays, whatever misc is
  pub invalid : valid r ≡ false → starter r images misc loader space ≡ effect (refused 31 0) r space
  -- a valid one stays where misc is not 32 bytes: no try is spent
  pub misc_length : valid r ≡ true → (length misc ≡ 32 → ⊥) → starter r images misc loader space ≡ effect (refused 51 0) r space
  -- from here on the record is as Start left it: Recovery, whatever the images and the space
  pub recovers : valid r ≡ true → length misc ≡ 32 → (start_of r).answer ≡ accepted slots.recovery
      → starter r images misc loader space ≡ effect (accepted recovery) (start_of r).after space
  -- a started slot: the refusal of its own image, with the try spent
  pub own : valid r ≡ true → length misc ≡ 32 → (k : ℕ) → (start_of r).answer ≡ accepted (slots.starts k) → (n place : ℕ) → boot.answer (image_of images k) ≡ refused n place
      → starter r images misc loader space ≡ effect (refused n place) (start_of r).after space
  -- a line that "needs more than the space"
  pub no_room : valid r ≡ true → length misc ≡ 32 → (k : ℕ) → (start_of r).answer ≡ accepted (slots.starts k) → (l : Layout) → boot.answer (image_of images k) ≡ accepted l
      → length space < length (line_of images misc loader k) → starter r images misc loader space ≡ effect (refused 52 0) (start_of r).after space
  -- one that needs more "than 4,096 bytes"
  pub too_long : valid r ≡ true → length misc ≡ 32 → (k : ℕ) → (start_of r).answer ≡ accepted (slots.starts k) → (l : Layout) → boot.answer (image_of images k) ≡ accepted l
      → 4096 < length (line_of images misc loader k) → starter r images misc loader space ≡ effect (refused 52 0) (start_of r).after space
  -- and any other is written: the line, and after it what the space had there
  pub written : valid r ≡ true → length misc ≡ 32 → (k : ℕ) → (start_of r).answer ≡ accepted (slots.starts k) → (l : Layout) → boot.answer (image_of images k) ≡ accepted l
      → length (line_of images misc loader k) ≤ length space → length (line_of images misc loader k) ≤ 4096
      → starter r images misc loader space
      ≡ effect (accepted (starts k l (length (line_of images misc loader k)))) (start_of r).after (line_of images misc loader k ++ drop (length (line_of images misc loader k)) space)

-- for every record, images, misc, loader's line and space
abbrev pub EachOrdered : Type 0
EachOrdered = (r : Record) (images : List (List ℕ)) (misc loader space : List ℕ) → Ordered r images misc loader space

-- what is known where the slot k starts with the layout l and a line of n bytes
pub record Starting (r : Record) (images : List (List ℕ)) (misc loader space : List ℕ) (k : ℕ) (l : Layout) (n : ℕ) : Type 0 where
  -- Start starts that slot, which is in use, and the record is as Start left it
  pub slot : (start_of r).answer ≡ accepted (slots.starts k)
  pub in_use : is_in_use r k ≡ true
  pub left : (starter r images misc loader space).after ≡ (start_of r).after
  -- the layout is what the boot part answers for that slot's image
  pub image : boot.answer (image_of images k) ≡ accepted l
  -- the space begins with the line, which has n bytes and at most 4,096, and has as many bytes as it had
  pub count : n ≡ length (line_of images misc loader k)
  pub most : n ≤ 4096
  pub there : take n (starter r images misc loader space).space ≡ line_of images misc loader k
  pub as_long : length (starter r images misc loader space).space ≡ length space
  -- "space past it is kept"
  pub past : (i : ℕ) → n ≤ i → get_or (starter r images misc loader space).space i 0 ≡ get_or space i 0

-- every answer that a slot starts
abbrev pub EachStarting : Type 0
EachStarting = (r : Record) (images : List (List ℕ)) (misc loader space : List ℕ) (k : ℕ) (l : Layout) (n : ℕ)
    → (starter r images misc loader space).answer ≡ accepted (starts k l n) → Starting r images misc loader space k l n

-- "Where Start answers Recovery, so does this", and nowhere else
abbrev pub EachRecovery : Type 0
EachRecovery = (r : Record) (images : List (List ℕ)) (misc loader space : List ℕ)
    → (starter r images misc loader space).answer ≡ accepted recovery → (start_of r).answer ≡ accepted slots.recovery

-- no refusal has the number 0
abbrev pub RefusalNumbers : Type 0
RefusalNumbers = (r : Record) (images : List (List ℕ)) (misc loader space : List ℕ) → HasNumber (starter r images misc loader space).answer
