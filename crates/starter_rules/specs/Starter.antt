-- What the starter answers, and what it leaves of record and space.
-- Assumes nothing.
use Rattle.std.specs.Prelude.{Bool, not, cond, ◌||◌, List, [], ◌∷◌, ◌++◌, ℕ, min, eqb, ltb, length, get_or, drop, Result, Ok, Err}
use Rattle.rules.specs.First.{first}
use Rattle.rules.specs.Answer.{Answer, accepted, refused}
use Rattle.slot_rules.specs.declared.Record.{Record}
use Rattle.slot_rules.specs.Records.{valid}
use Rattle.slot_rules.specs.Answers as slots
use Rattle.slot_rules.specs.Operations.{start_of}
use Rattle.boot_rules.specs.declared.Layout.{Layout}
use Rattle.boot_rules.specs.Tests as boot
use Rattle.starter_rules.specs.declared.Outcome.{Outcome}
use Rattle.starter_rules.specs.declared.Outcome.TheVariants.{Starts, Recovery}
use Rattle.starter_rules.specs.declared.StartRefusal.{StartRefusal}
use Rattle.starter_rules.specs.declared.StartRefusal.TheVariants.{Slots, Image, Misc, Line}
use Rattle.starter_rules.specs.Line.{line, asks_recovery}

-- what the starter does where it refuses nothing: a slot starts, with "what the boot part answers for its image, and the line's length", or Recovery
pub data Deed : Type 0 where
  starts : ℕ → Layout → ℕ → Deed
  recovery : Deed

-- what each case of the enum says
abbrev pub deed_of : Outcome → Deed
deed_of (Starts k l n) = starts k l n
deed_of Recovery = recovery

-- the number of each refusal: Start's and the image's own, "51 misc not 32 bytes", and 52 for the line
abbrev pub refusal_number : StartRefusal → ℕ
refusal_number (Slots own) = slots.number own
refusal_number (Image own) = boot.refusal_number own
refusal_number Misc = 51
refusal_number Line = 52

-- "All other refusals carry 0": each case of the code's answer, with its number and place or its deed
abbrev pub answer_of : Result Outcome StartRefusal → Answer Deed
answer_of (Ok o) = accepted (deed_of o)
answer_of (Err r) = refused (refusal_number r) 0

-- "31; 51 misc not 32 bytes", both before Start
abbrev pub early_tests : Record → List ℕ → List (Bool × ℕ)
early_tests r misc = (not (valid r), 31) ∷ (not (eqb (length misc) 32), 51) ∷ []

-- "It runs Start once": what Start answers and leaves; one of the refusals before it leaves the record
unfoldable pub begun : Record → List ℕ → slots.Change
begun r misc = slots.refused_or (first (early_tests r misc)) r (start_of r)

-- an answer, and the space after it
pub record Booted : Type 0 where
  pub answer : Answer Deed
  pub space : List ℕ

-- an answer beside the space that it leaves
abbrev pub leaving : Answer Deed → List ℕ → Booted
leaving a space = record { answer = a; space = space }

-- "when the line needs more than the space or than 4,096 bytes"
abbrev pub needs_more : List ℕ → ℕ → Bool
needs_more l room = ltb room (length l) || ltb 4096 (length l)

-- the slot k, whose image the boot part answers this for, with the line l: "the image's own" refusal, 52, or else the line is written, and "space past it is kept"
unfoldable pub booted : ℕ → Answer Layout → List ℕ → List ℕ → Booted
booted k (refused n place) l space = leaving (refused n place) space
booted k (accepted layout) l space =
    cond (needs_more l (length space)) (leaving (refused 52 0) space)
    (leaving (accepted (starts k layout (length l))) (l ++ drop (length l) space))

-- the image of the slot k, of one for each of the places a to d; no slot is past d
abbrev pub image_of : List (List ℕ) → ℕ → List ℕ
image_of images k = get_or images (min k 3) []

-- "the started slot's image", with its line
abbrev pub booted_from : List (List ℕ) → Bool → List ℕ → List ℕ → ℕ → Booted
booted_from images asked loader space k = booted k (boot.answer (image_of images k)) (line loader (image_of images k) k asked) space

-- what follows Start: "Where Start answers Recovery, so does this, and no line is written"; that a change is made it never answers
unfoldable pub after_start : Answer slots.Deed → List (List ℕ) → Bool → List ℕ → List ℕ → Booted
after_start (accepted (slots.starts k)) images asked loader space = booted_from images asked loader space k
after_start (accepted slots.recovery) images asked loader space = leaving (accepted recovery) space
after_start (accepted slots.done) images asked loader space = leaving (accepted recovery) space
after_start (refused n place) images asked loader space = leaving (refused n place) space

-- an answer, and the record and the space after it
pub record Effect : Type 0 where
  pub answer : Answer Deed
  pub after : Record
  pub space : List ℕ

-- what the code answers, and leaves of record and space
abbrev pub effect_of : Result Outcome StartRefusal → Record → List ℕ → Effect
effect_of o r space = record { answer = answer_of o; after = r; space = space }

-- "The record stays as Start left it, here alone also in a refusal after Start": the starter, with an image for each of the places a to d
unfoldable pub starter : Record → List (List ℕ) → List ℕ → List ℕ → List ℕ → Effect
starter r images misc loader space =
    let c : slots.Change = begun r misc in
    let b : Booted = after_start c.answer images (asks_recovery misc) loader space in
    record { answer = b.answer; after = c.after; space = b.space }
