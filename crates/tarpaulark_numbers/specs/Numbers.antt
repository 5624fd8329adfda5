-- The answers as numbers: what is left in the lent array of fixed length. What is returned is `number_of`, 0 or the
-- refusal's number. Assumes nothing.
use Rattle.std.specs.Prelude.{cond, List, [], ◌∷◌, ◌++◌, ℕ, eqb, length, replicate, Option, Some, None}
use Rattle.rules.specs.Answer.{Answer, accepted, refused}
use Rattle.boot_rules.specs.declared.Section.{Section}
use Rattle.boot_rules.specs.declared.Layout.{Layout}
use Rattle.boot_rules.specs.Sections.{present, position_of, size_of, sections_in}
use Rattle.slot_bytes.specs.Record.{flag}
use Rattle.sparse_rules.specs.declared.Header.{Header}
use Rattle.sparse_rules.specs.declared.Kind.{Kind}
use Rattle.sparse_rules.specs.declared.Kind.TheVariants.{Raw, Fill, DontCare, Unknown}
use Rattle.sparse_rules.specs.declared.Counts.{Counts}
use Rattle.sparse_rules.specs.Header.{header_of}
use Rattle.sparse_rules.specs.Chunks.{Reading, reading}

-- an answer's array: place 0 and the values of what is accepted, or the refusal's place and so many zeros
abbrev pub numbers_by : {A : Type 0} → ℕ → (A → List ℕ) → Answer A → List ℕ
numbers_by n f (accepted x) = 0 ∷ f x
numbers_by n f (refused m place) = place ∷ replicate n 0

-- a verdict's array: place, then blocks "written, don't care, unknown"
abbrev pub verdict_numbers : Answer Counts → List ℕ
verdict_numbers = numbers_by 3 (λ c. c.written ∷ c.dont_care ∷ c.unknown ∷ [])

-- the array of the cut form and of the writer: place, and how many blocks are stored or "the image's length"
abbrev pub count_numbers : Answer ℕ → List ℕ
count_numbers = numbers_by 1 (λ n. n ∷ [])

-- the array of an answer about two images: place, the image that a refusal is of, and how many runs or the joined image's length
abbrev pub pair_numbers : ℕ → Answer ℕ → List ℕ
pair_numbers image (accepted n) = 0 ∷ image ∷ n ∷ []
pair_numbers image (refused m place) = place ∷ image ∷ 0 ∷ []

-- a kind of chunk as a number: raw 0, fill 1, don't care 2, and 3 where its type is not known
abbrev pub kind_number : Kind → ℕ
kind_number Raw = 0
kind_number Fill = 1
kind_number DontCare = 2
kind_number Unknown = 3

-- the chunk at an offset of an image, whose first block is given, by the image's own header
abbrev pub chunk_in : List ℕ → ℕ → ℕ → Reading
chunk_in s at first = reading s (length s) (header_of s) (record { at = at; first = first })

-- the chunk reader's array: place, kind, size in blocks, where its data stand, then the next chunk's offset and first block
abbrev pub chunk_numbers : Reading → List ℕ
chunk_numbers = numbers_by 5 (λ r. kind_number r.0.kind ∷ r.0.blocks ∷ r.0.body ∷ r.1.at ∷ r.1.first ∷ [])

-- a header's array: block size, total blocks, total chunks, checksum, file header size, chunk header size
abbrev pub header_numbers : Header → List ℕ
header_numbers h = h.block ∷ h.total ∷ h.chunks ∷ h.checksum ∷ h.start ∷ h.head ∷ []

-- the array where the header's tests have answered with a number: all 0 for a refusal
abbrev pub header_numbers_by : ℕ → Header → List ℕ
header_numbers_by n h = cond (eqb n 0) (header_numbers h) (replicate 6 0)

-- a section: whether the version has it, "the position and size"
abbrev pub section_of : Option Section → List ℕ
section_of x = flag (present x) ∷ position_of x ∷ size_of x ∷ []

-- sections in their order, three numbers each
abbrev pub section_numbers : List (Option Section) → List ℕ
section_numbers [] = []
section_numbers (x ∷ xs) = section_of x ++ section_numbers xs

-- a layout: its version, each section that is offered, and 1 where "a retired section is present", else 0
abbrev pub found_numbers : Layout → List ℕ
found_numbers l = l.version ∷ (section_numbers (sections_in l) ++ (flag l.retired ∷ []))

-- the finder's array: the layout's, all 0 for a refusal
abbrev pub layout_numbers : Answer Layout → List ℕ
layout_numbers (accepted l) = found_numbers l
layout_numbers (refused n place) = replicate 17 0

-- the same by the layout, all 0 where there is none
abbrev pub offered_numbers : Option Layout → List ℕ
offered_numbers (Some l) = found_numbers l
offered_numbers None = replicate 17 0
