-- The sections of a boot image, as its header gives them.
-- Assumes nothing.
use Rattle.std.specs.Prelude.{Bool, true, false, ◌||◌, not, cond, List, [], ◌∷◌, ℕ, ◌+◌, eqb, get_or, Option, Some, None}
use Rattle.boot_rules.specs.declared.Layout.{Layout}
use Rattle.boot_rules.specs.declared.Rooms.{Rooms}
use Rattle.boot_rules.specs.declared.Section.{Section}
use Rattle.boot_rules.specs.declared.Field.{Field}
use Rattle.boot_rules.specs.declared.Row.{Row}
use Rattle.boot_rules.specs.Pages.{round_up}
use Rattle.boot_rules.specs.Table.{SectionKind, has, number, row_of, page_size, os_version, recovery_offset, cmdline, extra_cmdline, section_kinds, size_fields}
use Rattle.fields_rules.specs.Number.{number_at}

-- "the version stands at byte 40 in every header"
abbrev pub version_in : List ℕ → ℕ
version_in s = number_at s 40 4

-- the row of the image's version
abbrev pub row_in : List ℕ → Row
row_in s = row_of (version_in s)

-- "The page is 4,096 bytes for versions 3 and 4", which have no page size field
abbrev pub page_by : List ℕ → Row → ℕ
page_by s r = cond (has (page_size r)) (number s (page_size r)) 4096

-- the page of an image
abbrev pub page_in : List ℕ → ℕ
page_in s = page_by s (row_in s)

-- the os version that an image states, the whole field
abbrev pub os_in : List ℕ → ℕ
os_in s = number s (os_version (row_in s))

-- the recovery offset that an image states
abbrev pub offset_in : List ℕ → ℕ
offset_in s = number s (recovery_offset (row_in s))

-- where the cmdline of an image stands
abbrev pub cmdline_in : List ℕ → Field
cmdline_in s = cmdline (row_in s)

-- where its extra cmdline stands; a field without bytes where the version lacks it
abbrev pub extra_in : List ℕ → Field
extra_in s = extra_cmdline (row_in s)

-- a section that the version lacks
abbrev pub no_section : Option Section
no_section = None

-- whether a section is one that the version has
abbrev pub present : Option Section → Bool
present None = false
present (Some x) = true

-- where a section begins; 0 for one that the version lacks
abbrev pub position_of : Option Section → ℕ
position_of None = 0
position_of (Some x) = x.position

-- how many bytes it has; 0 for one that the version lacks
abbrev pub size_of : Option Section → ℕ
size_of None = 0
size_of (Some x) = x.size

-- a section of the version, or none where the version lacks it
abbrev pub section_at : Bool → ℕ → ℕ → Option Section
section_at here position size = cond here (Some (record { position = position; size = size })) no_section

-- "each next one begins after the last, rounded up to a page": where the sections of these size fields begin, the first of them at a position
abbrev pub starts : List ℕ → ℕ → ℕ → List Field → List ℕ
starts s page position [] = []
starts s page position (f ∷ fs) = position ∷ starts s page (round_up (position + number s f) page) fs

-- "The first section begins at one page": where the sections of an image begin, or would where its version lacks one
unfoldable pub starts_of : List ℕ → List ℕ
starts_of s = starts s (page_in s) (page_in s) (size_fields (row_in s))

-- the sections of these size fields, at these starts
abbrev pub place : List ℕ → List ℕ → List Field → List (Option Section)
place s [] fs = []
place s (p ∷ ps) [] = []
place s (p ∷ ps) (f ∷ fs) = section_at (has f) p (number s f) ∷ place s ps fs

-- the rooms of the sections of an image, retired ones too, those that its version lacks being marked
unfoldable pub sections_of : List ℕ → List (Option Section)
sections_of s = place s (starts_of s) (size_fields (row_in s))

-- the rooms that the code lays out, in the order of the sections
abbrev pub rooms_in : Rooms → List (Option Section)
rooms_in r = r.kernel ∷ r.ramdisk ∷ r.second ∷ r.recovery ∷ r.dtb ∷ r.signature ∷ []

-- of sections and their kinds, in step, the sections whose kind passes a test
abbrev pub choose : (SectionKind → Bool) → List SectionKind → List (Option Section) → List (Option Section)
choose f [] xs = []
choose f (k ∷ ks) [] = []
choose f (k ∷ ks) (x ∷ xs) = cond (f k) (x ∷ choose f ks xs) (choose f ks xs)

-- the sections that are offered
abbrev pub offered_of : List (Option Section) → List (Option Section)
offered_of xs = choose (λ k. k.offered) section_kinds xs

-- the sections that are retired
abbrev pub retired_of : List (Option Section) → List (Option Section)
retired_of xs = choose (λ k. not k.offered) section_kinds xs

-- "its size is not 0"
abbrev pub filled : Option Section → Bool
filled x = not (eqb (size_of x) 0)

-- whether a test holds of some section
abbrev pub any_of : (Option Section → Bool) → List (Option Section) → Bool
any_of f [] = false
any_of f (x ∷ xs) = f x || any_of f xs

-- "its version and the position and size of each section" that is offered, and "exactly when its size is not 0, that a retired section is present"
abbrev pub layout_of : ℕ → List (Option Section) → Layout
layout_of v xs =
    record {
      version = v;
      kernel = get_or (offered_of xs) 0 no_section;
      ramdisk = get_or (offered_of xs) 1 no_section;
      recovery = get_or (offered_of xs) 2 no_section;
      dtb = get_or (offered_of xs) 3 no_section;
      signature = get_or (offered_of xs) 4 no_section;
      retired = any_of filled (retired_of xs);
    }

-- the sections of a layout in their order
abbrev pub sections_in : Layout → List (Option Section)
sections_in l = l.kernel ∷ l.ramdisk ∷ l.recovery ∷ l.dtb ∷ l.signature ∷ []
