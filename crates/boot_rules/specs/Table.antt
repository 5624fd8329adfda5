-- The table of field positions: a row for each version of the boot image header, a column for each field.
-- Assumes nothing.
use Rattle.std.specs.Prelude.{◌≡◌, Bool, true, false, ◌||◌, cond, List, [], ◌∷◌, map, ℕ, max, ◌+◌, ◌≤◌, ◌<◌, ltb, eqb, get_or, Option, Some, None}
use Rattle.boot_rules.specs.declared.Field.{Field}
use Rattle.boot_rules.specs.declared.Row.{Row}
use Rattle.fields_rules.specs.Number.{number_at}

-- a field that begins at a byte of the header and has so many bytes
abbrev pub field : ℕ → ℕ → Field
field at width = record { at = at; width = width }

-- a field that the version lacks has no bytes
abbrev pub lacking : Field
lacking = field 0 0

-- whether the version has the field
abbrev pub has : Field → Bool
has f = ltb 0 f.width

-- the number that a field of an image holds; 0 where the version lacks the field
abbrev pub number : List ℕ → Field → ℕ
number s f = number_at s f.at f.width

-- the number in so many bytes where a field begins; none where the version lacks the field
abbrev pub read_at : ℕ → List ℕ → Field → Option ℕ
read_at n s f = cond (has f) (Some (number_at s f.at n)) None

-- a field that is read as a number of four bytes, where the version has it
abbrev pub is_word : Field → Bool
is_word f = eqb f.width 0 || eqb f.width 4

-- a field that is read as a number of eight bytes, where the version has it
abbrev pub is_double : Field → Bool
is_double f = eqb f.width 0 || eqb f.width 8

-- the row of no version
abbrev pub no_row : Row
no_row =
    record {
      header = 0;
      magic = lacking;
      kernel = lacking;
      kernelload = lacking;
      ramdisk = lacking;
      ramdiskload = lacking;
      second = lacking;
      secondload = lacking;
      tagsload = lacking;
      page = lacking;
      version = lacking;
      os = lacking;
      name = lacking;
      cmdline = lacking;
      id = lacking;
      extra = lacking;
      recovery = lacking;
      offset = lacking;
      headersize = lacking;
      dtb = lacking;
      dtbload = lacking;
      signature = lacking;
      reserved = lacking;
    }

-- "Versions 0 to 2": the header length, the fields of all three, and recovery size, recovery offset and header size, dtb size and dtb address, which only some of them have
abbrev pub zero_to_two : ℕ → Field → Field → Field → Field → Field → Row
zero_to_two header recovery offset headersize dtb dtbload =
    record {
      header = header;
      magic = field 0 8;
      kernel = field 8 4;
      kernelload = field 12 4;
      ramdisk = field 16 4;
      ramdiskload = field 20 4;
      second = field 24 4;
      secondload = field 28 4;
      tagsload = field 32 4;
      page = field 36 4;
      version = field 40 4;
      os = field 44 4;
      name = field 48 16;
      cmdline = field 64 512;
      id = field 576 32;
      extra = field 608 1024;
      recovery = recovery;
      offset = offset;
      headersize = headersize;
      dtb = dtb;
      dtbload = dtbload;
      signature = lacking;
      reserved = lacking;
    }

-- "Versions 3 and 4": the header length, the fields of both, and the signature size, which only version 4 has
abbrev pub three_and_four : ℕ → Field → Row
three_and_four header signature =
    record {
      header = header;
      magic = field 0 8;
      kernel = field 8 4;
      kernelload = lacking;
      ramdisk = field 12 4;
      ramdiskload = lacking;
      second = lacking;
      secondload = lacking;
      tagsload = lacking;
      page = lacking;
      version = field 40 4;
      os = field 16 4;
      name = lacking;
      cmdline = field 44 1536;
      id = lacking;
      extra = lacking;
      recovery = lacking;
      offset = lacking;
      headersize = field 20 4;
      dtb = lacking;
      dtbload = lacking;
      signature = signature;
      reserved = field 24 16;
    }

-- version 0: kernel, ramdisk, second
abbrev pub version0 : Row
version0 = zero_to_two 1632 lacking lacking lacking lacking lacking

-- version 1: "and recovery dtbo or acpio", its size and offset, and the header size
abbrev pub version1 : Row
version1 = zero_to_two 1648 (field 1632 4) (field 1636 8) (field 1644 4) lacking lacking

-- version 2: "and dtb", its size and address
abbrev pub version2 : Row
version2 = zero_to_two 1660 (field 1632 4) (field 1636 8) (field 1644 4) (field 1648 4) (field 1652 8)

-- version 3: kernel, ramdisk
abbrev pub version3 : Row
version3 = three_and_four 1580 lacking

-- version 4: and the signature's size
abbrev pub version4 : Row
version4 = three_and_four 1584 (field 1580 4)

-- "One table of field positions serves all five versions": versions 0 to 4, in order
abbrev pub table : List Row
table = version0 ∷ version1 ∷ version2 ∷ version3 ∷ version4 ∷ []

-- the row of a version
unfoldable pub row_of : ℕ → Row
row_of v = get_or table v no_row

-- the header size field
abbrev pub header_size : Row → Field
header_size r = r.headersize

-- the page size field
abbrev pub page_size : Row → Field
page_size r = r.page

-- the os version field
abbrev pub os_version : Row → Field
os_version r = r.os

-- the recovery offset field
abbrev pub recovery_offset : Row → Field
recovery_offset r = r.offset

-- the cmdline field
abbrev pub cmdline : Row → Field
cmdline r = r.cmdline

-- the extra cmdline field
abbrev pub extra_cmdline : Row → Field
extra_cmdline r = r.extra

-- a kind of section: where its size stands in a row, and whether it is offered to callers; one that is not is retired
pub record SectionKind : Type 0 where
  pub size : Row → Field
  pub offered : Bool

-- kernel, ramdisk, second, recovery, dtb and signature, in their order: a version has those whose size field has bytes in its row, and all but one are offered, "Stop offering the second section to callers"
abbrev pub section_kinds : List SectionKind
section_kinds =
    record { size = λ r. r.kernel; offered = true }
    ∷ record { size = λ r. r.ramdisk; offered = true }
    ∷ record { size = λ r. r.second; offered = false }
    ∷ record { size = λ r. r.recovery; offered = true }
    ∷ record { size = λ r. r.dtb; offered = true }
    ∷ record { size = λ r. r.signature; offered = true }
    ∷ []

-- the size fields of a row in the order of the sections
abbrev pub size_fields : Row → List Field
size_fields r = map (λ (k : SectionKind). k.size r) section_kinds

-- every column of a row
abbrev pub columns : Row → List Field
columns r =
    r.magic
    ∷ r.kernel
    ∷ r.kernelload
    ∷ r.ramdisk
    ∷ r.ramdiskload
    ∷ r.second
    ∷ r.secondload
    ∷ r.tagsload
    ∷ r.page
    ∷ r.version
    ∷ r.os
    ∷ r.name
    ∷ r.cmdline
    ∷ r.id
    ∷ r.extra
    ∷ r.recovery
    ∷ r.offset
    ∷ r.headersize
    ∷ r.dtb
    ∷ r.dtbload
    ∷ r.signature
    ∷ r.reserved
    ∷ []

-- the byte after the last of all fields
abbrev pub last_end : List Field → ℕ
last_end [] = 0
last_end (f ∷ fs) = max (f.at + f.width) (last_end fs)

-- the widths of all fields together
abbrev pub widths : List Field → ℕ
widths [] = 0
widths (f ∷ fs) = f.width + widths fs

-- where the command line stands: "cmdline 64 (512)" and "extra cmdline 608 (1,024)" in versions 0 to 2; "cmdline 44 (1,536)" in versions 3 and 4, and no extra cmdline
pub record LineFields : Type 0 where
  pub early : (v : ℕ) → v ≤ 2 → (cmdline (row_of v) ≡ field 64 512) × (extra_cmdline (row_of v) ≡ field 608 1024)
  pub late : (v : ℕ) → 3 ≤ v → v ≤ 4 → (cmdline (row_of v) ≡ field 44 1536) × (extra_cmdline (row_of v) ≡ lacking)

-- byte k is one of so many bytes from a place on
pub record Within (place size k : ℕ) : Type 0 where
  pub from : place ≤ k
  pub to : k < place + size

-- the fields of a row: magic and version stand where they stand in every header, no byte belongs to two fields, the last field ends at the header length, and the fields together are as long as the header
pub record PackedRow (r : Row) : Type 0 where
  pub magic : r.magic ≡ field 0 8
  pub version : r.version ≡ field 40 4
  pub apart : (i j k : ℕ) → i < j → Within (get_or (columns r) i lacking).at (get_or (columns r) i lacking).width k → Within (get_or (columns r) j lacking).at (get_or (columns r) j lacking).width k → ⊥
  pub last : last_end (columns r) ≡ r.header
  pub full : widths (columns r) ≡ r.header

-- "Fields are packed without gaps", in the header of every version
abbrev pub Packed : Type 0
Packed = (v : ℕ) → v ≤ 4 → PackedRow (row_of v)
