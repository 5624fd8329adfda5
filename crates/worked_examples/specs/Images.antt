-- The images, flat bytes, records and counts of the examples, typed from documents 01 and 02.
-- Assumes nothing.
use Rattle.std.specs.Prelude.{Bool, true, false, List, [], ◌∷◌, ◌++◌, ℕ, zero, suc, ◌-◌, length, replicate, Option, Some, None}
use Rattle.fields_rules.specs.Number.{bytes}
use Rattle.slot_rules.specs.declared.Slot.{Slot}
use Rattle.slot_rules.specs.declared.Record.{Record}
use Rattle.rules.specs.Answer.{Answer, accepted}
use Rattle.boot_rules.specs.declared.Section.{Section}
use Rattle.boot_rules.specs.declared.Layout.{Layout}
use Rattle.sparse_rules.specs.declared.Counts.{Counts}
use Rattle.report_rules.specs.declared.Report.{Report}

-- P1: "`3A FF 26 ED 01 00 00 00 1C 00 0C 00 00 10 00 00` and twelve zero bytes"
abbrev pub empty_image : List ℕ
empty_image =
    0x3A ∷ 0xFF ∷ 0x26 ∷ 0xED ∷ 0x01 ∷ 0x00 ∷ 0x00 ∷ 0x00 ∷ 0x1C ∷ 0x00 ∷ 0x0C ∷ 0x00 ∷ 0x00 ∷ 0x10 ∷ 0x00 ∷ 0x00
    ∷ replicate 12 0

-- a file header: block size, total blocks, chunks, checksum; sizes 28 and 12, version 1.0
abbrev pub file_header : ℕ → ℕ → ℕ → ℕ → List ℕ
file_header block total chunks sum =
    bytes 4 0xED26FF3A
    ++ (bytes 2 1 ++ (bytes 2 0 ++ (bytes 2 28 ++ (bytes 2 12 ++ (bytes 4 block ++ (bytes 4 total ++ (bytes 4 chunks ++ bytes 4 sum)))))))

-- a chunk header: type, reserved 0, blocks, total size
abbrev pub chunk_header : ℕ → ℕ → ℕ → List ℕ
chunk_header type blocks size = bytes 2 type ++ (bytes 2 0 ++ (bytes 4 blocks ++ bytes 4 size))

-- P2: "block size 4, total 3, two chunks: fill 1 block with `FF FF FF FF`, don't care 2 blocks", with another total, second type or checksum in P4, P5, P7 and P8
abbrev pub two_chunks : ℕ → ℕ → ℕ → List ℕ
two_chunks total second sum =
    file_header 4 total 2 sum ++ (chunk_header 0xCAC2 1 16 ++ (replicate 4 0xFF ++ chunk_header second 2 12))

-- P2
abbrev pub p2 : List ℕ
p2 = two_chunks 3 0xCAC3 0xFFFFFFFF

-- P7: "P2 with its second type 0xCAC5"
abbrev pub p7 : List ℕ
p7 = two_chunks 3 0xCAC5 0xFFFFFFFF

-- accepted with so many blocks written, don't care and unknown
abbrev pub counts : ℕ → ℕ → ℕ → Answer Counts
counts w d u = accepted (record { written = w; dont_care = d; unknown = u })

-- a partition or an output of so many bytes that are told apart: 1, 2, 3 and so on
abbrev pub up_from : ℕ → ℕ → List ℕ
up_from i zero = []
up_from i (suc n) = i ∷ up_from (suc i) n

-- P9: "flat `FF FF FF FF` and twelve zero bytes"
abbrev pub flat : List ℕ
flat = replicate 4 0xFF ++ replicate 12 0

-- P9: "one raw chunk, one fill chunk, checksum 0xFFFFFFFF, 64 bytes"
abbrev pub flat_image : List ℕ
flat_image =
    file_header 8 2 2 0xFFFFFFFF
    ++ (chunk_header 0xCAC1 1 20 ++ (replicate 4 0xFF ++ (replicate 4 0 ++ (chunk_header 0xCAC2 1 16 ++ replicate 4 0))))

-- request 5: an image of six blocks of 4 bytes that writes blocks 1, 3, 4 and 5, all raw
abbrev pub first_of_two : List ℕ
first_of_two =
    file_header 4 6 4 0
    ++ (chunk_header 0xCAC3 1 12
    ++ (chunk_header 0xCAC1 1 16 ++ (up_from 1 4 ++ (chunk_header 0xCAC5 1 12 ++ (chunk_header 0xCAC1 3 24 ++ (replicate 8 0xFF ++ up_from 1 4))))))

-- and one that writes blocks 2 to 5: 2 filled with zeros, 3 and 4 filled with what the first has there raw, 5 raw with other bytes in the end
abbrev pub second_of_two : List ℕ
second_of_two =
    file_header 4 6 4 0
    ++ (chunk_header 0xCAC3 2 12
    ++ (chunk_header 0xCAC2 1 16
    ++ (replicate 4 0 ++ (chunk_header 0xCAC2 2 16 ++ (replicate 4 0xFF ++ (chunk_header 0xCAC1 1 16 ++ (up_from 1 3 ++ (5 ∷ []))))))))

-- request 7: an image of four blocks of 8 bytes that writes blocks 0 and 1, both raw, the second of them 0xFF all over
abbrev pub first_update : List ℕ
first_update = file_header 8 4 2 0 ++ (chunk_header 0xCAC1 2 28 ++ (up_from 1 8 ++ (replicate 8 0xFF ++ chunk_header 0xCAC3 2 12)))

-- and one that fills block 2 with 0xFF
abbrev pub second_update : List ℕ
second_update = file_header 8 4 3 0 ++ (chunk_header 0xCAC3 2 12 ++ (chunk_header 0xCAC2 1 16 ++ (replicate 4 0xFF ++ chunk_header 0xCAC5 1 12)))

-- the two as one: block 0 raw, blocks 1 and 2 filled, block 3 don't care
abbrev pub both_updates : List ℕ
both_updates =
    file_header 8 4 3 0x9259A6C4
    ++ (chunk_header 0xCAC1 1 20 ++ (up_from 1 8 ++ (chunk_header 0xCAC2 2 16 ++ (replicate 4 0xFF ++ chunk_header 0xCAC3 1 12))))

-- P10: "version 3, kernel 4,097, ramdisk 1", of so many bytes
abbrev pub boot3 : ℕ → List ℕ
boot3 n =
    (0x41 ∷ 0x4E ∷ 0x44 ∷ 0x52 ∷ 0x4F ∷ 0x49 ∷ 0x44 ∷ 0x21 ∷ [])
    ++ (bytes 4 4097 ++ (bytes 4 1 ++ (replicate 4 0 ++ (bytes 4 1580 ++ (replicate 16 0 ++ (bytes 4 3 ++ replicate (n - 44) 0))))))

-- requests 11 and 12: version 4 with no bytes in any section, with this os version and this text in its cmdline
abbrev pub boot4_with : ℕ → List ℕ → List ℕ
boot4_with os text =
    (0x41 ∷ 0x4E ∷ 0x44 ∷ 0x52 ∷ 0x4F ∷ 0x49 ∷ 0x44 ∷ 0x21 ∷ [])
    ++ (replicate 8 0 ++ (bytes 4 os ++ (bytes 4 1584 ++ (replicate 16 0 ++ (bytes 4 4 ++ (text ++ replicate (1540 - length text) 0))))))

-- with an empty cmdline
abbrev pub boot4 : ℕ → List ℕ
boot4 os = boot4_with os []

-- P11: "version 2, page 2,048, kernel 2,048, ramdisk 1, dtb 1, others 0", of so many bytes; second size and dtb size are given, for the examples of request 10
abbrev pub boot2 : ℕ → ℕ → ℕ → List ℕ
boot2 second dtb n =
    (0x41 ∷ 0x4E ∷ 0x44 ∷ 0x52 ∷ 0x4F ∷ 0x49 ∷ 0x44 ∷ 0x21 ∷ [])
    ++ (bytes 4 2048
    ++ (replicate 4 0
    ++ (bytes 4 1
    ++ (replicate 4 0
    ++ (bytes 4 second
    ++ (replicate 8 0
    ++ (bytes 4 2048 ++ (bytes 4 2 ++ (replicate 1600 0 ++ (bytes 4 1660 ++ (bytes 4 dtb ++ replicate (n - 1652) 0)))))))))))

-- a section of the version: position, size
abbrev pub section : ℕ → ℕ → Option Section
section position size = Some (record { position = position; size = size })

-- a section that the version lacks
abbrev pub none : Option Section
none = None

-- what is found in an accepted boot image: its version, then kernel, ramdisk, recovery, dtb and signature, and whether a retired section is present
abbrev pub layout : ℕ → Option Section → Option Section → Option Section → Option Section → Option Section → Bool → Layout
layout version kernel ramdisk recovery dtb signature retired =
    record {
      version = version;
      kernel = kernel;
      ramdisk = ramdisk;
      recovery = recovery;
      dtb = dtb;
      signature = signature;
      retired = retired;
    }

-- a slot in use, not corrupted: unbootable, successful, tries
abbrev pub slot : Bool → Bool → ℕ → Slot
slot unbootable successful tries = record { used = true; unbootable = unbootable; successful = successful; corrupted = false; tries = tries }

-- a corrupted slot in use: unbootable, successful, tries
abbrev pub corrupted_slot : Bool → Bool → ℕ → Slot
corrupted_slot unbootable successful tries = record { used = true; unbootable = unbootable; successful = successful; corrupted = true; tries = tries }

-- a place that is not used
abbrev pub unused : Slot
unused = record { used = false; unbootable = false; successful = false; corrupted = false; tries = 0 }

-- a record of two slots, a and b: current, the count that it keeps, and the two
abbrev pub two : ℕ → ℕ → Slot → Slot → Record
two current startable a b = record { slots = a ∷ b ∷ unused ∷ unused ∷ []; current = current; startable = startable }

-- request 13: a report without refusals
abbrev pub report : ℕ → ℕ → ℕ → ℕ → ℕ → Report
report a b y s l = record { accepted = a; blocks = b; bytes = y; skipped = s; largest = l; refused = replicate 11 0 }
