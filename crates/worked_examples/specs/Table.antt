-- The worked examples of document 01, as the requests of document 02 left them, a row each: a call, and what must come back.
-- Assumes nothing.
use Rattle.std.specs.Prelude.{◌≡◌, true, false, List, [], ◌∷◌, ◌++◌, map, ℕ, replicate}
use Rattle.rules.specs.Answer.{accepted, refused}
use Rattle.slot_rules.specs.Answers as slots
use Rattle.boot_rules.specs.declared.Layout.{Layout}
use Rattle.starter_rules.specs.Starter as starter
use Rattle.starter_rules.specs.Theorems.{effect}
use Rattle.text_rules.specs.Words.{ascii}
use Rattle.worked_examples.specs.Calls.{Row, perform, stores, writes, locates, locates_for, prints, starts, tells, boots, lists, compares, joins, reports, adds, totals, stored, written, located, started, told, booted, listed, printed, compared, joined, reported}
use Rattle.worked_examples.specs.Images.{empty_image, two_chunks, p2, p7, counts, up_from, flat, flat_image, first_of_two, second_of_two, first_update, second_update, both_updates, boot3, boot4_with, boot4, boot2, section, none, layout, slot, corrupted_slot, two, report}

-- P1: "writing 0 bytes at block size 4,096"
abbrev pub row1 : Row
row1 = record { call = writes [] 4096 (replicate 28 7); result = written (accepted 28) empty_image }

-- P2: "On 12 bytes it stores the first 4 and keeps 8"
abbrev pub p2_leaves : List ℕ
p2_leaves = replicate 4 0xFF ++ up_from 5 8

-- P2, with request 3 of document 02: "written 1 skipped 2 unknown 0"
abbrev pub row2 : Row
row2 = record { call = stores p2 (up_from 1 12); result = stored (counts 1 2 0) p2_leaves }

-- P3: "P2 on 11 bytes: 6"
abbrev pub row3 : Row
row3 = record { call = stores p2 (up_from 1 11); result = stored (refused 6 0) (up_from 1 11) }

-- P4: "P2 with total 4, on 16 bytes: 9 at 56"
abbrev pub row4 : Row
row4 = record { call = stores (two_chunks 4 0xCAC3 0xFFFFFFFF) (up_from 1 16); result = stored (refused 9 56) (up_from 1 16) }

-- P5: "with total 2: 9 at 44"
abbrev pub row5 : Row
row5 = record { call = stores (two_chunks 2 0xCAC3 0xFFFFFFFF) (up_from 1 16); result = stored (refused 9 44) (up_from 1 16) }

-- P6: "P2 and one byte more: 10 at 56"
abbrev pub row6 : Row
row6 = record { call = stores (p2 ++ (0 ∷ [])) (up_from 1 12); result = stored (refused 10 56) (up_from 1 12) }

-- P7: "P2 with its second type 0xCAC5", as request 3 of document 02 has it: "But for these counts P7 stays as P2"
abbrev pub row7 : Row
row7 = record { call = stores p7 (up_from 1 12); result = stored (counts 1 0 2) p2_leaves }

-- P8, "P2 with checksum 0", as request 2 of document 02 has it: "an acceptance equal to P2"
abbrev pub row8 : Row
row8 = record { call = stores (two_chunks 3 0xCAC3 0) (up_from 1 12); result = row2.result }

-- and P2 with checksum 1: "a checksum of 1 there still gives 11"
abbrev pub row8_one : Row
row8_one = record { call = stores (two_chunks 3 0xCAC3 1) (up_from 1 12); result = stored (refused 11 24) (up_from 1 12) }

-- P9: "block size 8: one raw chunk, one fill chunk, checksum 0xFFFFFFFF, 64 bytes"
abbrev pub row9 : Row
row9 = record { call = writes flat 8 (replicate 65 7); result = written (accepted 64) (flat_image ++ (7 ∷ [])) }

-- P9: "A 63-byte output: 12"
abbrev pub row9_short : Row
row9_short = record { call = writes flat 8 (replicate 63 7); result = written (refused 12 0) (replicate 63 7) }

-- P10: "at 4,096 and 12,288. 12,289 bytes are enough"
abbrev pub row10 : Row
row10 =
    record {
      call = locates (boot3 12289);
      result = located (accepted (layout 3 (section 4096 4097) (section 12288 1) none none none false));
    }

-- P10: "12,288: 26"
abbrev pub row10_short : Row
row10_short = record { call = locates (boot3 12288); result = located (refused 26 0) }

-- P11: "2,048, 4,096, dtb at 6,144", as request 10 has it: the second section, which is empty, is not offered, and no retired section is present
abbrev pub row11 : Row
row11 =
    record {
      call = locates (boot2 0 1 6145);
      result = located (accepted (layout 2 (section 2048 2048) (section 4096 1) (section 6144 0) (section 6144 1) none false));
    }

-- request 10: P11 with a second section of one byte, "accepted as before, with the later sections in the same places": recovery and dtb one page after those of P11
abbrev pub row_retired : Row
row_retired =
    record {
      call = locates (boot2 1 1 8193);
      result = located (accepted (layout 2 (section 2048 2048) (section 4096 1) (section 8192 0) (section 8192 1) none true));
    }

-- request 10: "One that ends past the input still gets 26": P11 with a second section of two bytes, of which the input holds one, and no dtb
abbrev pub row_retired_past : Row
row_retired_past = record { call = locates (boot2 2 0 6145); result = located (refused 26 0) }

-- P12: "a current, tries 0; b successful: b starts, a unbootable"
abbrev pub row12 : Row
row12 =
    record {
      call = starts (two 0 2 (slot false false 0) (slot false true 0));
      result = started (slots.change (slots.starts 1) (two 1 1 (slot true false 0) (slot false true 0)));
    }

-- P13: "b not successful: Recovery, a unbootable"
abbrev pub row13 : Row
row13 =
    record {
      call = starts (two 0 2 (slot false false 0) (slot false false 3));
      result = started (slots.change slots.recovery (two 0 1 (slot true false 0) (slot false false 3)));
    }

-- P14: "a current, tries 1, not successful: a starts, tries 0"
abbrev pub row14 : Row
row14 =
    record {
      call = starts (two 0 2 (slot false false 1) (slot false false 3));
      result = started (slots.change (slots.starts 0) (two 0 2 (slot false false 0) (slot false false 3)));
    }

-- request 4: "A corrupted slot may not start, successful or not: if current, Start marks it unbootable and clears its successful flag"
abbrev pub row_corrupted : Row
row_corrupted =
    record {
      call = starts (two 0 1 (corrupted_slot false true 3) (slot false true 0));
      result = started (slots.change (slots.starts 1) (two 1 1 (corrupted_slot true false 3) (slot false true 0)));
    }

-- request 4: "and it is no candidate"
abbrev pub row_no_candidate : Row
row_no_candidate =
    record {
      call = starts (two 0 1 (slot false false 0) (corrupted_slot false true 3));
      result = started (slots.change slots.recovery (two 0 0 (slot true false 0) (corrupted_slot false true 3)));
    }

-- request 6: "how many slots in use are neither unbootable nor corrupted": tries do not matter
abbrev pub row_counted : Row
row_counted = record { call = tells (two 0 1 (slot true false 3) (slot false false 0)); result = told (accepted 1) }

-- request 6: "A record whose count differs from its flags is invalid (31)"
abbrev pub row_miscounted : Row
row_miscounted = record { call = tells (two 0 2 (slot true false 3) (slot false false 0)); result = told (refused 31 0) }

-- request 6: and Start hands such a record back as it was
abbrev pub row_miscounted_start : Row
row_miscounted_start =
    record {
      call = starts (two 0 1 (slot false false 1) (slot false false 3));
      result = started (slots.beside (refused 31 0) (two 0 1 (slot false false 1) (slot false false 3)));
    }

-- the lister: "For P2 it prints exactly", and as request 3 has its last line
abbrev pub row_listed : Row
row_listed =
    record {
      call = lists p2;
      result = listed (ascii "block 4 total 3 chunks 2\n0 fill 1\n1 skip 2\nok written 1 skipped 2 unknown 0\n");
    }

-- and for P7: "`unknown` in place of `skip`", and its own last line
abbrev pub row_listed_unknown : Row
row_listed_unknown =
    record {
      call = lists p7;
      result = listed (ascii "block 4 total 3 chunks 2\n0 fill 1\n1 unknown 2\nok written 1 skipped 0 unknown 2\n");
    }

-- request 5: "neither image writes, only the first, only the second, both and equal, both and different", and nothing past the runs
abbrev pub row_compared : Row
row_compared =
    record {
      call = compares first_of_two second_of_two (replicate 16 7);
      result = compared (accepted 5) 0 (0 ∷ 1 ∷ 0 ∷ 1 ∷ 1 ∷ 1 ∷ 2 ∷ 1 ∷ 2 ∷ 3 ∷ 2 ∷ 3 ∷ 5 ∷ 1 ∷ 4 ∷ 7 ∷ []);
    }

-- "18 exactly when the list needs more than the space": one number short
abbrev pub row_compared_short : Row
row_compared_short = record { call = compares first_of_two second_of_two (replicate 14 7); result = compared (refused 18 0) 0 (replicate 14 7) }

-- "17 geometry differs"
abbrev pub row_compared_geometry : Row
row_compared_geometry = record { call = compares p2 flat_image (replicate 9 7); result = compared (refused 17 0) 0 (replicate 9 7) }

-- before it "the second's own": P9's image and one byte more
abbrev pub row_compared_second : Row
row_compared_second = record { call = compares p2 (flat_image ++ (0 ∷ [])) (replicate 9 7); result = compared (refused 10 64) 2 (replicate 9 7) }

-- request 7: "fill where all words agree and raw elsewhere, other blocks don't care", and the output past the image as it was
abbrev pub row_joined : Row
row_joined = record { call = joins first_update second_update (replicate 78 7); result = joined (accepted 76) 0 (both_updates ++ replicate 2 7) }

-- "18 exactly when the output is too short, untouched then": one byte short
abbrev pub row_joined_short : Row
row_joined_short = record { call = joins first_update second_update (replicate 75 7); result = joined (refused 18 0) 0 (replicate 75 7) }

-- request 11: P10 for release 12, "versions 3 and 4 without the generic kernel", and "sections stay as without the rules"
abbrev pub row_taken : Row
row_taken = record { call = locates_for 12 0 (boot3 12289); result = row10.result }

-- "and only 4 with it": 42
abbrev pub row_not_taken : Row
row_not_taken = record { call = locates_for 12 1 (boot3 12289); result = located (refused 42 0) }

-- before it the image's own refusal: P10 of 12,288 bytes
abbrev pub row_own : Row
row_own = record { call = locates_for 12 1 (boot3 12288); result = located (refused 26 0) }

-- and before that 41: "The generic kernel before 11 is a bad request"
abbrev pub row_bad_request : Row
row_bad_request = record { call = locates_for 10 1 (boot3 12288); result = located (refused 41 0) }

-- "Release 13 with the generic kernel also wants an os version of 0", the whole field
abbrev pub row_os : Row
row_os = record { call = locates_for 13 1 (boot4 0x10000); result = located (refused 43 0) }

-- "a line for every pair that takes it": version 4 with an os version of 0
abbrev pub row_printed : Row
row_printed = record { call = prints (boot4 0); result = printed (ascii "12 plain\n12 generic\n13 plain\n13 generic\n") }

-- and with another
abbrev pub row_printed_os : Row
row_printed_os = record { call = prints (boot4 0x10000); result = printed (ascii "12 plain\n12 generic\n13 plain\n") }

-- "a boot refusal prints `refused N` alone"
abbrev pub row_printed_refused : Row
row_printed_refused = record { call = prints (boot3 12288); result = printed (ascii "refused 26\n") }

-- request 12: what is found in the image that the rows below start with
abbrev pub boot_layout : Layout
boot_layout = layout 4 (section 4096 0) (section 4096 0) none none (section 4096 0) false

-- P12's record: b starts with its own image, and a's is not looked at; "the loader's line, a space, the image's line", then slot and mode, and "space past it is kept"
abbrev pub row_booted : Row
row_booted =
    record {
      call = boots (two 0 2 (slot false false 0) (slot false true 0)) ([] ∷ boot4_with 0 (ascii "quiet") ∷ [] ∷ [] ∷ []) (replicate 32 0) (ascii "console=ttyS0") (replicate 63 7);
      result = booted (effect (accepted (starter.starts 1 boot_layout 61)) (two 1 1 (slot true false 0) (slot false true 0)) (ascii "console=ttyS0 quiet androidboot.slot_suffix=_b skip_initramfs" ++ replicate 2 7));
    }

-- "52 exactly when the line needs more than the space": one byte short, and the record as Start left it
abbrev pub row_booted_short : Row
row_booted_short =
    record {
      call = boots (two 0 2 (slot false false 0) (slot false true 0)) ([] ∷ boot4_with 0 (ascii "quiet") ∷ [] ∷ [] ∷ []) (replicate 32 0) (ascii "console=ttyS0") (replicate 60 7);
      result = booted (effect (refused 52 0) (two 1 1 (slot true false 0) (slot false true 0)) (replicate 60 7));
    }

-- recovery asked for, and an empty loader's line, which still has its space: no ` skip_initramfs`
abbrev pub row_booted_recovery : Row
row_booted_recovery =
    record {
      call = boots (two 0 2 (slot false false 1) (slot false false 3)) (boot4_with 0 (ascii "quiet") ∷ [] ∷ [] ∷ [] ∷ []) (ascii "boot-recovery" ++ replicate 19 0) [] (replicate 33 7);
      result = booted (effect (accepted (starter.starts 0 boot_layout 33)) (two 0 2 (slot false false 0) (slot false false 3)) (ascii " quiet androidboot.slot_suffix=_a"));
    }

-- "also in a refusal after Start": P10 of 12,288 bytes gets 26, and a's try is spent as in P14
abbrev pub row_booted_spent : Row
row_booted_spent =
    record {
      call = boots (two 0 2 (slot false false 1) (slot false false 3)) (boot3 12288 ∷ [] ∷ [] ∷ [] ∷ []) (replicate 32 0) [] (replicate 64 7);
      result = booted (effect (refused 26 0) (two 0 2 (slot false false 0) (slot false false 3)) (replicate 64 7));
    }

-- request 13: P2 and then P7, "blocks skipped (don't care and unknown)"
abbrev pub row_counted_both : Row
row_counted_both = record { call = reports (report 1 1 4 2 12) p7 12; result = reported (record { number = 0; report = report 2 2 8 4 12 }) }

-- P3, counted under its number, and not in the largest
abbrev pub row_counted_refused : Row
row_counted_refused =
    record {
      call = reports (report 1 1 4 2 8) p2 11;
      result = reported (record { number = 0; report = record { accepted = 1; blocks = 1; bytes = 4; skipped = 2; largest = 8; refused = replicate 5 0 ++ (1 ∷ replicate 5 0) } });
    }

-- the last total of 64 bits, beside a largest of 64 bits, which is no total
abbrev pub row_counted_last : Row
row_counted_last =
    record {
      call = reports (report 0 0 0xFFFFFFFFFFFFFFFB 0 0xFFFFFFFFFFFFFFFF) p2 12;
      result = reported (record { number = 0; report = report 1 1 0xFFFFFFFFFFFFFFFF 2 0xFFFFFFFFFFFFFFFF });
    }

-- "61 exactly when a total would pass 64 bits .. the reports then unchanged": one byte more
abbrev pub row_counted_past : Row
row_counted_past =
    record {
      call = reports (report 0 0 0xFFFFFFFFFFFFFFFC 0 7) p2 12;
      result = reported (record { number = 61; report = report 0 0 0xFFFFFFFFFFFFFFFC 0 7 });
    }

-- "Two half reports can be added, taking the larger largest"
abbrev pub row_added : Row
row_added = record { call = adds (report 1 1 4 2 12) (report 2 3 24 0 8); result = reported (record { number = 0; report = report 3 4 28 2 12 }) }

-- what is printed of P2, P7 and P6, in this order
abbrev pub row_totals : Row
row_totals =
    record {
      call = totals (p2 ∷ p7 ∷ (p2 ++ (0 ∷ [])) ∷ []);
      result = printed (ascii "accepted 2\nblocks 2\nbytes 8\nskipped 4\nlargest 12\nrefused 10 1\n");
    }

-- of no file at all
abbrev pub row_totals_none : Row
row_totals_none = record { call = totals []; result = printed (ascii "accepted 0\nblocks 0\nbytes 0\nskipped 0\nlargest 0\n") }

-- P1 to P14, two of request 10 among them, two of request 4, three of request 6, the lister's texts, four of request 5, two of request 7, eight of request 11, four of request 12, and seven of request 13
abbrev pub table : List Row
table =
    row1 ∷ row2 ∷ row3 ∷ row4 ∷ row5 ∷ row6 ∷ row7 ∷ row8 ∷ row8_one ∷ row9 ∷ row9_short ∷ row10 ∷ row10_short ∷ row11 ∷ row_retired ∷ row_retired_past ∷ row12 ∷ row13 ∷ row14 ∷ row_corrupted ∷ row_no_candidate ∷ row_counted ∷ row_miscounted ∷ row_miscounted_start ∷ row_listed ∷ row_listed_unknown ∷ row_compared ∷ row_compared_short ∷ row_compared_geometry ∷ row_compared_second ∷ row_joined ∷ row_joined_short ∷ row_taken ∷ row_not_taken ∷ row_own ∷ row_bad_request ∷ row_os ∷ row_printed ∷ row_printed_os ∷ row_printed_refused ∷ row_booted ∷ row_booted_short ∷ row_booted_recovery ∷ row_booted_spent ∷ row_counted_both ∷ row_counted_refused ∷ row_counted_last ∷ row_counted_past ∷ row_added ∷ row_totals ∷ row_totals_none ∷ []

-- every call of the table gives back what its row says
abbrev pub Worked : Type 0
Worked = map (λ (r : Row). perform r.call) table ≡ map (λ (r : Row). r.result) table
