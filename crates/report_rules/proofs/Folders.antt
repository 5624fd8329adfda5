-- Laws of the files of a folder: what each turn does, and that the turns give the text.
-- Assumes nothing.
use mathlib.Core.Path.{◌≡◌, refl, sym, ap, ◌∙◌}
use mathlib.Core.Bool.{Bool, true, false, cond}
use mathlib.Core.List.{List, [], ◌∷◌, ◌++◌, map, append_assoc, append-nil}
use Prim.Native.Nat.{ℕ, suc, ◌+◌, ◌*◌, ◌≤◌, ◌<◌, ◌^◌}
use native.Mathlib.Nat.{le_trans, mul-le-mul_left, mul-le-mul_right, zero-mul}
use native.Mathlib.Omega.{arith}
use lib.Dec.{leb, ltb, eqb}
use lib.ListN.{length, get_or, length-append}
use borrow.Author.Tests.{lt-ltb, le-ltb, ltb-true, ltb-false, leb-true, leb-false}
use Rattle.rules.specs.Answer.{Answer, accepted, refused}
use Rattle.text_rules.specs.Input.{longest, partition}
use Rattle.text_rules.specs.Put.{Put}
use Rattle.text_rules.specs.Words.{ascii, decimal}
use Rattle.text_rules.proofs.Digits.{decimal_most}
use Rattle.sparse_rules.specs.declared.Counts.{Counts}
use Rattle.sparse_rules.specs.Header.{block_size, total_blocks}
use Rattle.sparse_rules.specs.Counts.{written, dont_care_of, unknown}
use Rattle.sparse_rules.proofs.Facts.{accepted_facts}
use Rattle.sparse_rules.proofs.Image.{answer_accepted}
use Rattle.sparse_rules.proofs.Theorems.{sums}
use Rattle.report_rules.specs.declared.Report.{Report}
use Rattle.report_rules.specs.Images.{Item, answer_to, accepted_by, blocks_by, bytes_by, skipped_by, refused_by}
use Rattle.report_rules.specs.Reports.{total, report_of, counted}
use Rattle.report_rules.specs.Theorems.{Fits}
use Rattle.report_rules.specs.Text.{text}
use Rattle.report_rules.specs.Folder.{file_name, judged_file, taken, printed, turn_by, turn, after, FolderPrinted}
use Rattle.report_rules.proofs.Sums.{count_at, count_past, parts_fit}
use Rattle.report_rules.proofs.Ways.{every_way}

module _ (r : Report) (s : List ℕ) where
  -- a file that is too long
  pub turn_long : longest < length s → turn r s ≡ record { more = false; report = r }
  unfolding turn
  turn_long h = rw (lt-ltb longest (length s) h)

  -- any other
  pub turn_counted : length s ≤ longest → turn r s ≡ turn_by (counted r (judged_file s))
  unfolding turn
  turn_counted h = rw (le-ltb longest (length s) h)

-- a name that has been put from the start on lies in 24 bytes
pub name_fits : (n : ℕ) {a b : List ℕ} {k : ℕ} → Put a 0 (file_name n) b k → k ≤ 24
unfolding file_name
name_fits n p = omega (arith, p.past, length-append (decimal n) (ascii ".img"), decimal_most n)

-- ---- no total passes 64 bits

-- what a file adds to each total: no more than the bytes that it is judged for
record Little (s : List ℕ) (a : Answer Counts) : Type 0 where
  accepted : accepted_by a ≤ partition
  blocks : blocks_by a ≤ partition
  bytes : bytes_by s a ≤ partition
  skipped : skipped_by a ≤ partition
  refused : (n : ℕ) → refused_by n a ≤ partition

little : (s : List ℕ) (a : Answer Counts) → a ≡ answer_to (judged_file s) → Little s a
unfolding answer_to accepted_by blocks_by bytes_by skipped_by refused_by
little s (accepted c) e =
    let t = answer_accepted s (length s) partition c e in
    let ks = t.ks in
    let sum = sums s (length s) partition ks t.found in
    let w : c.written ≡ written ks = ap (λ (k : Counts). k.written) t.counts in
    let d : c.dont_care ≡ dont_care_of ks = ap (λ (k : Counts). k.dont_care) t.counts in
    let u : c.unknown ≡ unknown ks = ap (λ (k : Counts). k.unknown) t.counts in
    let least = (accepted_facts s (length s) partition ks t.found).header.block_least in
    let one : total_blocks s * 1 ≤ total_blocks s * block_size s = mul-le-mul_left (total_blocks s) (omega (arith, least)) in
    let part : c.written * block_size s ≤ total_blocks s * block_size s = mul-le-mul_right (block_size s) (omega (arith, sum.total)) in
    record {
      accepted = omega arith;
      blocks = omega (arith, sum.total, sum.fits);
      bytes = le_trans part sum.fits;
      skipped = omega (arith, sum.total, sum.fits);
      refused = λ n. omega arith;
    }
little s (refused n place) e =
    record { accepted = omega arith; blocks = omega arith; bytes = omega (arith, zero-mul (block_size s)); skipped = omega arith; refused = λ m. one (eqb n m) }
  where
    one : (b : Bool) → cond b 1 0 ≤ partition
    one true = omega arith
    one false = omega arith

-- so over some files
total_most : (f : Item → ℕ) → ((s : List ℕ) → f (judged_file s) ≤ partition) → (ss : List (List ℕ)) → total f (map judged_file ss) ≤ length ss * partition
unfolding total
total_most f h [] = omega arith
total_most f h (s ∷ ss) = omega (arith, h s, total_most f h ss)

files_fit : (ss : List (List ℕ)) → length ss < 2 ^ 44 → Fits (report_of (map judged_file ss))
unfolding report_of
files_fit ss short =
    record {
      accepted = omega (arith, total_most (λ x. accepted_by (answer_to x)) (λ s. (its s).accepted) ss);
      blocks = omega (arith, total_most (λ x. blocks_by (answer_to x)) (λ s. (its s).blocks) ss);
      bytes = omega (arith, total_most (λ x. bytes_by x.image (answer_to x)) (λ s. (its s).bytes) ss);
      skipped = omega (arith, total_most (λ x. skipped_by (answer_to x)) (λ s. (its s).skipped) ss);
      refused = λ i. count i (ltb i 11) refl;
    }
  where
    its : (s : List ℕ) → Little s (answer_to (judged_file s))
    its s = little s (answer_to (judged_file s)) refl

    count : (i : ℕ) (b : Bool) → ltb i 11 ≡ b → get_or (report_of (map judged_file ss)).refused i 0 < 2 ^ 64
    count i true e = omega (arith, count_at (map judged_file ss) i (ltb-true i 11 e), total_most (λ x. refused_by (1 + i) (answer_to x)) (λ s. (its s).refused (1 + i)) ss)
    count i false e = omega (arith, count_past (map judged_file ss) i (ltb-false i 11 e))

-- ---- file after file

-- the files after one that is too long, and after any other
taken_long : (s : List ℕ) (ss : List (List ℕ)) → longest < length s → taken (s ∷ ss) ≡ []
unfolding taken
taken_long s ss h = rw (lt-ltb longest (length s) h)

taken_more : (s : List ℕ) (ss : List (List ℕ)) → length s ≤ longest → taken (s ∷ ss) ≡ s ∷ taken ss
unfolding taken
taken_more s ss h = rw (le-ltb longest (length s) h)

-- no more files are taken than there are
taken_most : (ss : List (List ℕ)) → length (taken ss) ≤ length ss
unfolding taken
taken_most [] = omega arith
taken_most (s ∷ ss) = go (leb (length s) longest) refl (taken_most ss)
  where
    go : (b : Bool) → leb (length s) longest ≡ b → length (taken ss) ≤ length ss → length (taken (s ∷ ss)) ≤ suc (length ss)
    go true e h = rw (taken_more s ss (leb-true (length s) longest e)) (omega arith)
    go false e h = rw (taken_long s ss (leb-false (length s) longest e)) (omega arith)

-- a turn that ends it, and one that does not
after_last : (r q : Report) (s : List ℕ) (ss : List (List ℕ)) → turn r s ≡ record { more = false; report = q } → after r (s ∷ ss) ≡ q
unfolding after
after_last r q s ss e = rw e

after_next : (r q : Report) (s : List ℕ) (ss : List (List ℕ)) → turn r s ≡ record { more = true; report = q } → after r (s ∷ ss) ≡ after q ss
unfolding after
after_next r q s ss e = rw e

-- a file that is counted after some images, where all of them fit
turn_next : (xs : List Item) (s : List ℕ) → length s ≤ longest → Fits (report_of (xs ++ (judged_file s ∷ []))) → turn (report_of xs) s ≡ record { more = true; report = report_of (xs ++ (judged_file s ∷ [])) }
unfolding counted
turn_next xs s h f = turn_counted (report_of xs) s h ∙ ap turn_by (every_way.halves xs (judged_file s ∷ []) f)

-- the report after files, from that of some images on, where all of them fit
after_taken : (xs : List Item) (ss : List (List ℕ)) → Fits (report_of (xs ++ map judged_file (taken ss))) → after (report_of xs) ss ≡ report_of (xs ++ map judged_file (taken ss))
unfolding after taken
after_taken xs [] f = rw (append-nil xs)
after_taken xs (s ∷ ss) f = go (leb (length s) longest) refl (after_taken (xs ++ (judged_file s ∷ [])) ss)
  where
    go : (b : Bool) → leb (length s) longest ≡ b
        → (Fits (report_of ((xs ++ (judged_file s ∷ [])) ++ map judged_file (taken ss))) → after (report_of (xs ++ (judged_file s ∷ []))) ss ≡ report_of ((xs ++ (judged_file s ∷ [])) ++ map judged_file (taken ss)))
        → after (report_of xs) (s ∷ ss) ≡ report_of (xs ++ map judged_file (taken (s ∷ ss)))
    go false e rest =
        let h = leb-false (length s) longest e in
        after_last (report_of xs) (report_of xs) s ss (turn_long (report_of xs) s h) ∙ sym (rw (taken_long s ss h, append-nil xs))
    go true e rest =
        let h = leb-true (length s) longest e in
        let one = xs ++ (judged_file s ∷ []) in
        let same : xs ++ map judged_file (taken (s ∷ ss)) ≡ one ++ map judged_file (taken ss) = rw (taken_more s ss h) (sym (append_assoc xs (judged_file s ∷ []) (map judged_file (taken ss)))) in
        let g : Fits (report_of (one ++ map judged_file (taken ss))) = rw same at f in
        after_next (report_of xs) (report_of one) s ss (turn_next xs s h (parts_fit one (map judged_file (taken ss)) g).0) ∙ rest g ∙ rw same

-- the turns from an empty report on give the text
pub folder_printed : FolderPrinted
unfolding printed
folder_printed ss short = ap text (after_taken [] ss (files_fit (taken ss) (omega (arith, taken_most ss))))
