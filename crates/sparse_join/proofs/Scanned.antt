-- What the scan of a raw chunk's data finds.
-- Assumes nothing.
use mathlib.Core.Path.{◌≡◌, ap, ◌∙◌}
use mathlib.Core.List.{List}
use Prim.Native.Nat.{ℕ, ◌+◌, ◌-◌, ◌*◌, ◌≤◌, ◌<◌}
use native.Mathlib.Nat.{mul-le-mul_right}
use native.Mathlib.Omega.{arith}
use lib.ListN.{length, take, drop, length-drop}
use lib.Seq.{length-take-le}
use Rattle.sparse_rules.specs.declared.Kind.TheVariants.{Raw}
use Rattle.sparse_rules.specs.declared.Chunk.{Chunk}
use Rattle.sparse_rules.specs.Facts.{Summable}
use Rattle.sparse_rules.proofs.SumLaws.{raw_inside}
use Rattle.sparse_write_rules.specs.Kinds.{stored_kind}
use Rattle.std.specs.Prelude.{Option}
use Rattle.sparse_write_rules.specs.declared.Stored.{Stored}
use Rattle.sparse_write_rules.specs.KindOf.{kind_of}
use Rattle.sparse_write_rules.proofs.FlatImage.{block_right}
use Rattle.sparse_scan.specs.Scan.{whole_blocks, first_kind, run_blocks, after_run}
use Rattle.sparse_scan.proofs.Whole.{whole_all}
use Rattle.sparse_scan.proofs.Scanning.{first_of, first_is}
use Rattle.sparse_join_rules.specs.Ahead.{FirstAlike}
use Rattle.sparse_join_rules.proofs.Fronts.{first_raw}

module _ {s : List ℕ} {b : ℕ} {k : Chunk} {n : ℕ} (w : Summable s b k) (least : 4 ≤ b) (some_left : 0 < n) (few : n ≤ k.blocks) (e : k.kind ≡ Raw) where
  -- the data of the first n blocks lie in the image
  pub data_inside : k.body + n * b ≤ length s
  data_inside = omega (arith, raw_inside 0 s b k w e, mul-le-mul_right b few)

  -- the first run of them is found
  pub scanned : {kind : Option Stored} {m len : ℕ} (next : Option Stored) (d : List ℕ) → d ≡ take (k.body + n * b - k.body) (drop k.body s)
      → kind_of kind ≡ first_kind (stored_kind d b) (whole_blocks (length d) b 0) 0
      → m ≡ run_blocks (stored_kind d b) b (kind_of kind) (whole_blocks (length d) b 0) 0 → len ≡ m * b
      → kind_of next ≡ after_run (stored_kind d b) b (kind_of kind) (whole_blocks (length d) b 0) 0 → FirstAlike s b k n kind m × (m ≤ n)
  scanned {kind} next d is known found long goes =
      let z : k.body + n * b - k.body ≡ n * b = omega arith in
      let same : d ≡ take (n * b) (drop k.body s) = is ∙ rw z in
      let all : length d ≡ n * b = ap length same ∙ length-take-le (n * b) (drop k.body s) (omega (arith, data_inside, length-drop k.body s)) in
      let n_is : whole_blocks (length d) b 0 ≡ n = whole_all (length d) b 0 n (block_right b least w.most w.fours) (omega arith) in
      let run = first_is (stored_kind d b) b n 0 kind {k = next} some_left (known ∙ rw n_is (first_of (stored_kind d b) n 0 some_left)) (found ∙ rw n_is) long (goes ∙ rw n_is) in
      (first_raw least some_left e run.some run.fits (λ j l. rw (← same) (run.alike j l)), run.fits)
