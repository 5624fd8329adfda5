-- Kinds as the code carries them, and what blocks of a kind hold.
-- Assumes nothing.
use mathlib.Core.Path.{◌≡◌, refl, sym, ap, subst, ◌∙◌}
use mathlib.Core.Bool.{true, false}
use mathlib.Core.List.{List, []}
use Rattle.std.specs.Prelude.{Option, None, Some}
use Prim.Native.Nat.{ℕ, ◌+◌, ◌*◌, ◌/◌, ◌%◌, ◌<◌}
use lib.ListN.{length}
use Rattle.fields_rules.specs.Number.{bytes, Bytes}
use Rattle.fields_rules.proofs.Laws.{number_bytes, bytes_number}
use Rattle.crc32_rules.specs.Power.{repeated}
use Rattle.sparse_rules.specs.Cells.{tab, raw_byte, fill_byte, zeroed}
use Rattle.sparse_rules.proofs.Cells.{length-tab, zeroed_some, zeroed_fill}
use Rattle.sparse_rules.proofs.SumLaws.{words}
use Rattle.sparse_rules.proofs.Image.{fill_cells}
use Rattle.sparse_write_rules.specs.Kinds.{BlockKind, kept, raw, fill, same_kind, stored_kind}
use Rattle.std.specs.Option.{option_eq}
use Rattle.sparse_write_rules.specs.contracts.StoredPartialEq.TheImpl.{eq-value}
use Rattle.sparse_write_rules.proofs.KindCells.{WordFits, Stores, run-cells}
use Rattle.sparse_write_rules.proofs.Runs.{tells_kinds, apart}
use Rattle.sparse_write_rules.specs.declared.Stored.{Stored}
use Rattle.sparse_write_rules.specs.declared.Stored.TheVariants.{Raw, Fill}
use Rattle.sparse_write_rules.specs.KindOf.{kind_of, OfKind}
use Rattle.sparse_write_rules.specs.Parts.{chunk_rest}

-- ---- kinds

back : BlockKind → Option Stored
back kept = None
back raw = Some Raw
back (fill w) = Some (Fill w)

back_again : (k : Option Stored) → back (kind_of k) ≡ k
unfolding back
back_again None = refl
back_again (Some Raw) = refl
back_again (Some (Fill w)) = refl

-- blocks of one kind store one thing
pub one_kind : (j k : Option Stored) → kind_of j ≡ kind_of k → j ≡ k
one_kind j k e = sym (back_again j) ∙ ap back e ∙ back_again k

-- what the derived test of two of these tells: whether blocks are of one kind
pub told : (j k : Option Stored) → option_eq eq-value.it j k ≡ same_kind (kind_of j) (kind_of k)
told None None = refl
told None (Some Raw) = refl
told None (Some (Fill w)) = refl
told (Some Raw) None = refl
told (Some Raw) (Some Raw) = refl
told (Some Raw) (Some (Fill w)) = refl
told (Some (Fill v)) None = refl
told (Some (Fill v)) (Some Raw) = refl
told (Some (Fill v)) (Some (Fill w)) = refl

module _ (j k : Option Stored) where
  -- where it holds, they are
  pub same_told : option_eq eq-value.it j k ≡ true → kind_of j ≡ kind_of k
  same_told h = tells_kinds.sound (kind_of j) (kind_of k) (sym (told j k) ∙ h)

  -- and where it fails, they are not
  pub apart_told : option_eq eq-value.it j k ≡ false → kind_of j ≡ kind_of k → ⊥
  apart_told h = apart same_kind tells_kinds (kind_of j) (kind_of k) (sym (told j k) ∙ h)

-- stored blocks store something
pub some_stored : (k : Option Stored) → Stores (kind_of k) → k ≡ None → ⊥
some_stored None h e = h
some_stored (Some x) h e = subst (λ (o : Option Stored). Stores (kind_of o)) e h

-- only raw blocks have raw data
pub rest_other : (k : BlockKind) (xs : List ℕ) → (k ≡ raw → ⊥) → chunk_rest k xs ≡ []
rest_other kept xs d = refl
rest_other raw xs d = absurd (d refl)
rest_other (fill w) xs d = refl

-- ---- what blocks hold

-- a word, repeated
fill_repeated : (w n : ℕ) → w < 4294967296 → tab (fill_byte (bytes 4 w) 0) 0 (4 * n) ≡ repeated n (bytes 4 w)
fill_repeated w n h =
    sym (zeroed_some (tab (fill_byte (bytes 4 w) 0) 0 (4 * n)))
    ∙ ap zeroed (sym (fill_cells (bytes 4 w) 0 (4 * n)))
    ∙ zeroed_fill (bytes 4 w) (bytes_number 4 w) 0 n
    ∙ ap (λ (v : ℕ). repeated n (bytes 4 v)) (number_bytes 4 w [] h)

-- blocks of one kind hold what the kind says
pub run_holds : (d : List ℕ) → Bytes d → (b : ℕ) (kind : BlockKind) (m at : ℕ) → b % 4 ≡ 0 → Stores kind → WordFits kind
    → ((j : ℕ) → j < m → stored_kind d b (at + j * b) ≡ kind) → OfKind kind (tab (raw_byte d at) 0 (m * b))
run_holds d small b kept m at fours p lt alike = absurd p
run_holds d small b raw m at fours p lt alike = tt
run_holds d small b (fill w) m at fours p lt alike =
    let whole : length (tab (raw_byte d at) 0 (m * b)) ≡ m * b = length-tab (raw_byte d at) 0 (m * b) in
    let q : m * b ≡ 4 * (m * b / 4) = sym (words m b fours) in
    let same_bytes : tab (fill_byte (bytes 4 w) 0) 0 (m * b) ≡ tab (raw_byte d at) 0 (m * b) =
    sym (zeroed_some (tab (fill_byte (bytes 4 w) 0) 0 (m * b))) ∙ ap zeroed (run-cells d small b (fill w) m at fours alike) ∙ zeroed_some (tab (raw_byte d at) 0 (m * b)) in
    sym same_bytes ∙ ap (tab (fill_byte (bytes 4 w) 0) 0) q ∙ fill_repeated w (m * b / 4) lt ∙ rw whole
