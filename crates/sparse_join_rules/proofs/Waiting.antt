-- The bytes that the checksum takes when a chunk ends, those of don't care and fill blocks by their kind, and its state then.
-- Assumes nothing.
use mathlib.Core.Path.{◌≡◌, refl, sym, ap, ap₂, subst, ◌∙◌}
use mathlib.Core.Option.{none, some}
use mathlib.Core.List.{List, [], ◌∷◌, ◌++◌, map, flatten}
use Prim.Native.Nat.{ℕ, zero, suc, ◌+◌, ◌*◌, ◌/◌, ◌%◌, ◌<◌}
use native.Mathlib.Nat.{add-mul}
use native.Mathlib.Omega.{arith}
use Rattle.std.specs.Prelude.{None, Some}
use lib.ListN.{length, get_or, drop, replicate, replicate-append-replicate}
use Rattle.fields_rules.specs.Number.{bytes}
use Rattle.crc32_rules.specs.Crc.{crc_from}
use Rattle.crc32_rules.specs.Power.{repeated}
use Rattle.crc32_rules.proofs.Laws.{crc_nil, crc-append, repeated_add}
use Rattle.sparse_rules.specs.Cells.{tab, raw_byte, zeroed}
use Rattle.sparse_rules.proofs.Cells.{zeroed_append, zeroed_some, zeroed_none}
use Rattle.sparse_rules.proofs.SumLaws.{words}
use Rattle.sparse_write_rules.specs.Blocks.{Block, cells_of_block, block_cells, Fits, AllFit}
use Rattle.sparse_write_rules.specs.Kinds.{BlockKind, kept, raw, fill, stored_kind, block_kind}
use Rattle.sparse_write_rules.specs.declared.Stored.TheVariants.{Raw, Fill}
use Rattle.sparse_write_rules.specs.Parts.{chunk_rest}
use Rattle.sparse_write_rules.proofs.KindCells.{WordFits, stored_fits, Stores, stored_stores}
use Rattle.sparse_write_rules.proofs.FlatImage.{flat_table}
use Rattle.sparse_write_rules.proofs.KindOf.{run_holds}
use Rattle.sparse_join_rules.specs.declared.Growing.{Growing}
use Rattle.sparse_join_rules.specs.Grows.{waiting, settled_by}

-- no blocks, no bytes
pub waiting_none : (b : ℕ) (k : BlockKind) → waiting b k 0 ≡ []
unfolding flatten
waiting_none b kept = let z : 0 * b ≡ 0 = omega arith in rw z
waiting_none b raw = refl
waiting_none b (fill w) = let z : 0 * b / 4 ≡ 0 = omega arith in ap (λ (x : ℕ). repeated x (bytes 4 w)) z

-- of blocks, and of those after them
waiting_more : (b : ℕ) → b % 4 ≡ 0 → (k : BlockKind) (m n : ℕ) → waiting b k (m + n) ≡ waiting b k m ++ waiting b k n
waiting_more b fours kept m n = ap (λ (x : ℕ). replicate x 0) (add-mul m n b) ∙ sym (replicate-append-replicate (m * b) (n * b) 0)
waiting_more b fours raw m n = refl
waiting_more b fours (fill w) m n =
    let z : (m + n) * b / 4 ≡ m * b / 4 + n * b / 4 = omega (arith, words m b fours, words n b fours, words (m + n) b fours, add-mul m n b) in
    ap (λ (x : ℕ). repeated x (bytes 4 w)) z ∙ repeated_add (m * b / 4) (n * b / 4) (bytes 4 w)

-- what blocks of a kind hold: raw ones anything, the others what waits
abbrev pub Waits : ℕ → BlockKind → List ℕ → ℕ → Type 0
Waits b kept ys n = ys ≡ waiting b kept n
Waits b raw ys n = Unit {0}
Waits b (fill w) ys n = ys ≡ waiting b (fill w) n

-- a block that is don't care is kept
kept_block : (b : ℕ) (x : Block) → block_kind b x ≡ kept → zeroed (cells_of_block b x) ≡ waiting b kept 1
kept_block b none e = let one : 1 * b ≡ b = omega arith in rw one (zeroed_none b)
kept_block b (some ys) e = absurd (subst Stores e (stored_stores ys b 0))

-- one that is fill has its word all over
fill_block : (b : ℕ) → b % 4 ≡ 0 → (x : Block) (w : ℕ) → Fits b x → block_kind b x ≡ fill w → zeroed (cells_of_block b x) ≡ waiting b (fill w) 1
fill_block b fours none w f e = let z : ◌≡◌ {A = ℕ} 0 1 = cc in absurd (omega arith)
fill_block b fours (some ys) w f e =
    let alike : (j : ℕ) → j < 1 → stored_kind ys b (0 + j * b) ≡ fill w =
    λ j l. let y : j ≡ 0 = omega arith in let z : 0 + 0 * b ≡ 0 = omega arith in rw (y, z) e in
    let table : tab (raw_byte ys 0) 0 (1 * b) ≡ ys = let z : 1 * b ≡ length ys = omega (arith, f.0) in ap (tab (raw_byte ys 0) 0) z ∙ flat_table ys in
    let z : length ys / 4 ≡ 1 * b / 4 = ap (λ (x : ℕ). x / 4) (omega (arith, f.0)) in
    zeroed_some ys ∙ sym table ∙ run_holds ys f.1 b (fill w) 1 0 fours tt (subst WordFits e (stored_fits ys f.1 b 0)) alike
    ∙ ap (λ (l : List ℕ). repeated (length l / 4) (bytes 4 w)) table ∙ ap (λ (x : ℕ). repeated x (bytes 4 w)) z

-- blocks of a kind, where one of it holds what waits
all_wait : (b : ℕ) → b % 4 ≡ 0 → (k : BlockKind) → ((x : Block) → Fits b x → block_kind b x ≡ k → zeroed (cells_of_block b x) ≡ waiting b k 1)
    → (ps : List Block) (n : ℕ) → AllFit b ps → map (block_kind b) ps ≡ replicate n k → zeroed (block_cells b ps) ≡ waiting b k n
unfolding block_cells zeroed
all_wait b fours k one [] zero f e = sym (waiting_none b k)
all_wait b fours k one [] (suc n) f e = absurd (omega (arith, ap length e))
all_wait b fours k one (x ∷ xs) zero f e = absurd (omega (arith, ap length e))
all_wait b fours k one (x ∷ xs) (suc n) f e =
    let z : 1 + n ≡ suc n = omega arith in
    zeroed_append (cells_of_block b x) (block_cells b xs)
    ∙ ap₂ (λ (u v : List ℕ). u ++ v) (one x f.0 (ap (λ (l : List BlockKind). get_or l 0 k) e)) (all_wait b fours k one xs n f.1 (ap (drop 1) e))
    ∙ sym (waiting_more b fours k 1 n) ∙ ap (waiting b k) z

-- blocks of a kind hold what the kind says
pub alike_waits : (b : ℕ) → b % 4 ≡ 0 → (k : BlockKind) (ps : List Block) (n : ℕ) → AllFit b ps → map (block_kind b) ps ≡ replicate n k
    → Waits b k (zeroed (block_cells b ps)) n
alike_waits b fours kept ps n f e = all_wait b fours kept (λ x g h. kept_block b x h) ps n f e
alike_waits b fours raw ps n f e = tt
alike_waits b fours (fill w) ps n f e = all_wait b fours (fill w) (λ x g h. fill_block b fours x w g h) ps n f e

later_more : (b : ℕ) → b % 4 ≡ 0 → (k : BlockKind) (state m n : ℕ) (ys rest : List ℕ) → ys ≡ waiting b k n
    → crc_from (crc_from state (waiting b k m)) (ys ++ rest) ≡ crc_from (crc_from (crc_from state []) (waiting b k (m + n))) rest
later_more b fours k state m n ys rest h =
    crc-append (crc_from state (waiting b k m)) ys rest
    ∙ ap (λ (c : ℕ). crc_from c rest)
    (sym (crc-append state (waiting b k m) ys) ∙ ap (λ (r : List ℕ). crc_from state (waiting b k m ++ r)) h ∙ ap (crc_from state) (sym (waiting_more b fours k m n))
    ∙ ap (λ (c : ℕ). crc_from c (waiting b k (m + n))) (sym (crc_nil state)))

-- the state goes on over them: raw data are taken now, the others wait with those before them
pub sum_more : (b : ℕ) → b % 4 ≡ 0 → (k : BlockKind) (state m n : ℕ) (ys rest : List ℕ) → Waits b k ys n
    → crc_from (crc_from state (waiting b k m)) (ys ++ rest) ≡ crc_from (crc_from (crc_from state (chunk_rest k ys)) (waiting b k (m + n))) rest
sum_more b fours kept state m n ys rest h = later_more b fours kept state m n ys rest h
sum_more b fours raw state m n ys rest h =
    ap (λ (c : ℕ). crc_from c (ys ++ rest)) (crc_nil state) ∙ crc-append state ys rest ∙ ap (λ (c : ℕ). crc_from c rest) (sym (crc_nil (crc_from state ys)))
sum_more b fours (fill w) state m n ys rest h = later_more b fours (fill w) state m n ys rest h

-- ---- the last chunk ends

module _ (b : ℕ) (g : Growing) (state : ℕ) {len r : ℕ} (many : len ≡ g.blocks * b) where
  -- don't care: zeros
  pub settle_kept : g.kind ≡ None → r ≡ crc_from state (replicate len 0) → r ≡ settled_by b g state
  settle_kept e h = h ∙ rw (e, many)

  -- fill: the word, over and over
  pub settle_fill : {w : ℕ} → g.kind ≡ Some (Fill w) → r ≡ crc_from state (repeated (len / 4) (bytes 4 w)) → r ≡ settled_by b g state
  settle_fill e h = h ∙ rw (e, many)

-- raw: nothing waits
pub settle_raw : (b : ℕ) (g : Growing) (state : ℕ) → g.kind ≡ Some Raw → state ≡ settled_by b g state
settle_raw b g state e = sym (rw e (crc_nil state))
