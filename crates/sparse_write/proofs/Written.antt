-- The image of flat data by the places of its blocks, and the writer's answers from what was measured and put.
-- Assumes nothing.
use mathlib.Core.Path.{◌≡◌, refl, sym, ap, ap₂, ◌∙◌}
use mathlib.Core.Bool.{true, false}
use mathlib.Core.List.{List, ◌∷◌, ◌++◌, map}
use Prim.Native.Nat.{ℕ, zero, suc, ◌+◌, ◌/◌, ◌≤◌, ◌<◌}
use native.Mathlib.Omega.{arith}
use lib.Bits.{bit_xor}
use lib.ListN.{length, length-append}
use lib.Seq.{sets, length-sets}
use Rattle.fields_rules.specs.Number.{placed}
use Rattle.fields_rules.proofs.Laws.{placed_whole}
use Rattle.fields_rules.proofs.Sets.{sets_whole, sets_around}
use Rattle.rules.specs.Answer.{accepted, refused}
use Rattle.crc32_rules.specs.Crc.{crc_from, crc32, all_ones}
use Rattle.crc32_rules.proofs.Laws.{crc_finish}
use Rattle.sparse_rules.specs.Header.{block_size_right}
use Rattle.sparse_write_rules.specs.Blocks.{blocks_from, flat_blocks}
use Rattle.sparse_write_rules.specs.Kinds.{BlockKind, stored_kind, block_kind}
use Rattle.sparse_write_rules.specs.Encode.{header}
use Rattle.sparse_write_rules.specs.Write.{flat_image, length_wrong, answer, output}
use Rattle.sparse_write_rules.proofs.Chunks.{length_header}
use Rattle.sparse_write_rules.proofs.FlatImage.{kind_tab, length-blocks, flat-image, block_good, length_good, refuse_12, accept}
use Rattle.sparse_scan.specs.Scan.{kinds_at}
use Rattle.sparse_write.specs.Flat.{flat_runs, flat_chunks}

-- the kinds of blocks of flat data are those of their places
kinds_flat : (d : List ℕ) (b n at : ℕ) → 4 ≤ b → map (block_kind b) (blocks_from d b n at) ≡ kinds_at (stored_kind d b) b n at
unfolding blocks_from kinds_at
kinds_flat d b zero at h = refl
kinds_flat d b (suc n) at h = ap₂ (λ (k : BlockKind) (r : List BlockKind). k ∷ r) (kind_tab d b at h) (kinds_flat d b n (at + b) h)

-- the header of the image of flat data
abbrev flat_header : List ℕ → ℕ → List ℕ
flat_header d b = header b (length d / b) (length (flat_runs d b)) (crc32 d)

module _ (d : List ℕ) (b : ℕ) (out : List ℕ) (g : block_size_right b ≡ true) (l : length_wrong (length d) b ≡ false) where
  is : flat_image d b ≡ flat_header d b ++ flat_chunks d b
  unfolding flat_blocks
  is =
      flat-image d b (length_good (length d) b l).1
      ∙ rw (kinds_flat d b (length d / b) 0 (block_good b g).0, length-blocks d b (length d / b) 0)

  length_is : length (flat_image d b) ≡ 28 + length (flat_chunks d b)
  length_is = ap length is ∙ simp (length-append, length_header)

  -- what was measured has no room
  pub too_short : (z : ℕ) → z ≡ 28 + length (flat_chunks d b) → length out < z → (refused 12 0 ≡ answer d b (length out)) × (out ≡ output d b out)
  too_short z e h = refuse_12 d b out g l (omega (arith, length_is))

  -- the image is put: its chunks, then its header
  pub image_put : (z k state sum : ℕ) {o1 o2 : List ℕ} → z ≡ 28 + length (flat_chunks d b)
      → k ≡ length (flat_runs d b) → state ≡ crc_from all_ones d → sum ≡ bit_xor state all_ones → z ≤ length out
      → o1 ≡ sets out 28 (flat_chunks d b) → o2 ≡ placed o1 0 (header b (length d / b) k sum)
      → (accepted z ≡ answer d b (length out)) × (o2 ≡ output d b out)
  image_put z k state sum {o1} ez ek es ec h e1 e2 =
      let f : length (flat_image d b) ≤ length out = omega (arith, length_is) in
      let r = accept d b out g l f in
      let long = ap length e1 ∙ length-sets out 28 (flat_chunks d b) in (
        ap accepted (ez ∙ sym length_is) ∙ r.0,
        e2 ∙ placed_whole o1 0 (header b (length d / b) k sum) (rw length_header (omega arith))
            ∙ rw (e1, ek, ec, es, ← crc_finish d) (sets_around (flat_header d b) (flat_chunks d b) out 28 (length_header _ _ _ _) (omega (arith, length_is)))
            ∙ ap (sets out 0) (sym is) ∙ sets_whole (flat_image d b) out f ∙ r.1,
      )
