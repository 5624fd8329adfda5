-- `sparse_join::put_chunks` meets its contract. The loop's invariant: what is laid and the blocks that are left make up the image.
-- Assumes nothing.
use mathlib.Core.Path.{◌≡◌, ap, ◌∙◌}
use native.Mathlib.Omega.{arith}
use Rattle.fields_rules.specs.Number.{Bytes}
use Rattle.sparse_join_rules.specs.Ahead.{JoinedAlike}
use Rattle.sparse_join_rules.specs.declared.Growing.{Growing}
use Rattle.sparse_join_rules.proofs.Measuring.{turned_kind}
use Rattle.sparse_join_rules.proofs.Joining.{fewer, measures_small, measures_few, measures_fits, Lays, lays_start, lays_measures, lays_long, lays_done, lays_turn, lays_on}
use Rattle.sparse_join.proofs.put_chunks.Goals as goal
use Rattle.sparse_join.proofs.put_chunks.Goals.{After-front-f, After-sum_turned-summed, After-turned_to-turned}

-- the next blocks, of the two images
ahead : (c : After-front-f) → JoinedAlike c.args.first.now c.args.second.now c.loop-pair.pair.a c.loop-pair.pair.b c.front-f.result.kind c.front-f.result.blocks
ahead c =
    let w = c.loop-pair.invariant in
    rw (w.0, w.1) at c.front-f.ensures

-- the last chunk is of the next blocks' kind
of_kind : (c : After-turned_to-turned) → c.turned_to-turned.result.kind ≡ c.front-f.result.kind
of_kind c =
    ap (λ (g : Growing). g.kind) c.turned_to-turned.ensures ∙ turned_kind c.loop-pair.pair.a.header.block c.loop-pair.growing c.front-f.result.kind

-- and the image is laid up to it
turned : (c : After-sum_turned-summed) → Lays c.args.first.now c.args.second.now c.args.out.now c.loop-pair.out c.loop-pair.pair.a c.loop-pair.pair.b c.turned_to-turned.result c.sum_turned-summed.result
turned c =
    let w = c.loop-pair.invariant in
    rw (c.turned_to-turned.ensures, c.sum_turned-summed.ensures) (lays_turn w.2 (rw (w.0, w.1) at c.front-f.ensures))

pub loop-pair-init : goal.loop-pair-init
loop-pair-init c =
    let r = c.open-pair.ensures.readers in
    (c.open-pair.ensures.images.0, c.open-pair.ensures.images.1, rw (r.0, r.1, c.begun-growing.ensures) (lays_start c.requires.0 c.args.out.now c.requires.2 c.start-state.ensures))

pub front-f-requires : goal.front-f-requires
front-f-requires c =
    let w = c.loop-pair.invariant in
    (rw (w.0, w.1) w.2.at.beside, c.loop-pair-test.true)

pub turned_to-turned-requires : goal.turned_to-turned-requires
turned_to-turned-requires c =
    measures_small (lays_measures c.loop-pair.invariant.2) c.requires.0 c.requires.1

pub put_front-state-requires : goal.put_front-state-requires
put_front-state-requires c =
    let at = goal.at.put_front-state-requires c in
    let i = c.loop-pair.invariant in
    let e = of_kind at.After-turned_to-turned in
    let w = lays_measures (turned at.After-sum_turned-summed) in
    let few = measures_few w c.requires.0 c.requires.1 (ahead at.After-front-f) e in
    let fits = measures_fits w c.requires.0 c.requires.1 (ahead at.After-front-f) e in (
      rw (i.0, i.1) w.at.beside,
      rw e c.front-f.ensures,
      few.1,
      few.0,
      rw e (omega (arith, fits, c.requires.2, lays_long (turned at.After-sum_turned-summed))),
    )

pub lengthened-growing-requires : goal.lengthened-growing-requires
lengthened-growing-requires c =
    let at = goal.at.lengthened-growing-requires c in
    (measures_few (lays_measures (turned at.After-sum_turned-summed)) c.requires.0 c.requires.1 (ahead at.After-front-f) (of_kind at.After-turned_to-turned)).0

pub loop-pair-smaller : goal.loop-pair-smaller
loop-pair-smaller c =
    let w = c.loop-pair.invariant in
    rw (c.pass.ensures.readers.0, w.0) (fewer w.2.at (ahead (goal.at.loop-pair-smaller c).After-front-f))

pub loop-pair-preserved : goal.loop-pair-preserved
loop-pair-preserved c =
    let small : Bytes c.args.first.now = λ i. omega (arith, c.type_inv.first i) in
    let little : Bytes c.args.second.now = λ i. omega (arith, c.type_inv.second i) in
    let w = c.loop-pair.invariant in
    let r = c.pass.ensures in
    let at = goal.at.loop-pair-preserved c in
    let put = rw (w.0, w.1) at c.put_front-state.ensures in
    (r.images.0 ∙ w.0, r.images.1 ∙ w.1, rw (r.readers.0, r.readers.1, w.0, w.1, c.lengthened-growing.ensures) (lays_on (turned at.After-sum_turned-summed) (ahead at.After-front-f) small little (of_kind at.After-turned_to-turned) put.0 put.1))

pub shape_of-out : goal.shape_of-out
shape_of-out c = lays_long c.loop-pair.invariant.2

pub returns : goal.returns
returns c =
    let r = lays_done c.loop-pair.invariant.2 (omega (arith, c.loop-pair-test.false)) in
    (c.settled.ensures ∙ r.0, r.1)
