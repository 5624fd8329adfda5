-- `sparse_join::measure` meets its contract. The loop's invariant: what is measured and the blocks that are left make up the image.
-- Assumes nothing.
use mathlib.Core.Path.{◌≡◌, ap, ◌∙◌}
use native.Mathlib.Omega.{arith}
use Rattle.sparse_join_rules.specs.Ahead.{JoinedAlike}
use Rattle.sparse_join_rules.specs.declared.Growing.{Growing}
use Rattle.sparse_join_rules.proofs.Measuring.{turned_kind}
use Rattle.sparse_join_rules.proofs.Joining.{fewer, Measures, measures_start, measures_small, measures_done, measures_turn, measures_on, measures_few}
use Rattle.sparse_join.proofs.measure.Goals as goal
use Rattle.sparse_join.proofs.measure.Goals.{After-front-f, After-turned_to}

-- the next blocks, of the two images
ahead : (c : After-front-f) → JoinedAlike c.args.first.now c.args.second.now c.loop-pair.pair.a c.loop-pair.pair.b c.front-f.result.kind c.front-f.result.blocks
ahead c =
    let w = c.loop-pair.invariant in
    rw (w.0, w.1) at c.front-f.ensures

-- the last chunk is of the next blocks' kind
of_kind : (c : After-turned_to) → c.turned_to.result.kind ≡ c.front-f.result.kind
of_kind c =
    ap (λ (g : Growing). g.kind) c.turned_to.ensures ∙ turned_kind c.loop-pair.pair.a.header.block c.loop-pair.growing c.front-f.result.kind

-- and the image is measured up to it
turned : (c : After-turned_to) → Measures c.args.first.now c.args.second.now c.loop-pair.pair.a c.loop-pair.pair.b c.turned_to.result
turned c =
    let w = c.loop-pair.invariant in
    rw c.turned_to.ensures (measures_turn w.2 c.requires.0 c.requires.1 (rw (w.0, w.1) at c.front-f.ensures))

pub loop-pair-init : goal.loop-pair-init
loop-pair-init c =
    let r = c.open-pair.ensures.readers in
    (c.open-pair.ensures.images.0, c.open-pair.ensures.images.1, rw (r.0, r.1, c.begun-growing.ensures) (measures_start c.requires.0))

pub front-f-requires : goal.front-f-requires
front-f-requires c =
    let w = c.loop-pair.invariant in
    (rw (w.0, w.1) w.2.at.beside, c.loop-pair-test.true)

pub turned_to-requires : goal.turned_to-requires
turned_to-requires c =
    measures_small c.loop-pair.invariant.2 c.requires.0 c.requires.1

pub lengthened-growing-requires : goal.lengthened-growing-requires
lengthened-growing-requires c =
    let at = goal.at.lengthened-growing-requires c in
    (measures_few (turned at.After-turned_to) c.requires.0 c.requires.1 (ahead at.After-front-f) (of_kind at.After-turned_to)).0

pub loop-pair-smaller : goal.loop-pair-smaller
loop-pair-smaller c =
    let w = c.loop-pair.invariant in
    rw (c.pass.ensures.readers.0, w.0) (fewer w.2.at (ahead (goal.at.loop-pair-smaller c).After-front-f))

pub loop-pair-preserved : goal.loop-pair-preserved
loop-pair-preserved c =
    let w = c.loop-pair.invariant in
    let r = c.pass.ensures in
    let at = goal.at.loop-pair-preserved c in
    (r.images.0 ∙ w.0, r.images.1 ∙ w.1, rw (r.readers.0, r.readers.1, w.0, w.1, c.lengthened-growing.ensures) (measures_on (turned at.After-turned_to) c.requires.0 c.requires.1 (ahead at.After-front-f) (of_kind at.After-turned_to)))

pub ended-requires : goal.ended-requires
ended-requires c =
    measures_small c.loop-pair.invariant.2 c.requires.0 c.requires.1

pub returns : goal.returns
returns c =
    let r = measures_done c.loop-pair.invariant.2 c.requires.0 c.requires.1 (omega (arith, c.loop-pair-test.false)) in
    (ap (λ (g : Growing). g.at) c.ended.ensures ∙ r.0, ap (λ (g : Growing). g.chunks) c.ended.ensures ∙ r.1)
