-- `boot_image::sections::lay` meets its contract: one section after the other. Assumes nothing.
use mathlib.Core.Path.{◌≡◌, refl}
use native.Mathlib.Omega.{arith}
use Rattle.std.proofs.Common.{rules, tests}
use Rattle.boot_rules.proofs.Placing.{sections_six}
use Rattle.boot_image.proofs.Laying.{Known, ready, bytes, first_laid, one_more}
use Rattle.boot_image.proofs.sections.lay.Goals as goal

pub loop-i-init : goal.loop-i-init
loop-i-init c = first_laid _ _ _ c.page_in-page.ensures refl

pub after-next-requires : goal.after-next-requires
after-next-requires c =
    let known : Known c.args.image.now c.page_in-page.result c.row_in-row.result = record { small = bytes _ c.type_inv.image; page = c.page_in-page.ensures; right = c.requires; row = c.row_in-row.ensures } in
    let r = ready known c.loop-i.i c.loop-i.next (c.loop-i.invariant.start c.loop-i-test.true) in (r.0, r.2)

pub loop-i-preserved : goal.loop-i-preserved
loop-i-preserved c =
    one_more _ (bytes _ c.type_inv.image) _ c.row_in-row.ensures _ _ _ c.loop-i.invariant c.loop-i-test.true _ c.word-size.ensures _ c.page_in-page.ensures _ _ c.map.ensures.cases (λ x y k. search rules) c.after-next.result (search (rules, tests))

pub returns : goal.returns
returns c =
    let d = c.loop-i.invariant.done in
    let n : c.loop-i.i ≡ 6 = omega arith in
    rw (d 0 (omega arith), d 1 (omega arith), d 2 (omega arith), d 3 (omega arith), d 4 (omega arith), d 5 (omega arith)) (sections_six _)
