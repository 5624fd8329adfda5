-- `boot_image::locate` meets its contract: each exit by its law. Assumes nothing.
use Rattle.std.proofs.lemmas.Result.{err_from_is_err_and}
use Rattle.boot_rules.proofs.Answers.{head_err, head_ok}
use Rattle.boot_rules.proofs.Tests.{head_page}
use Rattle.boot_image.proofs.Judging.{out_27, out_26, out_accepted}
use Rattle.boot_image.proofs.locate.Goals as goal

pub returns-in_err-check_header : goal.returns-in_err-check_header
returns-in_err-check_header c =
    let p = err_from_is_err_and c.from_residual.result c.from_residual.ensures.1 in
    rw (p.1, p.2) (head_err c.args.image.now _ c.check_header.ensures _ c.in_err-check_header.was)

pub lay-rooms-requires : goal.lay-rooms-requires
lay-rooms-requires c = head_page c.args.image.now (head_ok c.args.image.now _ c.check_header.ensures _ c.in_ok-check_header.was)

pub returns-then-misplaced : goal.returns-then-misplaced
returns-then-misplaced c =
    out_27 c.args.image.now _ (head_ok c.args.image.now _ c.check_header.ensures _ c.in_ok-check_header.was) c.lay-rooms.ensures _ _ c.offset_in.ensures c.misplaced.ensures c.if-misplaced.true

pub returns-then-any_overrun : goal.returns-then-any_overrun
returns-then-any_overrun c =
    out_26 c.args.image.now _ (head_ok c.args.image.now _ c.check_header.ensures _ c.in_ok-check_header.was) c.lay-rooms.ensures _ _ c.offset_in.ensures c.misplaced.ensures c.if-misplaced.false _ c.any_overrun.ensures c.if-any_overrun.true

pub returns : goal.returns
returns c =
    out_accepted c.args.image.now _ (head_ok c.args.image.now _ c.check_header.ensures _ c.in_ok-check_header.was) c.lay-rooms.ensures _ _ c.offset_in.ensures c.misplaced.ensures c.if-misplaced.false _ c.any_overrun.ensures c.if-any_overrun.false _ _ c.version_in.ensures c.offer.ensures
