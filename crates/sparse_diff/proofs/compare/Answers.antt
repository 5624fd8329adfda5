-- `sparse_diff::compare` meets its contract.
-- Assumes nothing.
use mathlib.Core.Path.{sym, ◌∙◌}
use Rattle.std.proofs.lemmas.Result.{err_from_is_err_and}
use Rattle.sparse_blocks_rules.proofs.Pairing.{found_matched}
use Rattle.sparse_diff_rules.proofs.Answering.{answers_refusal, answers_short, answers_listed}
use Rattle.sparse_diff.proofs.compare.Goals as goal

pub returns-in_err-matched : goal.returns-in_err-matched
returns-in_err-matched c =
    let p = err_from_is_err_and c.from_residual.result c.from_residual.ensures.1 in
    let r = answers_refusal c.args.first.now c.args.second.now c.args.space.now c.in_err-matched.ensures.answer in
    record { answer = rw (p.1, p.2) r.0; image = rw (p.1, p.2) c.in_err-matched.ensures.image; contents = r.1 }

pub fits-requires : goal.fits-requires
fits-requires c = found_matched _ _ c.in_ok-matched.ensures.answer

pub list-requires : goal.list-requires
list-requires c = found_matched _ _ c.in_ok-matched.ensures.answer

pub returns-then-fits : goal.returns-then-fits
returns-then-fits c =
    let m = found_matched c.args.first.now c.args.second.now c.in_ok-matched.ensures.answer in
    let r = answers_listed c.args.first.now c.args.second.now c.args.space.now m (sym c.fits.ensures ∙ c.if-fits.true) c.list.ensures.answer c.list.ensures.contents in
    record { answer = r.0; image = r.1; contents = r.2 }

pub returns : goal.returns
returns c =
    let m = found_matched c.args.first.now c.args.second.now c.in_ok-matched.ensures.answer in
    let r = answers_short c.args.first.now c.args.second.now c.args.space.now m (sym c.fits.ensures ∙ c.if-fits.false) in
    record { answer = r.0; image = r.1; contents = r.2 }
