-- `sparse_judge::judging::judge` meets its contract: header, structure and checksum, each refusing before the next is looked at.
-- Assumes nothing.
use Rattle.std.proofs.lemmas.Result.{err_from_is_err_and}
use Rattle.sparse_rules.specs.Answers.{answer_of}
use Rattle.sparse_judge.proofs.Verdicts.{answer_header, answer_structure, answer_checked, Passed, passed}
use Rattle.sparse_judge.proofs.judging.judge.Goals as goal
use Rattle.sparse_judge.proofs.judging.judge.Goals.{In_ok-header}

-- the header passed its tests
header : (c : In_ok-header) → Passed c.args.image.now c.args.partition_len c.in_ok-header.header
header c = passed c.args.image.now c.args.partition_len _ c.in_ok-header.ensures

pub returns-in_err-header : goal.returns-in_err-header
returns-in_err-header c =
    let p = err_from_is_err_and c.from_residual.result c.from_residual.ensures.1 in
    rw (p.1, p.2) (answer_header c.args.image.now c.args.partition_len _ _ c.in_err-header.ensures)

pub returns-in_err-counts : goal.returns-in_err-counts
returns-in_err-counts c =
    let p = err_from_is_err_and c.from_residual-in_err-counts.result c.from_residual-in_err-counts.ensures.1 in
    let h = header (goal.at.returns-in_err-counts c).In_ok-header in
    rw (p.1, p.2)
    (answer_structure c.args.image.now c.args.partition_len h.tests c.in_ok-header.header h.is _ _ c.in_err-counts.ensures)

pub checked-requires : goal.checked-requires
checked-requires c =
    let h = header (goal.at.checked-requires c).In_ok-header in
    (h.is, h.block_most, h.block_fours)

pub returns : goal.returns
returns c =
    let h = header (goal.at.returns c).In_ok-header in
    answer_checked c.args.image.now c.args.partition_len h.tests c.in_ok-header.header h.is
    c.in_ok-counts.counts (answer_of c.checked.result)
    c.in_ok-counts.ensures c.checked.ensures
