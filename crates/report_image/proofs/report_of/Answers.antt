-- `report_image::report_of` meets its contract: the judge's answer, accepted or refused, is the one that is counted.
-- Assumes nothing.
use Rattle.report_rules.specs.Images.{answer_to}
use Rattle.report_rules.proofs.One.{accepted_one, refused_one}
use Rattle.report_image.proofs.report_of.Goals as goal

pub returns-in-Ok : goal.returns-in-Ok
unfolding answer_to
returns-in-Ok c =
    rw (c.accepted.ensures, c.read_header.ensures)
    (accepted_one (record { image = c.args.image.now; room = c.args.partition_len }) c.in-Ok.counts
    c.in-Ok.ensures)

pub returns-in-Err : goal.returns-in-Err
unfolding answer_to
returns-in-Err c =
    rw c.refused.ensures
    (refused_one (record { image = c.args.image.now; room = c.args.partition_len }) c.in-Err.refusal.number c.in-Err.refusal.place
    c.in-Err.ensures)
