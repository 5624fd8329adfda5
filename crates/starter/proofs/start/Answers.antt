-- `starter::start` meets its contract. Assumes nothing.
use mathlib.Core.Path.{ap}
use Rattle.slot_rules.specs.Answers.{number, deed_of, answer_of, change_of}
use Rattle.slot_rules.proofs.Answers.{number_some}
use Rattle.starter_rules.proofs.Starting.{ends_31, ends_51, ends_after}
use Rattle.starter.proofs.start.Goals as goal

pub returns-in-Err : goal.returns-in-Err
returns-in-Err c =
    rw c.refuse.ensures (ends_31 c.args.given _ c.args.misc.now c.args.loader.now c.args.space.now (change_of c.start-changed.result) c.start-changed.ensures (number c.in-Err.refusal) (number_some c.in-Err.refusal) (ap answer_of c.in-Err.is))

pub returns-in-Ok : goal.returns-in-Ok
returns-in-Ok c =
    rw c.refuse-in-Ok.ensures (ends_51 c.args.given _ c.args.misc.now c.args.loader.now c.args.space.now (change_of c.start-changed.result) c.start-changed.ensures _ (ap answer_of c.in-Ok.is) c.if-misc-ne32.true)

pub returns-in-Ok-2 : goal.returns-in-Ok-2
returns-in-Ok-2 c =
    ends_after c.args.given _ c.args.misc.now c.args.loader.now c.args.space.now (change_of c.start-changed.result) c.start-changed.ensures (deed_of c.in-Ok-2.outcome) (ap answer_of c.in-Ok-2.is) c.if-misc-ne32.false c.asks_recovery-asked.ensures c.follow-answer.ensures
