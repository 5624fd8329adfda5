-- `starter_boot::write_line` meets its contract. Assumes nothing.
use Rattle.starter_rules.specs.Line.{line}
use Rattle.starter_rules.proofs.Booting.{booted_long, booted_starts}
use Rattle.starter_boot.proofs.write_line.Goals as goal

pub returns-then-space-needs : goal.returns-then-space-needs
returns-then-space-needs c =
    booted_long c.args.slot c.args.layout (line c.args.loader.now c.args.image.now c.args.slot c.args.asked) c.args.space.now c.put_line-needs.result c.put_line-needs.ensures c.if-space-needs.true

pub returns : goal.returns
returns c =
    booted_starts c.args.slot c.args.layout (line c.args.loader.now c.args.image.now c.args.slot c.args.asked) c.args.space.now c.put_line-needs.result c.put_line-needs.ensures c.if-space-needs.false c.put_line.ensures
