-- `starter_line::put_line` meets its contract. Assumes nothing.
use Rattle.std.proofs.Common.{rules}
use Rattle.text.proofs.Growing.{puts_then, put_whole}
use Rattle.starter_rules.specs.Line.{line}
use Rattle.starter_line.proofs.put_line.Goals as goal

pub returns : goal.returns
unfolding line
returns c =
    let end = puts_then c.put_suffix.ensures c.put_mode.ensures in
    let rest = puts_then c.put-2.ensures (puts_then c.put_image_line.ensures end) in
    let whole = put_whole c.at-text.ensures (puts_then c.put.ensures rest) in
    search rules
