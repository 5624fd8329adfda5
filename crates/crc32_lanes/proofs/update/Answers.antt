-- `crc32_lanes::update` meets its contract: the quarters where the slice is long, and then what is left.
-- Assumes nothing.
use mathlib.Core.Path.{sym, ap, ap₂, ◌∙◌}
use Prim.Native.Nat.{◌-◌, ◌%◌}
use lib.ListN.{length, take, drop, take-append-drop}
use Rattle.crc32_rules.specs.Crc.{crc_from}
use Rattle.crc32_rules.proofs.Laws.{crc-append}
use Rattle.crc32_lanes.proofs.update.Goals as goal

pub returns : goal.returns
returns c =
    let s = c.args.state in
    let xs = c.args.src.now in
    let k = length xs - length xs % 4 in
    c.serial-2.ensures
    ∙ ap₂ crc_from (c.quarters-s.ensures ∙ ap (crc_from s) c.split_at.ensures.front) c.split_at.ensures.back
    ∙ sym (crc-append s (take k xs) (drop k xs))
    ∙ ap (crc_from s) (take-append-drop k xs)
