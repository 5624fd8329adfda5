-- `crc32_lanes::step::nibble` meets its contract, by the table's rule.
-- Assumes nothing.
use Rattle.crc32_rules.proofs.Nibble.{nibble}
use Rattle.crc32_lanes.specs.declared.step.TheConstants.{TABLE}
use Rattle.crc32_lanes.proofs.Table.{half_bytes}
use Rattle.crc32_lanes.proofs.step.nibble.Goals as goal

pub returns : goal.returns
returns c = nibble TABLE half_bytes c.args.state
