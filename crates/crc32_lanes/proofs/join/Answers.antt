-- `crc32_lanes::join` meets its contract: the first state over as many zero bytes, and the second state is added.
-- Assumes nothing.
use mathlib.Core.Path.{sym, ap₂, ◌∙◌}
use lib.Bits.{bit_xor}
use lib.ListN.{length}
use Rattle.crc32_rules.proofs.Pieces.{crc_join}
use Rattle.crc32_lanes.proofs.join.Goals as goal

pub returns : goal.returns
returns c xs h e = ap₂ bit_xor (c.carry.ensures (length xs) h) e ∙ sym (crc_join xs c.args.a)
