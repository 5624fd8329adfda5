-- `sparse_match::judged` meets its contract.
-- Assumes nothing.
use mathlib.Core.Path.{ap, ◌∙◌}
use lib.ListN.{length}
use Rattle.sparse_rules.specs.Answers as judge
use Rattle.sparse_blocks_rules.proofs.Pairing.{needed_is}
use Rattle.sparse_match.proofs.judged.Goals as goal

pub returns : goal.returns
returns c =
    c.judge.ensures ∙ ap (judge.answer c.args.image.now (length c.args.image.now)) (c.bytes_of.ensures ∙ needed_is c.args.image.now c.read_header-header.ensures)
