-- `sparse_write::put::sum_fill` meets its contract.
-- Assumes nothing.
use mathlib.Core.Path.{sym, ap, ◌∙◌}
use Rattle.crc32_rules.specs.Crc.{crc_from}
use Rattle.sparse_write.proofs.put.sum_fill.Goals as goal

pub returns-else-src-lt-LONG : goal.returns-else-src-lt-LONG
returns-else-src-lt-LONG c =
    c.update_word.ensures ∙ ap (crc_from c.args.state) (sym c.requires)
