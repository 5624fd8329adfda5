-- `sparse_stream_lay::lay_last` meets its contract. Assumes nothing.
use mathlib.Core.Path.{◌∙◌}
use Rattle.sparse_stream_lay.proofs.Laying.{last_laid}
use Rattle.sparse_stream_lay.proofs.lay_last.Goals as goal

pub returns : goal.returns
returns c =
    c.lay_fill.ensures ∙ last_laid c.args.x c.args.b c.args.partition.now c.requires
