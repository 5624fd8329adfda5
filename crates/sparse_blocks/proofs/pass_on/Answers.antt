-- `sparse_blocks::pass_on` meets its contract: a chunk that has more blocks stays. Assumes nothing.
use mathlib.Core.Path.{◌≡◌, refl, sym, ap, ◌∙◌}
use mathlib.Core.Bool.{false, ◌&&◌}
use Rattle.std.proofs.lemmas.Bool.{lt-leb}
use lib.Dec.{leb, ltb}
use Rattle.sparse_blocks_rules.specs.Reading.{standing}
use Rattle.sparse_blocks_rules.proofs.Turns.{passed_here}
use Rattle.sparse_blocks.proofs.pass_on.Goals as goal

pub returns-then-n-reader : goal.returns-then-n-reader
returns-then-n-reader c =
    let reader = c.args.reader.now in
    let stays : (leb reader.chunk.blocks c.args.n && ltb 0 reader.left) ≡ false = rw (lt-leb reader.chunk.blocks c.args.n c.if-n-reader.true) refl in
    sym
    (passed_here c.args.image.now reader.header reader.left reader.cursor reader.chunk c.args.n stays
    ∙ ap (standing reader.header reader.cursor reader.left) (sym c.less-reader.ensures))
