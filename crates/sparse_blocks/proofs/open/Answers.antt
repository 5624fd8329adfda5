-- `sparse_blocks::open` meets its contract.
-- Assumes nothing.
use mathlib.Core.Path.{ap, ◌∙◌}
use Rattle.sparse_rules.specs.declared.Header.{Header}
use Rattle.sparse_rules.specs.declared.Chunk.{Chunk}
use Rattle.sparse_rules.specs.Walk.{origin}
use Rattle.sparse_blocks_rules.specs.Reading.{nothing, passed, opened}
use Rattle.sparse_blocks.proofs.open.Goals as goal

pub returns : goal.returns
unfolding opened
returns c =
    c.pass.ensures
    ∙ ap (λ (k : Chunk). passed c.args.image.now c.read_header-header.result c.read_header-header.result.chunks (origin c.read_header-header.result) k 0) c.nothing.ensures
    ∙ ap (λ (h : Header). passed c.args.image.now h h.chunks (origin h) nothing 0) c.read_header-header.ensures
