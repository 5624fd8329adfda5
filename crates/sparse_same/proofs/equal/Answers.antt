-- `sparse_same::equal` meets its contract: slices' equality finds the same as the loop. Assumes nothing.
use mathlib.Core.Path.{◌≡◌, ◌∙◌}
use Rattle.std.proofs.Common.{rules, tests}
use Rattle.sparse_blocks_rules.specs.Same.{alike}
use Rattle.sparse_blocks_rules.proofs.Turns.{equal_alike}
use Rattle.sparse_same.proofs.equal.Goals as goal

pub returns : goal.returns
returns c =
    let same : c.eq.result ≡ alike c.args.first.now c.args.second.now = c.eq.ensures ∙ equal_alike _ _ in
    search (rules, tests)
