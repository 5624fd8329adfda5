-- `sparse_diff::grow` meets its contract.
-- Assumes nothing.
use mathlib.Core.Path.{sym, ◌∙◌}
use denote.Enum.Bare.{same_true, same_false}
use Rattle.sparse_diff_rules.specs.contracts.Change.{the_type}
use Rattle.sparse_diff_rules.proofs.Lists.{grows_same, grows_other}
use Rattle.sparse_diff.proofs.growing.grow.Goals as goal

pub returns-then-eq : goal.returns-then-eq
returns-then-eq c =
    grows_same c.args.space.now c.args.list c.args.f.kind c.args.f.blocks (same_true the_type tt _ _ (sym c.eq.ensures ∙ c.if-eq.true))

pub returns : goal.returns
returns c =
    grows_other c.args.space.now c.args.list c.args.f.kind c.args.f.blocks c.requires.2 (same_false the_type _ _ (sym c.eq.ensures ∙ c.if-eq.false))
    c.put_run-runs.ensures.contents c.put_run-runs.ensures.answer
