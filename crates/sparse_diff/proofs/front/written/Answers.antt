-- `sparse_diff::written` meets its contract.
-- Assumes nothing.
use mathlib.Core.Path.{sym, ap, ap₂, ◌∙◌}
use mathlib.Core.Bool.{Bool, ◌||◌, cond}
use Rattle.sparse_diff_rules.proofs.Changes.{front_one, front_all}
use Rattle.sparse_diff.proofs.front.written.Goals as goal

pub returns-then-is_raw : goal.returns-then-is_raw
returns-then-is_raw c =
    front_one c.requires.0 c.requires.1 c.requires.2 c.requires.3 (c.both-kind.ensures ∙ ap (λ (z : Bool). cond z 3 4) c.same_block.ensures)

pub returns : goal.returns
returns c =
    front_all c.requires.0 c.requires.1 c.requires.2 c.requires.3 (c.both-kind.ensures ∙ ap (λ (z : Bool). cond z 3 4) c.same_block.ensures) c.min.ensures
    (ap₂ (λ (x y : Bool). x || y) (sym c.is_raw.ensures) (sym c.is_raw-2.ensures) ∙ c.if-is_raw.false)
