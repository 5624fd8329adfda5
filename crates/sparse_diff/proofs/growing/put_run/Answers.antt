-- `sparse_diff::put_run` meets its contract.
-- Assumes nothing.
use mathlib.Core.Path.{◌∙◌}
use native.Mathlib.Nat.{pos_of_ne-zero}
use Rattle.sparse_diff_rules.specs.Diff.{kind_number}
use Rattle.sparse_diff_rules.proofs.Lists.{put_none, put_one}
use Rattle.sparse_diff.proofs.growing.put_run.Goals as goal

pub returns-then-list-eq0 : goal.returns-then-list-eq0
returns-then-list-eq0 c =
    let r = put_none c.args.space.now c.args.list.runs c.args.list.first (kind_number c.args.list.kind) c.args.list.blocks c.if-list-eq0.true in
    record { answer = r.1; contents = r.0 }

pub returns : goal.returns
returns c =
    let some = pos_of_ne-zero c.if-list-eq0.false in
    let r = put_one c.args.space.now c.args.list.runs c.args.list.first (kind_number c.args.list.kind) c.args.list.blocks some in
    record { answer = r.1; contents = c.put.ensures ∙ rw c.kind_number.ensures r.0 }
