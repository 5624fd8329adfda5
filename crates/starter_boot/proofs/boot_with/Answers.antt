-- `starter_boot::boot_with` meets its contract. Assumes nothing.
use mathlib.Core.Path.{sym, ap, ◌∙◌}
use Rattle.std.proofs.lemmas.Result.{err_from_is_err_and}
use Rattle.boot_rules.specs.Tests.{answer_of}
use Rattle.starter_rules.proofs.Booting.{booted_refused}
use Rattle.starter_boot.proofs.boot_with.Goals as goal

pub returns-in_err-layout : goal.returns-in_err-layout
returns-in_err-layout c =
    let p = err_from_is_err_and c.from_residual.result c.from_residual.ensures.1 in
    rw (p.1, p.2) (booted_refused _ _ _ _ _ _ (sym (ap answer_of c.in_err-layout.was) ∙ c.locate.ensures))
