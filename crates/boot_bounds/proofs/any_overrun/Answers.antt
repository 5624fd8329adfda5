-- `boot_bounds::any_overrun` meets its contract: by what `any` answers. Assumes nothing.
use mathlib.Core.Bool.{true, false}
use mathlib.Core.Path.{◌≡◌}
use borrow.Author.Rules.{rules}
use Rattle.std.proofs.lemmas.Iterator.{YieldsList-from_slice, cases_from_any}
use Rattle.boot_rules.specs.Sections.{rooms_in}
use Rattle.boot_rules.specs.Tests.{overruns}
use Rattle.boot_bounds.proofs.Any.{any_answer}
use Rattle.boot_bounds.proofs.any_overrun.Goals as goal

pub returns : goal.returns
returns c =
    any_answer (overruns c.args.n) (rooms_in c.args.rooms) _
    (cases_from_any _ _ _ (λ x. overruns c.args.n x ≡ true) (λ x. overruns c.args.n x ≡ false) c.any.ensures.ran (YieldsList-from_slice (rooms_in c.args.rooms) c.iter.ensures.rest) (λ x q k. search rules) (λ x q k. search rules))
