-- `boot_image::pages::after` meets its contract: the shifts round up to a page. Assumes nothing.
use Prim.Native.Nat.{◌+◌}
use native.Mathlib.Omega.{arith}
use Rattle.boot_rules.proofs.Rounding.{page, rounded}
use Rattle.boot_image.proofs.pages.after.Goals as goal

pub overflow_sub-result : goal.overflow_sub-result
overflow_sub-result c = let g = page c.args.page c.requires.0 in omega arith

pub overflow_cast-result-2 : goal.overflow_cast-result-2
overflow_cast-result-2 c = let g = page c.args.page c.requires.0 in record { fits = omega arith }

pub overflow_shr-result : goal.overflow_shr-result
overflow_shr-result c = let g = page c.args.page c.requires.0 in g.shift

pub overflow_cast-result-3 : goal.overflow_cast-result-3
overflow_cast-result-3 c = let g = page c.args.page c.requires.0 in record { fits = omega arith }

pub overflow_shl-result : goal.overflow_shl-result
overflow_shl-result c = let g = page c.args.page c.requires.0 in g.shift

pub returns : goal.returns
returns c = rounded (c.args.start + c.args.size) c.args.page (page c.args.page c.requires.0) (omega arith)
