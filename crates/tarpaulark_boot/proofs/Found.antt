-- What is handed over is the answer's numbers, found or refused. Assumes nothing.
use mathlib.Core.Path.{◌≡◌, refl}
use Rattle.std.specs.Prelude.{Result, Ok, Err}
use Rattle.std.specs.Result.{result_ok}
use Rattle.boot_rules.specs.declared.Layout.{Layout}
use Rattle.boot_rules.specs.declared.Refusal.{Refusal}
use Rattle.boot_rules.specs.Tests as boot
use Rattle.boot_launch_rules.specs.declared.LaunchRefusal.{LaunchRefusal}
use Rattle.boot_launch_rules.specs.Tests as launch
use Rattle.tarpaulark_numbers.specs.Numbers.{layout_numbers, offered_numbers}

pub located : (a : Result Layout Refusal) → offered_numbers (result_ok a) ≡ layout_numbers (boot.answer_of a)
located (Ok l) = refl
located (Err r) = refl

pub launched : (a : Result Layout LaunchRefusal) → offered_numbers (result_ok a) ≡ layout_numbers (launch.answer_of a)
launched (Ok l) = refl
launched (Err r) = refl
