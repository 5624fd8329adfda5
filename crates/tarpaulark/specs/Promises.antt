-- What holds of every number that is returned: 0 tells an accepted input from a refused one.
-- Assumes nothing.
use Rattle.slot_rules.specs.Promises as slots
use Rattle.boot_rules.specs.Tests as boot
use Rattle.boot_launch_rules.specs.Theorems as launch
use Rattle.starter_rules.specs.Theorems as starter
use Rattle.sparse_rules.specs.Theorems as images
use Rattle.sparse_store_rules.specs.Storing as storing
use Rattle.sparse_stream_rules.specs.Theorems as passes
use Rattle.sparse_write_rules.specs.Theorems as writer
use Rattle.sparse_diff_rules.specs.Theorems as diff
use Rattle.sparse_join_rules.specs.Theorems as joiner

-- no refusal of any part has the number 0, which is returned where nothing is refused
pub record Promises : Type 0 where
  pub images : images.RefusalNumbers
  pub storing : storing.Storing
  pub passes : passes.RefusalNumbers
  pub writer : writer.RefusalNumbers
  pub comparing : diff.RefusalNumbers
  pub joining : joiner.RefusalNumbers
  pub boot : boot.RefusalNumbers
  pub launch : launch.RefusalNumbers
  pub slots : slots.RefusalNumbers
  pub start : starter.RefusalNumbers
