-- No refusal has the number 0: each part's own theorem.
-- Assumes nothing.
use Rattle.slot_rules.proofs.Promises as slots
use Rattle.boot_rules.proofs.Answers as boot
use Rattle.boot_launch_rules.proofs.Theorems as launch
use Rattle.starter_rules.proofs.Theorems as starter
use Rattle.sparse_rules.proofs.Theorems as images
use Rattle.sparse_store_rules.proofs.Storing as storing
use Rattle.sparse_stream_rules.proofs.Theorems as passes
use Rattle.sparse_write_rules.proofs.Theorems as writer
use Rattle.sparse_diff_rules.proofs.Theorems as diff
use Rattle.sparse_join_rules.proofs.Theorems as joiner
use Rattle.tarpaulark.specs.Promises.{Promises}

pub promises : Promises
promises =
    record {
      images = images.refusal_numbers;
      storing = storing.storing;
      passes = passes.refusal_numbers;
      writer = writer.refusal_numbers;
      comparing = diff.refusal_numbers;
      joining = joiner.refusal_numbers;
      boot = boot.refusal_numbers;
      launch = launch.refusal_numbers;
      slots = slots.refusal_numbers;
      start = starter.refusal_numbers;
    }
