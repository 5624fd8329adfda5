-- `tarpaulark_slots::corrupted` meets its contract. Assumes nothing.
use Rattle.slot_on_bytes.proofs.OnBytes.{handed}
use Rattle.tarpaulark_slots.proofs.corrupted.Goals as goal

pub returns : goal.returns
returns c = handed _ _ c.hand_over.ensures c.slot_corrupted-made.ensures
