-- `tarpaulark_slots::confirm` meets its contract. Assumes nothing.
use Rattle.slot_on_bytes.proofs.OnBytes.{handed}
use Rattle.tarpaulark_slots.proofs.confirm.Goals as goal

pub returns : goal.returns
returns c = handed _ _ c.hand_over.ensures c.operate-made.ensures
