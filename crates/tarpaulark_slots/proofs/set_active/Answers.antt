-- `tarpaulark_slots::set_active` meets its contract. Assumes nothing.
use Rattle.slot_on_bytes.proofs.OnBytes.{handed}
use Rattle.tarpaulark_slots.proofs.set_active.Goals as goal

pub returns : goal.returns
returns c = handed _ _ c.hand_over.ensures c.set_active-made.ensures
