-- `tarpaulark_slots::startable` meets its contract. Assumes nothing.
use Rattle.slot_on_bytes.proofs.OnBytes.{told}
use Rattle.tarpaulark_slots.proofs.startable.Goals as goal

pub returns : goal.returns
returns c = told _ _ c.startable-told.ensures
