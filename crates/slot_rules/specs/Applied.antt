-- Any operation, and what it makes of a record.
-- Assumes nothing.
use Rattle.slot_rules.specs.declared.Record.{Record}
use Rattle.slot_rules.specs.declared.Op.{Op}
use Rattle.slot_rules.specs.declared.Op.TheVariants.{Start, SetActive, Modified, Corrupted, Confirm}
use Rattle.slot_rules.specs.Answers.{Change}
use Rattle.slot_rules.specs.Operations.{start_of, set_active_of, modified_of, corrupted_of, confirm_of}

-- the operation that is named, on the record r
abbrev pub apply : Op → Record → Change
apply Start r = start_of r
apply (SetActive k) r = set_active_of r k
apply (Modified k) r = modified_of r k
apply (Corrupted k) r = corrupted_of r k
apply Confirm r = confirm_of r
