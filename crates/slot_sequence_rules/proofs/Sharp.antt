-- The sequences of specs/Sharp.antt, computed.
-- Assumes nothing.
use mathlib.Core.Path.{◌≡◌, refl, ap, ◌∙◌}
use Prim.Native.Nat.{ℕ}
use native.Mathlib.Omega.{arith}
use lib.ListN.{replicate}
use Rattle.slot_rules.specs.declared.Op.TheVariants.{Start}
use Rattle.slot_rules.specs.OneSlot.{count_of}
use Rattle.slot_rules.specs.Records.{slot_at, slots_valid, startable_in, valid}
use Rattle.slot_rules.specs.Operations.{fresh_of, first_from, start_of, on_slot, confirm_of}
use Rattle.slot_sequence_rules.specs.Sequences.{run, reached, how_many}
use Rattle.slot_sequence_rules.specs.GivesUp.{StartsSuccessful}
use Rattle.slot_sequence_rules.specs.Sharp.{update, AtMostThree, FourthStart, Sharp}
use Rattle.slot_rules.proofs.Answers.{starts_one}
use Rattle.slot_rules.proofs.Tests.{clash}

at_most_three : AtMostThree
unfolding count_of slots_valid startable_in valid fresh_of first_from start_of on_slot confirm_of run how_many
at_most_three = record { three = refl; no_more = refl; confirmed = refl; set_active = refl; modified = refl; not_confirmed = refl; not_renewed = refl }

-- the third start starts a, which is not successful
third : StartsSuccessful (run (reached 2 update) (replicate 2 Start)) → ⊥
unfolding count_of slots_valid startable_in valid fresh_of first_from start_of on_slot confirm_of run
third h = clash (ap (λ (k : ℕ). (slot_at (run (reached 2 update) (replicate 2 Start)) k).successful) (starts_one 0 h.slot h.is_started) ∙ h.is_successful) refl

fourth_start : FourthStart
unfolding count_of slots_valid startable_in valid fresh_of first_from start_of on_slot confirm_of run
fourth_start = record {
  ready = record { in_use = refl; not_current = λ (e : ◌≡◌ {A = ℕ} 1 0). omega arith; is_successful = refl; intact = refl; bootable = refl };
  third = third;
  fourth = refl;
  refused_between = refl;
  between = refl;
  alone = refl;
}

pub sharp : Sharp
unfolding count_of slots_valid startable_in valid fresh_of start_of run
sharp = record { at_most_three = at_most_three; fourth_start = fourth_start; no_slots = refl; five_slots = refl }
