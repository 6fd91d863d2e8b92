use Rattle.safety.proofs.Theorems.{for_its_slot}
use Rattle.safety.proofs.never_punished.for_its_slot_holds.Goals as goal

pub returns : goal.returns
returns c = for_its_slot
