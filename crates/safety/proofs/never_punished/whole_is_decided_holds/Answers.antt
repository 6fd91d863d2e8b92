use Rattle.safety.proofs.Theorems.{whole_is_decided}
use Rattle.safety.proofs.never_punished.whole_is_decided_holds.Goals as goal

pub returns : goal.returns
returns c = whole_is_decided
