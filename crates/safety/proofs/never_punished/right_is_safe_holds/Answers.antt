use Rattle.safety.proofs.Theorems.{right_is_safe}
use Rattle.safety.proofs.never_punished.right_is_safe_holds.Goals as goal

pub returns : goal.returns
returns c = right_is_safe
