use Rattle.safety.proofs.Pasts.{forgetting_is_safe}
use Rattle.safety.proofs.never_punished.forgetting_is_safe_holds.Goals as goal

pub returns : goal.returns
returns c = forgetting_is_safe
