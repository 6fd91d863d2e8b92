use Rattle.safety.proofs.weaker.it_always_signs_holds.Goals as goal
use Rattle.safety.proofs.Firsts.{it_always_signs}

pub returns : goal.returns
returns c = it_always_signs
