use Rattle.safety.proofs.weaker.it_signs_holds.Goals as goal
use Rattle.safety.proofs.Firsts.{it_signs}

pub returns : goal.returns
returns c = it_signs
