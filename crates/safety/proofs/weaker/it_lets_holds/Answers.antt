use Rattle.safety.proofs.weaker.it_lets_holds.Goals as goal
use Rattle.safety.proofs.Letting.{it_lets}

pub returns : goal.returns
returns c = it_lets
