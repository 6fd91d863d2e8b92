use Rattle.safety.proofs.weaker.it_looks_when_asked_holds.Goals as goal
use Rattle.safety.proofs.Letting.{it_looks_when_asked}

pub returns : goal.returns
returns c = it_looks_when_asked
