use Rattle.safety.proofs.weaker.it_does_not_let_holds.Goals as goal
use Rattle.safety.proofs.Letting.{it_does_not_let}

pub returns : goal.returns
returns c = it_does_not_let
