use Rattle.safety.proofs.statements.reaches_holds.Goals as goal
use Rattle.safety.proofs.Reach.{reaches}

pub returns : goal.returns
returns c = reaches
