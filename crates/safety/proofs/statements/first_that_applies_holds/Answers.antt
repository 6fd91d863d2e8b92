use Rattle.safety.proofs.statements.first_that_applies_holds.Goals as goal
use Rattle.safety.proofs.Refusals.{first_that_applies}

pub returns : goal.returns
returns c = first_that_applies
