use Rattle.safety.proofs.statements.cutting_is_harmless_holds.Goals as goal
use Rattle.safety.proofs.Cutting.{cutting_is_harmless}

pub returns : goal.returns
returns c = cutting_is_harmless
