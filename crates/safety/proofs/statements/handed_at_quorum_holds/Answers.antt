use Rattle.safety.proofs.statements.handed_at_quorum_holds.Goals as goal
use Rattle.safety.proofs.Handing.{handed_at_quorum}

pub returns : goal.returns
returns c = handed_at_quorum
