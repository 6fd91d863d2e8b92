use Rattle.safety.proofs.statements.handed_is_whole_holds.Goals as goal
use Rattle.safety.proofs.Handing.{handed_is_whole}

pub returns : goal.returns
returns c = handed_is_whole
