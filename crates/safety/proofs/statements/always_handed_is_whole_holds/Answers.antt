use Rattle.safety.proofs.statements.always_handed_is_whole_holds.Goals as goal
use Rattle.safety.proofs.Handing.{always_handed_is_whole}

pub returns : goal.returns
returns c = always_handed_is_whole
