use Rattle.safety.proofs.needed.meet_just_when_holds.Goals as goal
use Rattle.safety.proofs.Bounds.{meet_just_when}

pub returns : goal.returns
returns c = meet_just_when
