use Rattle.safety.proofs.statements.quorums_meet_holds.Goals as goal
use Rattle.safety.proofs.Quorums.{quorums_meet}

pub returns : goal.returns
returns c = quorums_meet
