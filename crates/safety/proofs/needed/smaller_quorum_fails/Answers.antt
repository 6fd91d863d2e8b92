use Rattle.safety.proofs.needed.smaller_quorum_fails.Goals as goal
use Rattle.safety.proofs.Bounds.{smaller_quorum_fails}

pub returns : goal.returns
returns c = smaller_quorum_fails
