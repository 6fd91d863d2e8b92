use Rattle.safety.proofs.needed.one_bad_more_fails.Goals as goal
use Rattle.safety.proofs.Bounds.{one_bad_more_fails}

pub returns : goal.returns
returns c = one_bad_more_fails
