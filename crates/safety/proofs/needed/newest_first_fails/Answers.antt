use Rattle.safety.proofs.needed.newest_first_fails.Goals as goal
use Rattle.safety.proofs.Queues.{newest_first_fails}

pub returns : goal.returns
returns c = newest_first_fails
