use Rattle.safety.proofs.needed.no_floor_fails.Goals as goal
use Rattle.safety.proofs.Bounds.{no_floor_fails}

pub returns : goal.returns
returns c = no_floor_fails
