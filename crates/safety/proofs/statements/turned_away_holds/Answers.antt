use Rattle.safety.proofs.statements.turned_away_holds.Goals as goal
use Rattle.safety.proofs.Order.{turned_away}

pub returns : goal.returns
returns c = turned_away
