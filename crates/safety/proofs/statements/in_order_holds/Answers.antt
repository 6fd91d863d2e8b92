use Rattle.safety.proofs.statements.in_order_holds.Goals as goal
use Rattle.safety.proofs.Order.{in_order}

pub returns : goal.returns
returns c = in_order
