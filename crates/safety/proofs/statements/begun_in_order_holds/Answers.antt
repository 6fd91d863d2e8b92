use Rattle.safety.proofs.statements.begun_in_order_holds.Goals as goal
use Rattle.safety.proofs.Order.{begun_in_order}

pub returns : goal.returns
returns c = begun_in_order
