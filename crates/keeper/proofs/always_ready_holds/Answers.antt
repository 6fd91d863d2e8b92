use Rattle.keeper.proofs.Ready.{always_ready}
use Rattle.keeper.proofs.always_ready_holds.Goals as goal

pub returns : goal.returns
returns c = always_ready
