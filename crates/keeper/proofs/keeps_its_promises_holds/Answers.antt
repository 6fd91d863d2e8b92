use Rattle.keeper.proofs.Promises.{keeps_its_promises}
use Rattle.keeper.proofs.keeps_its_promises_holds.Goals as goal

pub returns : goal.returns
returns c = keeps_its_promises
