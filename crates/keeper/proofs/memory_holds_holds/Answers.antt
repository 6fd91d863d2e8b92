use Rattle.keeper.proofs.FittingMemory.{memory_holds}
use Rattle.keeper.proofs.memory_holds_holds.Goals as goal

pub returns : goal.returns
returns c = memory_holds
