use Rattle.stored.proofs.Regions.{reads_back}
use Rattle.stored.proofs.reads_back_holds.Goals as goal

pub returns : goal.returns
returns c = reads_back
