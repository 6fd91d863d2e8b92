use Rattle.stored.proofs.Regions.{has_its_size}
use Rattle.stored.proofs.has_its_size_holds.Goals as goal

pub returns : goal.returns
returns c = has_its_size
