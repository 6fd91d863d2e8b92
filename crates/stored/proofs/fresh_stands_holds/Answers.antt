use Rattle.stored.proofs.Stands.{fresh_stands}
use Rattle.stored.proofs.fresh_stands_holds.Goals as goal

pub returns : goal.returns
returns c = fresh_stands
