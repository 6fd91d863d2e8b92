use Rattle.stored.proofs.Small.{numbers_fit}
use Rattle.stored.proofs.numbers_fit_holds.Goals as goal

pub returns : goal.returns
returns c = numbers_fit
