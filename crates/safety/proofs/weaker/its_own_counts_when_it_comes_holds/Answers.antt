use Rattle.safety.proofs.weaker.its_own_counts_when_it_comes_holds.Goals as goal
use Rattle.safety.proofs.Counting.{its_own_counts_when_it_comes}

pub returns : goal.returns
returns c = its_own_counts_when_it_comes
