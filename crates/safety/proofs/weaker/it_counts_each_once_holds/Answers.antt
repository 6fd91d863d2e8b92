use Rattle.safety.proofs.weaker.it_counts_each_once_holds.Goals as goal
use Rattle.safety.proofs.Counting.{it_counts_each_once}

pub returns : goal.returns
returns c = it_counts_each_once
