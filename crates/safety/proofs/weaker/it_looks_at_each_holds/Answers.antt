use Rattle.safety.proofs.weaker.it_looks_at_each_holds.Goals as goal
use Rattle.safety.proofs.Entries.{it_looks_at_each}

pub returns : goal.returns
returns c = it_looks_at_each
