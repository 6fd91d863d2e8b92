use Rattle.safety.proofs.weaker.it_hands_in_holds.Goals as goal
use Rattle.safety.proofs.Counting.{it_hands_in}

pub returns : goal.returns
returns c = it_hands_in
