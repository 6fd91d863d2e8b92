use Rattle.safety.proofs.weaker.it_counts_by_seat_holds.Goals as goal
use Rattle.safety.proofs.Counting.{it_counts_by_seat}

pub returns : goal.returns
returns c = it_counts_by_seat
