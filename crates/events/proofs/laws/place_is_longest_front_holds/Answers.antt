use Rattle.events.proofs.laws.place_is_longest_front_holds.Goals as goal
use Rattle.events.proofs.EventPlace.{place_longest}

pub returns : goal.returns
returns c = place_longest
