use Rattle.safety.proofs.Theorems.{one_word}
use Rattle.safety.proofs.never_punished.one_word_holds.Goals as goal

pub returns : goal.returns
returns c = one_word
