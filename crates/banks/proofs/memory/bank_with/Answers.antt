use Rattle.banks.proofs.Marking.{found}
use Rattle.banks.proofs.memory.bank_with.Goals as goal

pub returns-in_err-place-clause-first : goal.returns-in_err-place-clause-first
returns-in_err-place-clause-first c t h =
    rw c.from_residual.ensures (found c.args.mark c.region.result.now t.banks _ (c.region.ensures.shown t h) c.in_err-place.ensures.first)

pub returns-clause-first : goal.returns-clause-first
returns-clause-first c t h = found c.args.mark c.region.result.now t.banks _ (c.region.ensures.shown t h) c.in_ok-place.ensures.first
