use Rattle.client_in_memory.proofs.NewClient.{opened_is, opened_after}
use Rattle.client_in_memory.proofs.calls.open.Goals as goal

pub returns : goal.returns
returns c = let o = c.in_ok-open.ensures.1 in (opened_after c.args.limits.now c.args.memory.now c.open.new.memory o, opened_is c.args.limits.now c.args.memory.now c.open.new.memory o)
