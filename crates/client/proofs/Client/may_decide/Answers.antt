use Rattle.std.proofs.Common.{sym, ap}
use Rattle.protocol.specs.Client.{State, lets_now, some_valid}
use Rattle.wire.specs.Meaning.{data_of}
use Rattle.client.proofs.Refuses.{state_idle}
use Rattle.client.proofs.Client.may_decide.Goals as goal

pub returns : goal.returns
unfolding some_valid
returns c =
    let l = c.args.self.now.limits in
    λ es. sym (ap (λ (s : State). lets_now s c.args._slot (data_of c.args._data.now)) (state_idle l.clients l.me l.kept l.waiting es))
