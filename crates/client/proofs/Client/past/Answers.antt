use Rattle.std.specs.Prelude.{slice_get}
use Rattle.std.proofs.Common.{sym, ap}
use Rattle.protocol.specs.Client.{State}
use Rattle.client.proofs.Refuses.{state_idle}
use Rattle.client.proofs.Client.past.Goals as goal

pub returns : goal.returns
returns c =
    let l = c.args.self.now.limits in
    λ es. sym (ap (λ (s : State). slice_get s.past c.args._place) (state_idle l.clients l.me l.kept l.waiting es))
