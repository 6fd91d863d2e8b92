use Rattle.std.proofs.Common.{leb, rules}
use Rattle.store.proofs.slotted.drop_before.Goals as goal

pub returns : goal.returns
returns g c = c.keep.ensures (λ k. leb c.args.slot k) (λ k b post. search rules)
