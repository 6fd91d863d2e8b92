use Rattle.std.proofs.Common.{not, rules}
use Rattle.store.specs.Among.{among}
use Rattle.store.proofs.slotted.drop_slots.Goals as goal

pub returns : goal.returns
returns g c = c.keep.ensures (λ k. not (among k c.args.slots.now)) (λ k b post. search rules)
