-- What is done with the region is done with the list.
use Rattle.std.proofs.Common.{refl}
use Rattle.rows.specs.Rows.{removed}
use Rattle.layout.specs.Layout.{sizes}
use Rattle.store.proofs.Relisting.{relist}
use Rattle.store.proofs.listed.remove.Goals as goal

pub returns : goal.returns
returns g c =
    record {
      layout = refl;
      lent = refl;
      holds =
          λ t t' h inside x.
          relist _ c.part-room.result.1 g.L.Listed.REGION (sizes c.args.memory.now.layout) c.part-room.result.0 c.args.memory.now.numbers.now _ c.remove.new.region t t' (g.L.Listed.rows t) (removed (g.L.Listed.rows t) c.args.place) c.part-room.ensures.room c.part-room.ensures.spans refl h (g.met.L.Listed.held t h.well)
          (λ r. c.remove.ensures (g.L.Listed.rows t) r inside)
          x;
    }
