use Rattle.std.proofs.Common.{refl, rules, get_or}
use Rattle.rows.specs.Rows.{kept}
use Rattle.layout.specs.Layout.{sizes}
use Rattle.store.proofs.Relisting.{relist}
use Rattle.store.proofs.slotted.keep.Goals as goal

pub returns : goal.returns
returns g c p computes =
    record {
      layout = refl;
      lent = refl;
      holds = λ t h.
          relist _ c.part-room.result.1 g.L.Listed.REGION (sizes c.args.memory.now.layout) c.part-room.result.0 c.args.memory.now.numbers.now _ c.keep.new.region t (g.L.Slotted.only p t) (g.L.Listed.rows t) (kept (λ row. p (get_or row g.L.Slotted.SLOT 0)) (g.L.Listed.rows t)) c.part-room.ensures.room c.part-room.ensures.spans refl h (g.met.L.Listed.held t h.well) (c.keep.ensures (λ row. p (get_or row g.L.Slotted.SLOT 0)) (λ row b long post. search (rules, computes, c.SLOT-place.ensures)) (g.L.Listed.rows t)) (g.met.L.Slotted.keeps p t h.well);
    }
