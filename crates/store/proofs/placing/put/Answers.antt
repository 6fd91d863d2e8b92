-- What is done with the region is done with the list.
use Rattle.std.proofs.Common.{eqb, get_or, take, refl}
use Rattle.layout.specs.Layout.{sizes}
use Rattle.store.specs.Placing.{put_by}
use Rattle.store.proofs.Relisting.{relist_with}
use Rattle.store.proofs.placing.put.Goals as goal

pub returns : goal.returns
returns g c p computes =
    record {
      layout = refl;
      lent = refl;
      holds =
          λ t t' h x.
          relist_with _ c.part-room.result.1 g.L.Listed.REGION (sizes c.args.memory.now.layout) c.part-room.result.0 c.args.memory.now.numbers.now _ c.put_by.new.region c.to_numbers-row.result (g.L.Entry.InNumbers.numbers c.args.entry.now) t t' (g.L.Listed.rows t)
          (λ n row. take n (put_by (λ r. p (get_or r g.L.Slotted.SLOT 0)) (λ r. eqb (get_or r g.L.Slotted.SLOT 0) (get_or row g.L.Slotted.SLOT 0)) row (g.L.Listed.rows t)))
          c.part-room.ensures.room c.part-room.ensures.spans refl c.to_numbers-row.ensures h (g.met.L.Listed.held t h.well) (c.put_by.ensures p computes (g.L.Listed.rows t)) x;
    }
