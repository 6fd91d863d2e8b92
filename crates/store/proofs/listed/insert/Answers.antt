-- What is done with the region is done with the list.
use Rattle.std.proofs.Common.{take, refl}
use Rattle.rows.specs.Rows.{inserted}
use Rattle.layout.specs.Layout.{sizes}
use Rattle.store.proofs.Relisting.{relist_with}
use Rattle.store.proofs.listed.insert.Goals as goal

pub returns : goal.returns
returns g c =
    record {
      layout = refl;
      lent = refl;
      holds =
          λ t t' h inside x.
          relist_with _ c.part-room.result.1 g.L.Listed.REGION (sizes c.args.memory.now.layout) c.part-room.result.0 c.args.memory.now.numbers.now _ c.insert.new.region c.to_numbers-row.result (g.L.Entry.InNumbers.numbers c.args.entry.now) t t' (g.L.Listed.rows t)
          (λ n row. take n (inserted (g.L.Listed.rows t) c.args.place row))
          c.part-room.ensures.room c.part-room.ensures.spans refl c.to_numbers-row.ensures h (g.met.L.Listed.held t h.well) (λ r. c.insert.ensures (g.L.Listed.rows t) r inside) x;
    }
