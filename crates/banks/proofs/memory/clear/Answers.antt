use Rattle.std.proofs.Common.{refl}
use lib.ListN.{length-replicate}
use Rattle.stored.specs.Stored.{empty}
use Rattle.layout.specs.Layout.{sizes}
use Rattle.banks.proofs.Held.{bank_written, bank_zeros}
use Rattle.banks.proofs.memory.clear.Goals as goal

pub returns : goal.returns
returns c =
    let m = c.args.memory.now in
    record {
      layout = refl;
      lent = refl;
      holds =
          λ t h. bank_written (sizes m.layout) c.args.place c.cells_at-cells.result m.numbers.now t h c.cells_at-cells.ensures c.requires _ _ (length-replicate t.sizes.clients empty)
          (bank_zeros (sizes m.layout) c.args.place c.cells_at-cells.result m.numbers.now t h c.cells_at-cells.ensures c.requires _ (c.fill.ensures.after (λ y e. e)));
    }
