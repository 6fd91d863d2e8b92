-- The entry goes.
use Rattle.std.proofs.Common.{◌-◌, length, arith}
use Rattle.lists.proofs.Regions.{removes}
use Rattle.lists.proofs.changes.remove.Goals as goal

pub returns : goal.returns
returns c rs r h =
    removes c.args.width c.args.room c.args.place (length c.args.region.now - 1) c.count-entries.result c.args.region.now c.cut.new.region rs r h (omega arith) c.cut.auto.region (c.count-entries.ensures.many c.args.width rs r) c.cut.ensures.cells
