-- Those that pass stay.
use Rattle.std.proofs.Common.{◌-◌, length, arith}
use Rattle.lists.proofs.Regions.{keeps}
use Rattle.lists.proofs.changes.keep.Goals as goal

pub returns : goal.returns
returns g c p t rs r =
    keeps p c.args.width c.args.room (length c.args.region.now - 1) c.count-entries.result c.keep.result c.args.region.now c.keep.new.region rs r (omega arith) c.keep.auto.region (c.count-entries.ensures.many c.args.width rs r) (c.keep.ensures.cells p t) (c.keep.ensures.stay p t)
