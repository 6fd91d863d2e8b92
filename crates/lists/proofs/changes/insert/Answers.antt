-- The entry has its place.
use Rattle.std.proofs.Common.{◌-◌, min, length, ap, ◌∙◌, arith}
use Rattle.lists.proofs.Regions.{inserts}
use Rattle.lists.proofs.changes.insert.Goals as goal

pub returns : goal.returns
returns c rs r h =
    let many = c.count-entries.ensures.many c.args.width rs r in
    let least = c.min-behind.ensures ∙ ap (λ i. min i (c.args.room - 1)) many in
    inserts c.args.width c.args.room c.args.place (length c.args.region.now - 1) c.min-behind.result c.args.row.now c.args.region.now c.put.new.region rs r h c.if-place-room.false c.requires.1 (omega arith) c.put.auto.region least c.put.ensures.cells
