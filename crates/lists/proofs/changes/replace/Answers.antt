-- The numbers of the entry are written over.
use Rattle.std.proofs.Common.{arith}
use Rattle.lists.proofs.Regions.{replaces}
use Rattle.lists.proofs.changes.replace.Goals as goal

pub returns : goal.returns
returns c rs r h =
    replaces c.args.width c.args.room c.args.place _ c.args.row.now c.args.region.now c.copy_from_slice.new.self rs r h (omega arith) c.copy_from_slice.ensures.after c.requires.1
