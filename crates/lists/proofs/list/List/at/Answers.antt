-- The entry, or none.
use Rattle.std.proofs.Common.{length, arith}
use Rattle.lists.proofs.Room.{entry_fits}
use Rattle.lists.proofs.Reading.{entry_lent}
use Rattle.lists.proofs.list.List.at.Goals as goal

pub returns-clause-entry : goal.returns-clause-entry
returns-clause-entry g c rs r =
    let many = c.count.ensures.many rs r in
    let fits = entry_fits g.row.W c.args.place c.args.self.room (length c.args.self.region.now) (omega (arith, c.count.ensures.within)) c.args.self.fits in
    entry_lent g.row.W c.args.self.room c.args.place c.args.self.region.now rs c.first_chunk.result r (omega arith) fits c.first_chunk.ensures.cases
