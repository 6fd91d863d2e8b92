use Rattle.events.proofs.LaidRows.{Entered}
use Rattle.events.proofs.row_writing.put_entries.Given as goal

abbrev pub invariant-loop-entry : goal.invariant-loop-entry
invariant-loop-entry g l =
    Entered g.T.Fixed.coded g.T.Fixed.width g.met.T.Fixed.long l.entries l.initial.out l.initial.at l.entry-index l.end l.out
