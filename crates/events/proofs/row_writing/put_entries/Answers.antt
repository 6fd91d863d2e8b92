use Rattle.std.proofs.Common.{arith}
use Rattle.events.proofs.LaidRows.{none_entered, room_for_next, one_entered, all_entered}
use Rattle.events.proofs.row_writing.put_entries.Goals as goal

pub loop-entry-init : goal.loop-entry-init
loop-entry-init g c = none_entered g.T.Fixed.coded g.T.Fixed.width g.met.T.Fixed.long c.args.entries.now c.args.out.now c.args.at c.requires

pub put-requires : goal.put-requires
put-requires g c =
    room_for_next g.T.Fixed.coded g.T.Fixed.width g.met.T.Fixed.long c.args.entries.now c.args.out.now c.args.at c.loop-entry.entry-index c.loop-entry.end c.loop-entry.out
    c.requires
    c.loop-entry.invariant
    c.loop-entry-test.true

pub overflow_add-end : goal.overflow_add-end
overflow_add-end g c =
    let room = room_for_next g.T.Fixed.coded g.T.Fixed.width g.met.T.Fixed.long c.args.entries.now c.args.out.now c.args.at c.loop-entry.entry-index c.loop-entry.end c.loop-entry.out
    c.requires
    c.loop-entry.invariant
    c.loop-entry-test.true in
    omega (arith, c.size-end.ensures)

pub loop-entry-preserved : goal.loop-entry-preserved
loop-entry-preserved g c =
    rw c.size-end.ensures
    (one_entered g.T.Fixed.coded g.T.Fixed.width g.met.T.Fixed.long c.args.entries.now c.args.out.now c.args.at c.loop-entry.entry-index c.loop-entry.end c.loop-entry.out
    c.entry-item.result
    c.requires
    c.loop-entry.invariant
    c.loop-entry-test.true
    c.entry-item.is
    c.put.ensures)

pub returns : goal.returns
returns g c =
    all_entered g.T.Fixed.coded g.T.Fixed.width g.met.T.Fixed.long c.args.entries.now c.args.out.now c.args.at c.loop-entry.entry-index c.loop-entry.end c.loop-entry.out
    (omega arith)
    c.loop-entry-test.false
    c.loop-entry.invariant
