use Rattle.std.proofs.Common.{refl, arith, ap, ◌+◌}
use Rattle.events.proofs.Laid.{lay_byte, lay_placed, laid_written}
use Rattle.events.proofs.event_writing.write_one.Goals as goal

pub returns-then-out-size : goal.returns-then-out-size
returns-then-out-size g c = (refl, record { short = omega (arith, c.size.ensures, c.if-out-size.true, g.met.T.Fixed.long c.args.value.now); kept = refl })

pub returns : goal.returns
returns g c =
    let first = lay_byte c.args.out.now c.from.result (omega arith) in
    let laid = lay_placed first (g.T.Fixed.coded c.args.value.now) g.T.Fixed.width (g.met.T.Fixed.long c.args.value.now) (omega (arith, c.size.ensures, c.if-out-size.false)) c.put.ensures in
    (refl, rw c.from.ensures at (laid_written _ _ laid laid.long (ap (λ n. 1 + n) c.size-2.ensures)))
