use Rattle.std.proofs.Common.{refl}
use Rattle.events.specs.Layout.{event_bytes}
use Rattle.events.proofs.Laid.{lay_byte, laid_written}
use Rattle.events.proofs.event_writing.write_resend.Goals as goal

pub returns-then-out-lt1 : goal.returns-then-out-lt1
unfolding event_bytes
returns-then-out-lt1 c = (refl, record { short = c.if-out-lt1.true; kept = refl })

pub returns : goal.returns
unfolding event_bytes
returns c = rw c.from.ensures (refl, laid_written 1 1 (lay_byte c.args.out.now 4 c.if-out-lt1.false) refl refl)
