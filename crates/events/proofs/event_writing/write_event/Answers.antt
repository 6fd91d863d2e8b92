use Rattle.std.proofs.Common.{◌≡◌, ℕ, List, Result}
use Rattle.events.specs.declared.event.Event.{Event}
use Rattle.events.specs.declared.not_written.NotWritten.{NotWritten}
use Rattle.events.specs.Layout.{event_bytes}
use Rattle.events.specs.Meaning.{event_of, row_data}
use Rattle.events.specs.Writing.{Outcome, row_long_enough}
use Rattle.events.proofs.event_writing.write_event.Goals as goal

-- what is written of an event, by its case
of-case : {e e' : Event} (before after : List ℕ) (r : Result ℕ NotWritten) → e ≡ e' → Outcome (row_long_enough e') (event_bytes (event_of e')) before after r
    → Outcome (row_long_enough e) (event_bytes (event_of e)) before after r
of-case before after r p h = rw p h

pub returns-in-OnDuty : goal.returns-in-OnDuty
unfolding event_bytes event_of
returns-in-OnDuty c = of-case c.args.out.now c.write_one.new.out c.write_one.result c.in-OnDuty.is c.write_one.ensures

pub returns-in-Decided : goal.returns-in-Decided
unfolding event_bytes event_of
returns-in-Decided c =
    of-case c.args.out.now c.write_one-in-Decided.new.out c.write_one-in-Decided.result c.in-Decided.is c.write_one-in-Decided.ensures

pub returns-in-ShareCame : goal.returns-in-ShareCame
unfolding event_bytes event_of
returns-in-ShareCame c =
    of-case c.args.out.now c.write_one-in-ShareCame.new.out c.write_one-in-ShareCame.result c.in-ShareCame.is c.write_one-in-ShareCame.ensures

pub returns-in-Block : goal.returns-in-Block
unfolding event_of row_data
returns-in-Block c = of-case c.args.out.now c.write_lent.new.out c.write_lent.result c.in-Block.is c.write_lent.ensures

pub returns-in-Resend : goal.returns-in-Resend
unfolding event_of
returns-in-Resend c = of-case c.args.out.now c.write_resend.new.out c.write_resend.result c.in-Resend.is c.write_resend.ensures
