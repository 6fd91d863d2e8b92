use Rattle.std.proofs.Common.{drop, sym, ◌∙◌, arith, length-drop}
use Rattle.protocol.specs.Client.{resend}
use Rattle.events.specs.Meaning.{event_of}
use Rattle.events.specs.Reading.{read_as}
use Rattle.events.proofs.Exactly.{exactly_long, exactly_right}
use Rattle.events.proofs.HandedOn.{no_event_by}
use Rattle.events.proofs.event_reading.read_resend.Goals as goal

pub returns-in_err-end : goal.returns-in_err-end
returns-in_err-end c =
    no_event_by _ _ 1 c.from_residual.ensures c.in_err-end.ensures.1
    ∙ sym (exactly_long 1 0 (drop 1 c.args.bytes.now) resend (simp length-drop (omega (arith, c.in_err-end.ensures.0))))

pub returns : goal.returns
unfolding read_as event_of
returns c = sym (exactly_right 1 0 (drop 1 c.args.bytes.now) resend (simp length-drop (omega (arith, c.in_ok-end.ensures))))
