-- What the enums of the code stand for. Assumes nothing: these are definitions.
use Rattle.std.specs.Prelude.{ℕ, List}
use Rattle.protocol.specs.Data as defined
use Rattle.protocol.specs.Client as client
use Rattle.protocol.specs.Client.{duty, decided, share, block, resend, refused, does}
use Rattle.wire.specs.Bytes.{le_value, data_from, duty_from, share_from, part}
use Rattle.wire.specs.Meaning.{data_of, duty_of, share_of}
use Rattle.events.specs.Layout.{entries}
use Rattle.events.specs.declared.row.Row.{Row}
use Rattle.events.specs.declared.event.Event.{Event}
use Rattle.events.specs.declared.event.Event.TheVariants.{OnDuty, Decided, ShareCame, Block, Resend}
use Rattle.events.specs.declared.answer.Answer.{Answer}
use Rattle.events.specs.declared.answer.Answer.TheVariants.{Refused, Done}

-- what a row holds, as shares, data, duties and slots
unfoldable pub row_shares : Row → List client.Share
row_shares r = entries 137 share_from r.count r.bytes.now

unfoldable pub row_data : Row → List defined.Data
row_data r = entries 128 data_from r.count r.bytes.now

unfoldable pub row_duties : Row → List defined.Duty
row_duties r = entries 24 duty_from r.count r.bytes.now

unfoldable pub row_slots : Row → List ℕ
row_slots r = entries 8 (λ bs. le_value (part 0 8 bs)) r.count r.bytes.now

unfoldable pub event_of : Event → client.Event
event_of (OnDuty y) = duty (duty_of y)
event_of (Decided k d) = decided k (data_of d)
event_of (ShareCame s) = share (share_of s)
event_of (Block r) = block (row_data r)
event_of Resend = resend

unfoldable pub answer_of : Answer → client.Answer
answer_of (Refused j k) = refused j k
answer_of (Done r) = does (row_shares r.sent) (row_data r.handed_in) (row_duties r.begun) (row_slots r.ended)
