-- What is handed on by reading: an event or an answer, or that there is none; and how long the rows in it are. Assumes nothing: these are definitions.
use Rattle.std.specs.Prelude.{◌≡◌, ℕ, ◌*◌, length, IfSome, IfOk, Some, None, Ok, Err, Option, Result}
use Rattle.protocol.specs.Client as client
use Rattle.protocol.specs.Client.{garbled}
use Rattle.events.specs.declared.row.Row.{Row}
use Rattle.events.specs.declared.event.Event.{Event}
use Rattle.events.specs.declared.event.Event.TheVariants.{OnDuty, Decided, ShareCame, Block, Resend}
use Rattle.events.specs.declared.event.Garbled.{Garbled}
use Rattle.events.specs.declared.answer.Answer.{Answer}
use Rattle.events.specs.declared.answer.Answer.TheVariants.{Refused, Done}
use Rattle.events.specs.Meaning.{event_of, answer_of}

-- an event, or bytes that are none with the place where they cease to be one
unfoldable pub read_as : Result Event Garbled → client.Event
read_as (Ok e) = event_of e
read_as (Err g) = garbled g.place

unfoldable pub answer_read : Option Answer → Option client.Answer
answer_read (Some a) = Some (answer_of a)
answer_read None = None

-- a row whose bytes are as many as its entries have, of a size each
abbrev pub ExactRow : ℕ → Row → Type 0
ExactRow size r = length r.bytes.now ≡ size * r.count

-- so is the row of a block, and so are the four of an answer that something was done; no others hold rows
abbrev pub ExactEvent : Event → Type 0
ExactEvent (OnDuty y) = Unit {0}
ExactEvent (Decided k d) = Unit {0}
ExactEvent (ShareCame s) = Unit {0}
ExactEvent (Block r) = ExactRow 128 r
ExactEvent Resend = Unit {0}

abbrev pub ExactAnswer : Answer → Type 0
ExactAnswer (Refused j k) = Unit {0}
ExactAnswer (Done r) = ExactRow 137 r.sent × ExactRow 128 r.handed_in × ExactRow 24 r.begun × ExactRow 8 r.ended

-- what was read, if anything, has such rows
abbrev pub EventExact : Result Event Garbled → Type 0
EventExact r = IfOk r (λ e. ExactEvent e)

abbrev pub AnswerExact : Option Answer → Type 0
AnswerExact r = IfSome r (λ a. ExactAnswer a)
