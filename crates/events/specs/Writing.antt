-- What is written, and when writing is refused. Assumes nothing: these are definitions.
use Rattle.std.specs.Prelude.{◌≡◌, ℕ, ◌+◌, ◌*◌, Bool, true, false, ◌&&◌, List, map, length, Ok, Err, Result, nat_le}
use Rattle.protocol.specs.Client.{block, does}
use Rattle.wire.specs.Fixed.{Written, Unwritten}
use Rattle.wire.specs.Meaning.{data_of, duty_of, share_of}
use Rattle.wire.specs.declared.values.Data.{Data}
use Rattle.wire.specs.declared.values.Duty.{Duty}
use Rattle.wire.specs.declared.values.Share.{Share}
use Rattle.events.specs.Layout.{event_bytes, answer_bytes}
use Rattle.events.specs.Rows.{few}
use Rattle.events.specs.declared.event.Event.{Event}
use Rattle.events.specs.declared.event.Event.TheVariants.{OnDuty, Decided, ShareCame, Block, Resend}
use Rattle.events.specs.declared.answer.Deeds.{Deeds}
use Rattle.events.specs.declared.not_written.NotWritten.{NotWritten}
use Rattle.events.specs.declared.not_written.NotWritten.TheVariants.{Short, BadRow}

-- the bytes stand at the front, if the rows are fine and there is room for them; else nothing is changed
abbrev pub Outcome : Bool → List ℕ → List ℕ → List ℕ → Result ℕ NotWritten → Type 0
Outcome fine bs before after (Ok n) = (fine ≡ true) × Written (length bs) bs before after n
Outcome fine bs before after (Err Short) = (fine ≡ true) × Unwritten (length bs) before after
Outcome fine bs before after (Err BadRow) = (fine ≡ false) × (after ≡ before)

-- the answer that something was done, and how many bytes it has
abbrev pub done_bytes : List Share → List Data → List Duty → List ℕ → List ℕ
done_bytes ss ds ys ks = answer_bytes (does (map share_of ss) (map data_of ds) (map duty_of ys) ks)

abbrev pub done_length : List Share → List Data → List Duty → List ℕ → ℕ
done_length ss ds ys ks = 5 + 137 * length ss + 128 * length ds + 24 * length ys + 8 * length ks

abbrev pub deeds_bytes : Deeds → List ℕ
deeds_bytes d = done_bytes d.sent.now d.handed_in.now d.begun.now d.ended.now

-- each of its rows has a count that is a byte
abbrev pub all_few : Deeds → Bool
all_few d = (few d.sent.now && few d.handed_in.now) && (few d.begun.now && few d.ended.now)

-- a block, of values
abbrev pub block_bytes : List Data → List ℕ
block_bytes ds = event_bytes (block (map data_of ds))

-- an event's row reaches as far as its count
abbrev pub row_long_enough : Event → Bool
row_long_enough (OnDuty y) = true
row_long_enough (Decided k d) = true
row_long_enough (ShareCame s) = true
row_long_enough (Block r) = nat_le (128 * r.count) (length r.bytes.now)
row_long_enough Resend = true
