-- What the client of this stage promises: it can't do any event yet, and answers as the definitions say of such a client. Assumes nothing.
use Rattle.std.specs.Prelude.{◌≡◌, ℕ, Bool, false, List, length, slice_get, Option, Result, MatchResult}
use Rattle.std.specs.Option.{option_map}
use Rattle.protocol.specs.Data.{Data}
use Rattle.protocol.specs.Client.{Event, Limits, state, answer, lets_now}
use Rattle.wire.specs.Fixed.{Written, Unwritten}
use Rattle.wire.specs.Meaning.{entry_of}
use Rattle.wire.specs.declared.fixed.Short.{Short}
use Rattle.wire.specs.declared.values.Entry.{Entry}
use Rattle.events.specs.Layout.{parse, answer_bytes}

-- the events that it can do: none
abbrev pub none : ℕ → Bool
none k = false

-- the bytes of the answer to some bytes, after events
abbrev pub reply : Limits → List Event → List ℕ → List ℕ
reply l es bs = answer_bytes (answer l (state l es) (parse bs))

-- after any events whatever, what was written at the front of some bytes is the reply, or nothing where it has no room
abbrev pub Replies : Limits → List ℕ → List ℕ → List ℕ → Result ℕ Short → Type 0
Replies l event before after r =
    (es : List Event) → MatchResult r (Written (length (reply l es event)) (reply l es event) before after) (λ _. Unwritten (length (reply l es event)) before after)

-- after any events whatever, the deciding for a slot is let come to data just if r says so
abbrev pub Lets : Limits → ℕ → Data → Bool → Type 0
Lets l k d r = (es : List Event) → r ≡ lets_now (state l es) k d

-- after any events whatever, r is the entry at a place of the past, the largest target first
abbrev pub Remembers : Limits → ℕ → Option Entry → Type 0
Remembers l i r = (es : List Event) → option_map entry_of r ≡ slice_get (state l es).past i
